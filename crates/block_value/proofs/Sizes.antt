-- Laws of the sizes of a strict block: what holds of each of them.
use Prim.Native.Nat.{ℕ, ◌<◌}
use mathlib.Core.Path.{◌≡◌, refl, sym, subst}
use mathlib.Core.Bool.{Bool, true}
use mathlib.Core.List.{List, [], ◌∷◌}
use native.Mathlib.Omega.{arith}
use lib.Dec.{T, ltb, lit<}
use Rattle.ground.specs.Table.{listed}
use Rattle.rfc.specs.Block.{size}
use Rattle.ground.proofs.Choice.{on_eq}
use Rattle.block_value.specs.Size.{exponent_of, power_up_to}
use Rattle.block_value.specs.Strict.{strict_sizes}

-- It holds of every entry.
abbrev pub All : (ℕ → Type 0) → List ℕ → Type 0
All P [] = Unit {0}
All P (x ∷ xs) = P x × All P xs

-- What holds of every entry holds of a listed number.
pub listed_all : (P : ℕ → Type 0) (n : ℕ) (xs : List ℕ) → listed n xs ≡ true → All P xs → P n
listed_all P n [] h ps = let z : ◌≡◌ {A = ℕ} 0 1 = cc in absurd (omega arith)
listed_all P n (x ∷ xs) h ps =
    on_eq (λ (l : Bool). l ≡ true → P n) n x (λ e _. subst P (sym e) ps.0) (λ _ l. listed_all P n xs l ps.1) h

-- A strict size is from 1 to 4095, and the size of its exponent, which is at most 6.
pub record StrictSize (n : ℕ) : Type 0 where
  pub positive : 0 < n
  pub small : n < 4096
  pub back : size (exponent_of n) ≡ n
  pub exponent : exponent_of n < 7

computed : (n : ℕ) → T (ltb 0 n) → T (ltb n 4096) → size (exponent_of n) ≡ n → T (ltb (exponent_of n) 7) → StrictSize n
computed n p s b e = record { positive = lit< p; small = lit< s; back = b; exponent = lit< e }

pub strict_size : (n : ℕ) → listed n strict_sizes ≡ true → StrictSize n
unfolding exponent_of power_up_to
strict_size n h =
    listed_all StrictSize n strict_sizes h (
      computed 16 tt tt refl tt,
      (
        computed 32 tt tt refl tt,
        (
          computed 64 tt tt refl tt,
          (
            computed 128 tt tt refl tt,
            (computed 256 tt tt refl tt, (computed 512 tt tt refl tt, (computed 1024 tt tt refl tt, tt))),
          ),
        ),
      ),
    )
