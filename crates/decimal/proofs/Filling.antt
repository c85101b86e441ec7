-- Decimal digits from the last to the first: what a loop over them keeps.
use Prim.Native.Nat.{ℕ, zero, suc, ◌+◌, ◌-◌, ◌/◌, ◌%◌, ◌^◌, ◌<◌, ◌≤◌}
use mathlib.Core.Path.{◌≡◌, sym, ◌∙◌, ap}
use mathlib.Core.List.{List, [], ◌∷◌, ◌++◌, append_assoc, append-nil}
use native.Mathlib.Nat.{pow-suc, div-lt_iff_lt-mul}
use native.Mathlib.Numerals.{sub-one}
use native.Mathlib.Omega.{arith}
use lib.ListN.{length, take, drop, length-drop, set, length-set, drop_of_length-le}
use lib.Seq.{take_all}
use borrow.Author.Tests.{lt-ltb, le-ltb}
use Rattle.placing.proofs.Draining.{drop_set}
use Rattle.decimal.specs.Decimal.{decimal_in, decimal}

-- The digits of a number are those of what is left of it, and then the digits that stand behind the place `first`.
pub record Left (number : ℕ) (digits : List ℕ) (first rest : ℕ) : Type 0 where
  pub size : length digits ≡ 20
  pub place : first < 20
  pub small : rest < 10 ^ suc first
  pub text : decimal number ≡ decimal_in (suc first) rest ++ drop (suc first) digits

-- A number of more than one digit: the digits before its last, and the last.
more : (places n : ℕ) → 10 ≤ n → decimal_in (suc places) n ≡ decimal_in places (n / 10) ++ ((48 + n % 10) ∷ [])
unfolding decimal_in
more places n h = rw (le-ltb n 10 h)

-- A number of one digit.
one : (places n : ℕ) → n < 10 → decimal_in (suc places) n ≡ (48 + n) ∷ []
unfolding decimal_in
one places n h = rw (lt-ltb n 10 h)

pub start : (number : ℕ) (digits : List ℕ) → length digits ≡ 20 → number < 2 ^ 64 → Left number digits 19 number
start number digits e h =
    record {
      size = e;
      place = omega arith;
      small = omega arith;
      text = sym (rw (drop_of_length-le digits {i = 20} (omega arith)) (append-nil (decimal_in 20 number)));
    }

-- A number of more than one digit has a place before its last.
pub place_before : {number : ℕ} {digits : List ℕ} (first rest : ℕ) → Left number digits first rest → 10 ≤ rest → 1 ≤ first
place_before zero rest g h = absurd (omega (arith, g.small))
place_before (suc first) rest g h = omega arith

-- The last digit is stored, and the others are left.
pub turn : {number : ℕ} {digits : List ℕ} (first rest : ℕ) → Left number digits first rest → 10 ≤ rest → Left number (set digits first (48 + rest % 10)) (first - 1) (rest / 10)
turn zero rest g h = absurd (omega (arith, place_before zero rest g h))
turn {digits = digits} (suc first) rest g h =
    rw (sub-one (suc first))
    (record {
      size = rw length-set g.size;
      place = omega (arith, g.place);
      small = (div-lt_iff_lt-mul {k = 10} (omega arith)).1 (rw pow-suc at g.small);
      text =
          g.text
          ∙ rw (more (suc first) rest h) (append_assoc (decimal_in (suc first) (rest / 10)) ((48 + rest % 10) ∷ []) (drop (suc (suc first)) digits))
          ∙ ap (λ (l : List ℕ). decimal_in (suc first) (rest / 10) ++ l) (sym (drop_set digits (suc first) (48 + rest % 10) (omega (arith, g.size, g.place))));
    })

-- The first digit is stored, and nothing is left.
pub finish : {number : ℕ} {digits : List ℕ} (first rest : ℕ) → Left number digits first rest → rest < 10 → decimal number ≡ take (20 - first) (drop first (set digits first (48 + rest)))
finish {digits = digits} first rest g h =
    g.text
    ∙ rw (one first rest h) (sym (drop_set digits first (48 + rest) (omega (arith, g.size, g.place))))
    ∙ sym (take_all (20 - first) (drop first (set digits first (48 + rest))) (simp (length-drop, length-set) (omega (arith, g.size))))
