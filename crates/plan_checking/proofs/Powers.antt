-- Widths of blocks, and their starts and stops as the code makes them.
use Prim.Native.Nat.{ℕ, suc, ◌+◌, ◌*◌, ◌/◌, ◌%◌, ◌^◌, ◌<◌, ◌≤◌}
use mathlib.Core.Path.{◌≡◌, sym, ap, ◌∙◌}
use native.Mathlib.Omega.{arith}
use native.Mathlib.Nat.{mul-le-mul, add-mul, one-mul}
use lib.Dec.{T, leb, lit≤}
use Rattle.rfc.specs.Block.{block_of}
use Rattle.plan_checking.specs.Plan.{start, stop}
use Rattle.plan_checking.specs.Steps.{Width, At}

-- The width of one exponent.
pub key : (exponent k w : ℕ) → exponent ≡ k → w ≡ 2 ^ k → T (leb 1 w) → T (leb w 128) → Width exponent w
key exponent k w h e l m = record { is = e ∙ ap (λ (n : ℕ). 2 ^ n) (sym h); least = lit≤ l; most = lit≤ m }

-- A start, as a product of 64 bits.
pub start_at : (value w : ℕ) → value < 4294967296 → Width (value % 8) w → At (start (block_of value)) (value / 16 * w)
unfolding block_of
start_at value w h p =
    let m : value / 16 * w ≤ 268435455 * 128 = mul-le-mul {n₁ = value / 16} {m₁ = w} {n₂ = 268435455} {m₂ = 128} (omega arith) p.most in
    record { is = ap (λ (n : ℕ). value / 16 * n) p.is; most = omega (arith, m) }

-- A stop, as a product of 64 bits.
pub stop_at : (value w : ℕ) → value < 4294967296 → Width (value % 8) w → At (stop (block_of value)) ((value / 16 + 1) * w)
unfolding block_of
stop_at value w h p =
    let m : (value / 16 + 1) * w ≤ 268435456 * 128 = mul-le-mul {n₁ = value / 16 + 1} {m₁ = w} {n₂ = 268435456} {m₂ = 128} (omega arith) p.most in
    let e : (value / 16 + 1) * w ≡ value / 16 * w + w = add-mul (value / 16) 1 w ∙ ap (λ (n : ℕ). value / 16 * w + n) (one-mul w) in
    record { is = e ∙ ap (λ (n : ℕ). value / 16 * n + n) p.is; most = omega (arith, m) }

-- An exponent of 3 bits that is none of 0 to 6 is 7.
last : (e : ℕ) → e < 8 → 7 ≤ e → e ≡ 7
last e h l = omega arith

above : (k e : ℕ) → (e ≡ k → ⊥) → k ≤ e → suc k ≤ e
above k e n h = omega arith

pub seven : (e : ℕ) → e < 8 → (e ≡ 0 → ⊥) → (e ≡ 1 → ⊥) → (e ≡ 2 → ⊥) → (e ≡ 3 → ⊥) → (e ≡ 4 → ⊥) → (e ≡ 5 → ⊥) → (e ≡ 6 → ⊥) → e ≡ 7
seven e h n0 n1 n2 n3 n4 n5 n6 =
    last e h (above 6 e n6 (above 5 e n5 (above 4 e n4 (above 3 e n3 (above 2 e n2 (above 1 e n1 (above 0 e n0 (omega arith))))))))
