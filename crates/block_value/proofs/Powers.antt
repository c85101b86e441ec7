-- Laws of the largest power of 2 not above a number: there is one, one only, and it is what the definition computes.
use Prim.Native.Nat.{ℕ, zero, suc, ◌+◌, ◌-◌, ◌*◌, ◌/◌, ◌%◌, ◌^◌, ◌<◌, ◌≤◌}
use mathlib.Core.Path.{◌≡◌}
use native.Mathlib.Numerals.{add-one}
use native.Mathlib.Nat.{pow-suc, mod-lt}
use native.Mathlib.Omega.{arith}
use lib.Dec.{lit≤}
use lib.Pow.{pow_pos, pow_mono, split}
use Rattle.ground.proofs.Choice.{on_le}
use Rattle.block_value.specs.Size.{Floor, power_up_to, exponent_of}

-- A number that is halved to 1.
pub halved : (n k : ℕ) → n / 2 ^ k ≡ 1 → Floor n k
halved n k e =
    let whole : n / 2 ^ k * 2 ^ k + n % 2 ^ k ≡ n = split n k in
    let one : 1 * 2 ^ k + n % 2 ^ k ≡ n = rw e at whole in
    let rest : n % 2 ^ k < 2 ^ k = mod-lt n (pow_pos k) in
    record { low = omega (arith, one); high = rw (add-one, pow-suc) (omega (arith, one, rest)) }

-- The definition's power is the largest, for a number that is not 0 and has no more bits than the bound.
pub power_floor : (k n : ℕ) → 0 < n → n < 2 ^ suc k → Floor n (power_up_to k n)
unfolding power_up_to
power_floor zero n p h = record { low = p; high = h }
power_floor (suc k) n p h =
    on_le (Floor n) (2 ^ suc k) n (λ l. record { low = l; high = rw add-one h }) (λ l. power_floor k n p l)

pub power_bound : (k n : ℕ) → power_up_to k n ≤ k
unfolding power_up_to
power_bound zero n = lit≤ tt
power_bound (suc k) n = on_le (λ (m : ℕ). m ≤ suc k) (2 ^ suc k) n (λ _. omega arith) (λ _. omega (arith, power_bound k n))

not_below : (n a b : ℕ) → Floor n a → 2 ^ b ≤ n → a < b → ⊥
not_below n a b f l h =
    let m : 2 ^ (a + 1) ≤ 2 ^ b = pow_mono (omega arith) in
    omega (arith, f.high)

not_above : (n a b : ℕ) → Floor n a → n < 2 ^ b → b ≤ a → ⊥
not_above n a b f l h =
    let m : 2 ^ b ≤ 2 ^ a = pow_mono h in
    omega (arith, f.low)

-- There is one such power only.
pub one_floor : (n a b : ℕ) → Floor n a → Floor n b → a ≡ b
one_floor n a b f g = omega (arith, not_below n a b f g.low, not_below n b a g f.low)

-- The exponent of a size from 16 to 4095 is floor of log2, minus 4; below 16 it is 0.
pub exponent_floor : (n : ℕ) → 16 ≤ n → n < 4096 → Floor n (exponent_of n + 4)
unfolding exponent_of
exponent_floor n l h =
    let f : Floor n (power_up_to 11 n) = power_floor 11 n (omega arith) h in
    let four : 4 ≤ power_up_to 11 n = omega (arith, not_below n (power_up_to 11 n) 4 f l) in
    let e : power_up_to 11 n - 4 + 4 ≡ power_up_to 11 n = omega arith in
    rw e f

pub exponent_least : (n : ℕ) → 0 < n → n < 16 → exponent_of n ≡ 0
unfolding exponent_of
exponent_least n l h =
    let f : Floor n (power_up_to 11 n) = power_floor 11 n l (omega arith) in
    let four : power_up_to 11 n < 4 = omega (arith, not_above n (power_up_to 11 n) 4 f h) in
    omega arith
