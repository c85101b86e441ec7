-- Laws of decimal numbers: the digits of a number read as that number, and how many there are.
use Prim.Native.Nat.{ℕ, zero, suc, ◌+◌, ◌-◌, ◌*◌, ◌/◌, ◌%◌, ◌^◌, ◌<◌, ◌≤◌}
use mathlib.Core.Path.{◌≡◌, refl, ap, ◌∙◌}
use mathlib.Core.List.{List, [], ◌∷◌, ◌++◌}
use native.Mathlib.Nat.{pow-suc, div-lt_iff_lt-mul}
use native.Mathlib.Omega.{arith}
use lib.ListN.{length, length-append}
use Rattle.ground.specs.Choice.{within}
use Rattle.ground.proofs.Choice.{on, on_lt}
use Rattle.refusal.specs.Answer.{Answer, given, onward}
use Rattle.decimal.specs.Decimal.{decimal_in, decimal, digits_from, digits}
use Rattle.decimal.proofs.Reading.{digit_after_lem, digits_start}

-- A number has no more digits than places.
pub decimal_size : (places n : ℕ) → length (decimal_in places n) ≤ places
unfolding decimal_in
decimal_size zero n = omega arith
decimal_size (suc places) n =
    on_lt (λ (l : List ℕ). length l ≤ suc places) n 10 (λ h. omega arith)
    (λ h. omega (arith, length-append (decimal_in places (n / 10)) ((48 + n % 10) ∷ []), decimal_size places (n / 10)))

-- Digits read in two goes.
pub digits_append : (n : ℕ) (s t : List ℕ) → digits_from n (s ++ t) ≡ onward (digits_from n s) (λ m. digits_from m t)
unfolding digits_from
digits_append n [] t = refl
digits_append n (b ∷ s) t =
    on (λ (a : Answer ℕ). onward a (λ m. digits_from m (s ++ t)) ≡ onward (onward a (λ m. digits_from m s)) (λ m. digits_from m t)) (within 48 57 b)
    (λ _. digits_append (n * 10 + (b - 48)) s t) (λ _. refl)

-- One digit, and none.
one_digit : (n d : ℕ) → d < 10 → digits_from n ((48 + d) ∷ []) ≡ given (n * 10 + d)
unfolding digits_from
one_digit n d h = let e : n * 10 + (48 + d - 48) ≡ n * 10 + d = omega arith in rw (digit_after_lem n (48 + d) (omega arith) (omega arith)) (ap given e)

none : digits_from 0 [] ≡ given 0
unfolding digits_from
none = refl

-- The digits of a number, read from zero.
from_zero : (places n : ℕ) → n < 10 ^ places → digits_from 0 (decimal_in places n) ≡ given n
unfolding decimal_in
from_zero zero n h = none ∙ ap given (let z : 0 ≡ n = omega (arith, h) in z)
from_zero (suc places) n h =
    on_lt (λ (l : List ℕ). digits_from 0 l ≡ given n) n 10 (λ d. one_digit 0 n d ∙ ap given (omega arith))
    (λ d.
    let rest : n / 10 < 10 ^ places = (div-lt_iff_lt-mul {k = 10} (omega arith)).1 (rw pow-suc at h) in
    digits_append 0 (decimal_in places (n / 10)) ((48 + n % 10) ∷ [])
    ∙ rw (from_zero places (n / 10) rest) (one_digit (n / 10) (n % 10) (omega arith) ∙ ap given (omega arith)))

-- A number that has a place has a digit.
some_digit : (places n : ℕ) → 0 < length (decimal_in (suc places) n)
unfolding decimal_in
some_digit places n =
    on_lt (λ (l : List ℕ). 0 < length l) n 10 (λ h. omega arith) (λ h. simp length-append (omega arith))

-- The digits of a number read as that number.
pub decimal_digits : (n : ℕ) → n < 10 ^ 20 → digits (decimal n) ≡ given n
decimal_digits n h = digits_start (decimal n) (some_digit 19 n) ∙ from_zero 20 n h
