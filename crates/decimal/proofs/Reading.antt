-- Laws of reading a number digit by digit: what one byte more makes of it, and that a number over the limit stays over it.
use Prim.Native.Nat.{ℕ, suc, ◌+◌, ◌-◌, ◌*◌, ◌<◌, ◌≤◌}
use mathlib.Core.Path.{◌≡◌, refl, sym, ap}
use mathlib.Core.List.{List, [], ◌∷◌}
use native.Mathlib.Nat.{not-suc-le-zero}
use native.Mathlib.Numerals.{add-one}
use native.Mathlib.Omega.{arith}
use lib.ListN.{length, drop, get_or, drop_of_length-le}
use lib.Seq.{drop-cons}
use borrow.Author.Tests.{le-leb, lt-leb}
use Rattle.ground.specs.Choice.{within}
use Rattle.ground.proofs.Choice.{on, on_le}
use Rattle.refusal.specs.Answer.{Answer, given, refused, onward}
use Rattle.refusal.proofs.Answers.{not_refused, same_given}
use Rattle.decimal.specs.Decimal.{digit_after, digits_from, digits, at_most, decimal_at}

-- A byte that is a digit, or that lies below or above the digits.
pub digit_after_lem : (n b : ℕ) → 48 ≤ b → b ≤ 57 → digit_after n b ≡ given (n * 10 + (b - 48))
digit_after_lem n b low high = rw (le-leb _ _ low, le-leb _ _ high)

pub below_digits : (n b : ℕ) → b < 48 → digit_after n b ≡ refused 15
below_digits n b low = rw (lt-leb _ _ low)

pub above_digits : (n b : ℕ) → 57 < b → digit_after n b ≡ refused 15
above_digits n b high =
    let low : 48 ≤ b = omega arith in
    rw (le-leb _ _ low, lt-leb _ _ high)

-- A number within the limit, and one over it.
pub within_limit : (most n : ℕ) → n ≤ most → at_most most n ≡ given n
within_limit most n h = rw (le-leb n most h)

pub over_limit : (most n : ℕ) → most < n → at_most most n ≡ refused 15
over_limit most n h = rw (lt-leb n most h)

-- One digit more, within the limit and over it.
pub more_within : (most n b : ℕ) → 48 ≤ b → b ≤ 57 → n * 10 + (b - 48) ≤ most → onward (digit_after n b) (at_most most) ≡ given (n * 10 + (b - 48))
more_within most n b low high h = rw (digit_after_lem n b low high) (within_limit most (n * 10 + (b - 48)) h)

pub more_over : (most n b : ℕ) → 48 ≤ b → b ≤ 57 → most < n * 10 + (b - 48) → onward (digit_after n b) (at_most most) ≡ refused 15
more_over most n b low high h = rw (digit_after_lem n b low high) (over_limit most (n * 10 + (b - 48)) h)

-- What was accepted is within the limit.
at_most_lem : (most n m : ℕ) → at_most most n ≡ given m → (n ≡ m) × (m ≤ most)
at_most_lem most n m =
    on_le (λ (a : Answer ℕ). a ≡ given m → (n ≡ m) × (m ≤ most)) n most
    (λ h e. let q : n ≡ m = same_given e in (q, omega arith)) (λ h e. not_refused (sym e))

pub small : (most : ℕ) (a : Answer ℕ) (m : ℕ) → onward a (at_most most) ≡ given m → m ≤ most
small most (given n) m e = (at_most_lem most n m e).1
small most (refused k) m e = not_refused (sym e)

-- What was refused is over it.
not_within : (most n : ℕ) → at_most most n ≡ refused 15 → most < n
not_within most n =
    on_le (λ (a : Answer ℕ). a ≡ refused 15 → most < n) n most (λ h e. not_refused e) (λ h e. h)

-- A number over the limit stays over it, however it goes on.
over : (most n : ℕ) (s : List ℕ) → most < n → onward (digits_from n s) (at_most most) ≡ refused 15
unfolding digits_from
over most n [] h = over_limit most n h
over most n (b ∷ s) h =
    on (λ (a : Answer ℕ). onward (onward a (λ m. digits_from m s)) (at_most most) ≡ refused 15) (within 48 57 b)
    (λ _. over most (n * 10 + (b - 48)) s (omega arith)) (λ _. refl)

-- What a number read so far, with what is left of the text from a place on, comes to under the limit.
abbrev pub from : ℕ → List ℕ → ℕ → ℕ → Answer ℕ
from most s n i = onward (digits_from n (drop i s)) (at_most most)

-- Where one byte more gives a number within the limit, the text goes on from that number.
pub from_more : (most : ℕ) (s : List ℕ) (n i m : ℕ) → i < length s → onward (digit_after n (get_or s i 0)) (at_most most) ≡ given m → from most s n i ≡ from most s m (i + 1)
unfolding digits_from
from_more most s n i m h =
    rw (drop-cons s i 0 h, add-one)
    (on (λ (a : Answer ℕ). onward a (at_most most) ≡ given m → onward (onward a (λ k. digits_from k (drop (suc i) s))) (at_most most) ≡ onward (digits_from m (drop (suc i) s)) (at_most most))
    (within 48 57 (get_or s i 0))
    (λ _ e. rw (at_most_lem most _ m e).0) (λ _ e. not_refused (sym e)))

-- Where it does not, the text is no number within the limit.
pub from_bad : (most : ℕ) (s : List ℕ) (n i : ℕ) → i < length s → onward (digit_after n (get_or s i 0)) (at_most most) ≡ refused 15 → from most s n i ≡ refused 15
unfolding digits_from
from_bad most s n i h =
    rw (drop-cons s i 0 h)
    (on (λ (a : Answer ℕ). onward a (at_most most) ≡ refused 15 → onward (onward a (λ k. digits_from k (drop (suc i) s))) (at_most most) ≡ refused 15)
    (within 48 57 (get_or s i 0))
    (λ _ e. over most _ (drop (suc i) s) (not_within most _ e)) (λ _ e. refl))

-- At the end the number is what was read.
pub from_end : (most : ℕ) (s : List ℕ) (n i : ℕ) → length s ≤ i → n ≤ most → from most s n i ≡ given n
unfolding digits_from
from_end most s n i h l = rw (drop_of_length-le s h) (within_limit most n l)

-- No digits are no number, and digits that are there are read from zero.
pub digits_none : (s : List ℕ) → length s ≡ 0 → digits s ≡ refused 15
digits_none [] h = refl
digits_none (b ∷ s) h = absurd (omega arith)

pub digits_start : (s : List ℕ) → 0 < length s → digits s ≡ digits_from 0 s
digits_start [] h = absurd (not-suc-le-zero h)
digits_start (b ∷ s) h = refl

pub from_start : (most : ℕ) (s : List ℕ) → 0 < length s → decimal_at most s ≡ from most s 0 0
from_start most s h = ap (λ (a : Answer ℕ). onward a (at_most most)) (digits_start s h)
