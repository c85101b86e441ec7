-- Numbers as they are put are read back: their digits, up to a mark.
use Prim.Native.Nat.{ℕ, zero, suc, ◌+◌, ◌/◌, ◌%◌, ◌^◌, ◌<◌, ◌≤◌}
use mathlib.Core.Path.{◌≡◌, refl, ap}
use mathlib.Core.Bool.{Bool, true, false}
use mathlib.Core.List.{List, [], ◌∷◌, ◌++◌}
use native.Mathlib.Nat.{pow-suc, div-lt_iff_lt-mul}
use native.Mathlib.Omega.{arith}
use lib.Dec.{ltb}
use lib.ListN.{length, get_or, drop, length-append}
use lib.Seq.{take_at, drop-append-add}
use borrow.Author.Tests.{lt-ltb, eq-eqb, ne_eqb}
use Rattle.ground.specs.Choice.{both}
use Rattle.ground.proofs.Choice.{on_lt, by_lt}
use Rattle.refusal.specs.Answer.{Answer, given}
use Rattle.decimal.specs.Decimal.{decimal_in, decimal}
use Rattle.decimal.proofs.Laws.{decimal_digits}
use Rattle.decimal.proofs.Reading.{within_limit}
use Rattle.uri_text.specs.Tally.{first_length}
use Rattle.peer_reading.specs.Reading.{zero_first, numeral, number_then}

-- A character that stands nowhere in a text.
abbrev pub Without : ℕ → List ℕ → Type 0
Without mark [] = Unit {0}
Without mark (c ∷ s) = (c ≡ mark → ⊥) × Without mark s

pub without_append : (mark : ℕ) (s t : List ℕ) → Without mark s → Without mark t → Without mark (s ++ t)
without_append mark [] t a b = b
without_append mark (c ∷ s) t a b = (a.0, without_append mark s t a.1 b)

-- Such a text ends where the character stands first.
pub first_at : (mark : ℕ) (s t : List ℕ) → Without mark s → first_length mark (s ++ (mark ∷ t)) ≡ length s
unfolding first_length
first_at mark [] t w = rw (eq-eqb mark mark refl) refl
first_at mark (c ∷ s) t w = rw (ne_eqb c mark w.0) (ap suc (first_at mark s t w.1))

pub after_mark : (mark : ℕ) (s t : List ℕ) → drop (length s + 1) (s ++ (mark ∷ t)) ≡ t
after_mark mark s t = drop-append-add s (mark ∷ t) 1

-- No mark is a digit, and the first digit of a number is 0 for zero alone.
pub digits_without : (mark : ℕ) → ((d : ℕ) → d < 10 → 48 + d ≡ mark → ⊥) → (places n : ℕ) → Without mark (decimal_in places n)
unfolding decimal_in
digits_without mark m zero n = tt
digits_without mark m (suc places) n =
    on_lt (Without mark) n 10 (λ h. (m n h, tt))
    (λ h. without_append mark (decimal_in places (n / 10)) ((48 + n % 10) ∷ []) (digits_without mark m places (n / 10)) (m (n % 10) (omega arith), tt))

front : (s t : List ℕ) → 49 ≤ get_or s 0 0 → 49 ≤ get_or (s ++ t) 0 0
front [] t h = absurd (omega arith)
front (c ∷ s) t h = h

leads : (places n : ℕ) → 1 ≤ n → n < 10 ^ places → 49 ≤ get_or (decimal_in places n) 0 0
unfolding decimal_in
leads zero n h l = absurd (omega (arith, l))
leads (suc places) n h l =
    on_lt (λ (s : List ℕ). 49 ≤ get_or s 0 0) n 10 (λ d. omega arith)
    (λ d. front (decimal_in places (n / 10)) ((48 + n % 10) ∷ []) (leads places (n / 10) (omega arith) ((div-lt_iff_lt-mul {k = 10} (omega arith)).1 (rw pow-suc at l))))

neither_way : (a : Bool) → both a false ≡ false
neither_way true = refl
neither_way false = refl

single : (n : ℕ) → n ≡ 0 → zero_first (decimal n) ≡ false
unfolding decimal_in
single n e = rw e refl

no_zero_first : (n : ℕ) → n < 10 ^ 20 → zero_first (decimal n) ≡ false
no_zero_first n h =
    by_lt 0 n
    (λ some. let l = leads 20 n some h in rw (ne_eqb (get_or (decimal n) 0 0) 48 (λ e. omega arith)) (neither_way (ltb 1 (length (decimal n)))))
    (λ none. single n (omega arith))

-- Numbers of 16 bits are below 10 ^ 20.
pub few_digits : (n : ℕ) → n ≤ 65535 → n < 10 ^ 20
few_digits n h = omega arith

pub numeral_decimal : (most n : ℕ) → n ≤ most → n ≤ 65535 → numeral most (decimal n) ≡ given n
unfolding numeral
numeral_decimal most n h small =
    rw (no_zero_first n (few_digits n small), decimal_digits n (few_digits n small)) (within_limit most n h)

-- A number before its mark.
pub then_number : {A : Type 0} (mark most n : ℕ) (t : List ℕ) (next : ℕ → List ℕ → Answer A) → Without mark (decimal n) → n ≤ most → n ≤ 65535
    → number_then mark most (decimal n ++ (mark ∷ t)) next ≡ next n t
then_number mark most n t next w h small =
    let d : List ℕ = decimal n in
    let k : first_length mark (d ++ (mark ∷ t)) ≡ length d = first_at mark d t w in
    let l : length d < length (d ++ (mark ∷ t)) = omega (arith, length-append d (mark ∷ t)) in
    rw (k, lt-ltb (length d) (length (d ++ (mark ∷ t))) l, take_at d (mark ∷ t) (length d) refl, numeral_decimal most n h small, after_mark mark d t) refl
