-- Laws of code text: the first dot, the two numbers, and that the text of a code byte reads as that byte.
use Prim.Native.Nat.{ℕ, ◌+◌, ◌-◌, ◌*◌, ◌<◌, ◌≤◌}
use mathlib.Core.Path.{◌≡◌, refl, sym, ap}
use mathlib.Core.Bool.{Bool, false}
use mathlib.Core.List.{List, [], ◌∷◌}
use native.Mathlib.Nat.{not-suc-le-zero}
use native.Mathlib.Numerals.{add-one}
use native.Mathlib.Omega.{arith}
use lib.Dec.{T, eqb, eqb→eq}
use lib.ListN.{length, replicate, length-replicate, take, drop, get_or, length-drop, drop_of_length-le}
use lib.Seq.{drop-cons, take_all}
use borrow.Author.Tests.{eq-eqb, ne_eqb}
use Rattle.ground.proofs.Choice.{on}
use Rattle.ground.proofs.Table.{at}
use Rattle.refusal.specs.Answer.{Answer, given, refused}
use Rattle.refusal.specs.Number.{number_of}
use Rattle.refusal.proofs.Answers.{not_refused}
use Rattle.refusal.proofs.Distinct.{distinct}
use Rattle.decimal.specs.Decimal.{digits_from, digits, decimal_at}
use Rattle.decimal.proofs.Reading.{small}
use Rattle.code_text.specs.CodeText.{numeral_at, dot_in, code_in, code_text, code_of}
use Rattle.refusal.specs.declared.Refusal.{Refusal}
use Rattle.std.specs.Prelude.{Result, Ok, Err}

-- Where the next byte is a dot, it is the first.
pub dot_here : (s : List ℕ) (i : ℕ) → i < length s → get_or s i 0 ≡ 46 → dot_in (drop i s) ≡ 0
unfolding dot_in
dot_here s i h e = rw (drop-cons s i 0 h, eq-eqb _ _ e)

-- Where it is none, the first dot stands one further.
pub dot_past : (s : List ℕ) (i : ℕ) → i < length s → (get_or s i 0 ≡ 46 → ⊥) → dot_in (drop i s) ≡ dot_in (drop (i + 1) s) + 1
unfolding dot_in
dot_past s i h n = rw (drop-cons s i 0 h, ne_eqb _ _ n, add-one i)

-- Past the end there is none.
pub dot_end : (s : List ℕ) (i : ℕ) → length s ≤ i → dot_in (drop i s) ≡ 0
unfolding dot_in
dot_end s i h = rw (drop_of_length-le s h)

-- It stands within the text, or there is none.
pub dot_within : (s : List ℕ) → dot_in s ≤ length s
unfolding dot_in
dot_within [] = omega arith
dot_within (b ∷ s) = on (λ (n : ℕ). n ≤ length (b ∷ s)) (eqb b 46) (λ _. omega arith) (λ _. omega (arith, dot_within s))

-- A slice from a place on is what is left there.
pub rest : (s : List ℕ) (k : ℕ) → take (length s - k) (drop k s) ≡ drop k s
rest s k = take_all (length s - k) (drop k s) (simp length-drop (omega arith))

-- A number has a first byte, which is a plus sign before its digits or the first of them.
pub numeral_none : (most : ℕ) (s : List ℕ) → length s ≡ 0 → numeral_at most s ≡ refused 15
unfolding numeral_at
numeral_none most [] h = refl
numeral_none most (b ∷ s) h = absurd (omega arith)

pub numeral_plus : (most : ℕ) (s : List ℕ) → 0 < length s → get_or s 0 0 ≡ 43 → numeral_at most s ≡ decimal_at most (drop 1 s)
unfolding numeral_at
numeral_plus most [] h e = absurd (not-suc-le-zero h)
numeral_plus most (b ∷ s) h e = rw (eq-eqb b 43 e)

pub numeral_plain : (most : ℕ) (s : List ℕ) → 0 < length s → (get_or s 0 0 ≡ 43 → ⊥) → numeral_at most s ≡ decimal_at most s
unfolding numeral_at
numeral_plain most [] h n = absurd (not-suc-le-zero h)
numeral_plain most (b ∷ s) h n = rw (ne_eqb b 43 n)

-- Class and detail of a text.
abbrev pub class_part : List ℕ → Answer ℕ
class_part s = numeral_at 7 (take (dot_in s) s)

abbrev pub detail_part : List ℕ → Answer ℕ
detail_part s = numeral_at 31 (drop (dot_in s + 1) s)

-- A number that was accepted is within the limit.
pub numeral_small : (most : ℕ) (s : List ℕ) (n : ℕ) → numeral_at most s ≡ given n → n ≤ most
unfolding numeral_at
numeral_small most [] n e = not_refused (sym e)
numeral_small most (b ∷ s) n e =
    on (λ (a : Answer ℕ). a ≡ given n → n ≤ most) (eqb b 43) (λ _. small most (digits s) n) (λ _. small most (digits (b ∷ s)) n) e

-- Both are there, or one of them is none.
pub code_good : (s : List ℕ) (c d : ℕ) → class_part s ≡ given c → detail_part s ≡ given d → code_in s ≡ given (c * 32 + d)
unfolding code_in
code_good s c d p q = rw (p, q)

pub code_no_class : (s : List ℕ) → class_part s ≡ refused 15 → code_in s ≡ refused 15
unfolding code_in
code_no_class s p = rw p

pub code_no_detail : (s : List ℕ) (c : ℕ) → class_part s ≡ given c → detail_part s ≡ refused 15 → code_in s ≡ refused 15
unfolding code_in
code_no_detail s c p q = rw (p, q)

-- A text with no dot has no detail.
pub no_dot : (s : List ℕ) → length s ≤ dot_in s → detail_part s ≡ refused 15
unfolding numeral_at
no_dot s h =
    let long : length s ≤ dot_in s + 1 = omega arith in
    rw (drop_of_length-le s long)

-- The answer is this number.
abbrev answers : ℕ → Answer ℕ → Bool
answers b (given n) = eqb n b
answers b (refused k) = false

answers_is : (b : ℕ) (a : Answer ℕ) → T (answers b a) → a ≡ given b
answers_is b (given n) t = ap given (eqb→eq n b t)
answers_is b (refused k) t = absurd t

-- The text of a code byte reads as that byte: a test over all of them.
pub text_back : (b : ℕ) → b < 256 → code_in (code_text b) ≡ given b
unfolding code_in dot_in numeral_at digits_from
text_back b h =
    answers_is b (code_in (code_text b)) (at (λ k _. answers k (code_in (code_text k))) (replicate 256 0) tt b (rw length-replicate h))

-- An answer in the words of the promise is that of one value only.
pub one_code : (a b : Result ℕ Refusal) → code_of a ≡ code_of b → a ≡ b
one_code (Ok m) (Ok n) e = cc
one_code (Ok m) (Err y) e = cc
one_code (Err x) (Ok n) e = cc
one_code (Err x) (Err y) e = let k : number_of x ≡ number_of y = cc in rw (distinct x y k)
