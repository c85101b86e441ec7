-- The text of a value, byte by byte: the length of a byte's text, and the loops over a value.
use Prim.Native.Nat.{ℕ, suc, ◌+◌, ◌*◌, ◌/◌, ◌%◌, ◌<◌, ◌≤◌}
use mathlib.Core.Path.{◌≡◌, refl, sym, ap, ◌∙◌}
use mathlib.Core.Bool.{Bool, true, false}
use mathlib.Core.List.{List, [], ◌∷◌, ◌++◌}
use native.Mathlib.Numerals.{add-one}
use native.Mathlib.Omega.{arith}
use lib.ListN.{length, get_or, drop, length-append}
use lib.Seq.{drop-cons}
use Rattle.std.specs.Prelude.{count_by, cond, not}
use Rattle.std.proofs.lemmas.List.Recursion.{is_count_by}
use Rattle.ground.specs.Choice.{pick}
use Rattle.ground.proofs.Choice.{on}
use Rattle.rfc.specs.Uri.{Kind, literal}
use Rattle.rfc.specs.Percent.{hex_digit, coded, code}
use Rattle.percent.specs.Step.{others}

-- A byte's text: one character, or three.
pub coded_literal : (kind : Kind) (b : ℕ) → literal kind b ≡ true → coded kind b ≡ (b ∷ [])
unfolding coded
coded_literal kind b e = rw e refl

pub coded_other : (kind : Kind) (b : ℕ) → literal kind b ≡ false → coded kind b ≡ (0x25 ∷ hex_digit (b / 16) ∷ hex_digit (b % 16) ∷ [])
unfolding coded
coded_other kind b e = rw e refl

-- The text of what is left of a value: a byte's, and the text of the rest.
pub code_at : (kind : Kind) (v : List ℕ) (i : ℕ) → i < length v → code kind (drop i v) ≡ coded kind (get_or v i 0) ++ code kind (drop (i + 1) v)
code_at kind v i h = ap (code kind) (drop-cons v i 0 h ∙ ap (λ (n : ℕ). get_or v i 0 ∷ drop n v) (sym (add-one i)))

-- The text of a value has two characters more for each byte that is coded, of which there are no more than bytes.
pub code_length : (kind : Kind) (v : List ℕ) → length (code kind v) ≡ length v + 2 * others kind v
code_length kind [] = refl
code_length kind (b ∷ v) = length-append (coded kind b) (code kind v) ∙ by (literal kind b) refl (code_length kind v)
  where
    by : (t : Bool) → literal kind b ≡ t → length (code kind v) ≡ length v + 2 * others kind v → length (coded kind b) + length (code kind v) ≡ suc (length v) + 2 * others kind (b ∷ v)
    by true e h = rw (coded_literal kind b e, e) (omega (arith, h))
    by false e h = rw (coded_other kind b e, e) (omega (arith, h))

pub others_small : (kind : Kind) (v : List ℕ) → others kind v ≤ length v
others_small kind [] = omega arith
others_small kind (b ∷ v) =
    on (λ (n : ℕ). n ≤ suc (length v)) (literal kind b) (λ e. omega (arith, others_small kind v)) (λ e. omega (arith, others_small kind v))

-- They are those that a test of each byte counts.
pub others_counted : (kind : Kind) (v : List ℕ) → others kind v ≡ count_by (λ b. not (literal kind b)) v
others_counted kind =
    is_count_by (others kind) (λ b. not (literal kind b)) refl (λ b v. by (literal kind b) (others kind v))
  where
    by : (t : Bool) (n : ℕ) → pick t n (suc n) ≡ cond (not t) (1 + n) n
    by true n = refl
    by false n = omega arith
