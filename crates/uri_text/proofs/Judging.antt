-- The loop over a part's text: what is left, and what that says of the whole.
use Prim.Native.Nat.{ℕ, suc, ◌+◌, ◌≤◌}
use mathlib.Core.Path.{◌≡◌, refl, sym, ap, ◌∙◌}
use mathlib.Core.Bool.{Bool, true, false}
use mathlib.Core.List.{List, [], ◌∷◌}
use native.Mathlib.Nat.{add-zero, zero-add}
use native.Mathlib.Omega.{arith}
use lib.Dec.{eqb, ltb}
use lib.ListN.{length, drop}
use Rattle.ground.specs.Choice.{pick, both, either}
use Rattle.rfc.specs.Uri.{Kind, segment, query}
use Rattle.rfc.specs.Percent.{Read, good, bad_text, bad_option, before, on_good, any, decode}
use Rattle.rfc.specs.Target.{dots, dotted}
use Rattle.rfc.proofs.Percent.{decode_plain}
use Rattle.utf8.specs.Walk.{text_from, text}
use Rattle.utf8.specs.Row.{dues}
use Rattle.utf8.proofs.Utf8.{at_end}
use Rattle.percent.proofs.Stepping.{Took}
use Rattle.uri_text.specs.Reading.{ruled, value_of}
use Rattle.uri_text.specs.Judging.{length_of, dotted_by, ruled_by}

-- The rules on a value of which `len` bytes were passed, dots alone or not, and what is left is read.
unfoldable pub judged_from : Kind → (index len : ℕ) → Bool → (count low high : ℕ) → Read (List ℕ) → Read ℕ
judged_from kind index len only count low high r =
    on_good r (λ w. ruled_by kind index (len + length w) (both only (dots w)) (text_from (dues count low high) w))

-- Judging a part's text: the whole is judged as what is left, with what was passed.
pub record Judging (kind : Kind) (index : ℕ) (s : List ℕ) (count low high : ℕ) (only : Bool) (len i : ℕ) : Type 0 where
  pub place : i ≤ length s
  pub small : len ≤ i
  pub all : judged_from kind index len only count low high (decode kind (drop i s)) ≡ length_of (value_of kind index s)

dotted_by_lem : (kind : Kind) (v : List ℕ) → dotted_by kind (length v) (dots v) ≡ dotted kind v
dotted_by_lem segment v = refl
dotted_by_lem query v = refl

length_pick : (s t : Bool) (index : ℕ) (v : List ℕ) → pick s (pick t (bad_option index) (good (length v))) bad_text ≡ length_of (pick s (pick t (bad_option index) (good v)) bad_text)
length_pick true true index v = refl
length_pick true false index v = refl
length_pick false t index v = refl

whole : (kind : Kind) (index : ℕ) (r : Read (List ℕ)) → judged_from kind index 0 true 0 0x80 0xBF r ≡ length_of (on_good r (λ v. ruled kind index v))
unfolding judged_from ruled_by ruled
whole kind index (good v) =
    ap (λ (n : ℕ). ruled_by kind index n (dots v) (text v)) (zero-add (length v))
    ∙ (ap (λ (t : Bool). pick (text v) (pick (either (ltb 255 (length v)) t) (bad_option index) (good (length v))) bad_text) (dotted_by_lem kind v)
    ∙ length_pick (text v) (either (ltb 255 (length v)) (dotted kind v)) index v)
whole kind index bad_text = refl
whole kind index (bad_option i) = refl

pub judging_start : (kind : Kind) (index : ℕ) (s : List ℕ) → Judging kind index s 0 0x80 0xBF true 0 0
judging_start kind index s = record { place = omega arith; small = omega arith; all = whole kind index (decode kind s) }

both_both : (a b c : Bool) → both a (both b c) ≡ both (both a b) c
both_both true b c = refl
both_both false b c = refl

both_true : (a : Bool) → both a true ≡ a
both_true true = refl
both_true false = refl

-- A byte more, and what it leaves due.
one_more : (kind : Kind) (index len : ℕ) (only : Bool) (count low high c l h b : ℕ) (r : Read (List ℕ)) → ((bs : List ℕ) → text_from (dues count low high) (b ∷ bs) ≡ text_from (dues c l h) bs)
    → judged_from kind index len only count low high (before b r) ≡ judged_from kind index (len + 1) (both only (eqb b 0x2E)) c l h r
unfolding judged_from
one_more kind index len only count low high c l h b (good w) e =
    let n : len + suc (length w) ≡ len + 1 + length w = omega arith in
    ap (λ (n : ℕ). ruled_by kind index n (both only (both (eqb b 0x2E) (dots w))) (text_from (dues count low high) (b ∷ w))) n
    ∙ (ap (λ (t : Bool). ruled_by kind index (len + 1 + length w) t (text_from (dues count low high) (b ∷ w))) (both_both only (eqb b 0x2E) (dots w))
    ∙ ap (ruled_by kind index (len + 1 + length w) (both (both only (eqb b 0x2E)) (dots w))) (e w))
one_more kind index len only count low high c l h b bad_text e = refl
one_more kind index len only count low high c l h b (bad_option i) e = refl

no_more : (kind : Kind) (index len : ℕ) (only : Bool) (count low high b : ℕ) (r : Read (List ℕ)) → ((i : ℕ) → r ≡ bad_option i → ⊥) → ((bs : List ℕ) → text_from (dues count low high) (b ∷ bs) ≡ false)
    → judged_from kind index len only count low high (before b r) ≡ bad_text
unfolding judged_from ruled_by
no_more kind index len only count low high b (good w) p e = rw (e w) refl
no_more kind index len only count low high b bad_text p e = refl
no_more kind index len only count low high b (bad_option i) p e = absurd (p i refl)

module _ (kind : Kind) (index : ℕ) (s : List ℕ) (count low high : ℕ) (only : Bool) (len i : ℕ) (w : Judging kind index s count low high only len i) where
  pub judging_bad : decode kind (drop i s) ≡ bad_text → bad_text ≡ length_of (value_of kind index s)
  unfolding judged_from
  judging_bad e = rw e at w.all

  pub judging_never : (b next : ℕ) → Took kind any s i b next → ((bs : List ℕ) → text_from (dues count low high) (b ∷ bs) ≡ false) → bad_text ≡ length_of (value_of kind index s)
  judging_never b next t e =
      sym (no_more kind index len only count low high b (decode kind (drop next s)) (decode_plain kind any (drop next s)) e)
      ∙ (ap (judged_from kind index len only count low high) (sym t.is) ∙ w.all)

  pub judging_turn : (b next c l h : ℕ) → Took kind any s i b next → ((bs : List ℕ) → text_from (dues count low high) (b ∷ bs) ≡ text_from (dues c l h) bs)
      → Judging kind index s c l h (both only (eqb b 0x2E)) (len + 1) next
  judging_turn b next c l h t e =
      record {
        place = t.inside;
        small = omega (arith, t.ahead, w.small);
        all = sym (one_more kind index len only count low high c l h b (decode kind (drop next s)) e) ∙ (ap (judged_from kind index len only count low high) (sym t.is) ∙ w.all);
      }

  pub judging_end : decode kind (drop i s) ≡ good [] → ruled_by kind index len only (eqb count 0) ≡ length_of (value_of kind index s)
  unfolding judged_from
  judging_end e =
      ap (λ (n : ℕ). ruled_by kind index n only (eqb count 0)) (sym (add-zero len))
      ∙ (ap (λ (t : Bool). ruled_by kind index (len + 0) t (eqb count 0)) (sym (both_true only))
      ∙ (ap (ruled_by kind index (len + 0) (both only true)) (sym (at_end count low high))
      ∙ (ap (judged_from kind index len only count low high) (sym e) ∙ w.all)))
