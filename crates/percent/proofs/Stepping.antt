-- What stands at a place of a part's text, against its decoding: a byte and then the rest, the end, or no text.
use Prim.Native.Nat.{ℕ, ◌+◌, ◌-◌, ◌*◌, ◌<◌, ◌≤◌}
use mathlib.Core.Path.{◌≡◌, refl, sym, ap, subst, ◌∙◌}
use mathlib.Core.Bool.{true, false}
use mathlib.Core.List.{List, [], ◌∷◌}
use native.Mathlib.Numerals.{add-one}
use native.Mathlib.Omega.{arith}
use lib.Dec.{ltb}
use lib.ListN.{length, get_or, drop, length-drop, drop_of_length-le}
use lib.Seq.{drop-cons}
use borrow.Author.Tests.{lt-ltb, le-ltb, eq-eqb, ne_eqb}
use Rattle.ground.specs.Choice.{pick, both}
use Rattle.ground.proofs.Choice.{on, on_lt, on_le, on_eq, by_lt}
use Rattle.rfc.specs.Uri.{Kind, literal}
use Rattle.rfc.specs.Percent.{hex_value, Due, good, bad_text, before, any, first, decode_from}
use Rattle.rfc.proofs.Percent.{no_text}
use Rattle.std.specs.Prelude.{Option, Some, None, Result, Ok, Err}
use Rattle.refusal.specs.declared.Refusal.{Refusal}
use Rattle.refusal.specs.declared.Refusal.TheVariants.{BadText}
use Rattle.percent.specs.declared.Coded.{Coded}
use Rattle.percent.specs.Step.{a_byte, percent_at, step_at}

-- A byte stands at a place, in one character or three, and the rest from the next.
pub record Took (kind : Kind) (due : Due) (s : List ℕ) (i b next : ℕ) : Type 0 where
  pub is : decode_from kind due (drop i s) ≡ before b (decode_from kind any (drop next s))
  pub ahead : i < next
  pub inside : next ≤ length s

abbrev pub Stepped : Kind → Due → List ℕ → ℕ → Result (Option Coded) Refusal → Type 0
Stepped kind due s i (Ok (Some c)) = Took kind due s i c.byte c.next
Stepped kind due s i (Ok None) = (decode_from kind due (drop i s) ≡ good []) × (length s ≤ i)
Stepped kind due s i (Err e) = decode_from kind due (drop i s) ≡ bad_text

pub left_at : (s : List ℕ) (i : ℕ) → i < length s → drop i s ≡ (get_or s i 0 ∷ drop (i + 1) s)
left_at s i h = drop-cons s i 0 h ∙ ap (λ (n : ℕ). get_or s i 0 ∷ drop n s) (sym (add-one i))

short_first : (kind : Kind) (x : List ℕ) → length x < 2 → decode_from kind first x ≡ bad_text
unfolding decode_from
short_first kind [] h = refl
short_first kind (c ∷ []) h = on (λ r. r ≡ bad_text) (ltb (hex_value c) 16) (λ _. refl) (λ _. refl)
short_first kind (c ∷ d ∷ x) h = absurd (omega arith)

module _ (kind : Kind) (s : List ℕ) (i : ℕ) where
  pub percent_short : length s - i < 2 → decode_from kind first (drop i s) ≡ bad_text
  percent_short h = short_first kind (drop i s) (rw length-drop h)

  pub percent_first : (h : ℕ) → i < length s → h ≡ hex_value (get_or s i 0) → 16 ≤ h → decode_from kind first (drop i s) ≡ bad_text
  unfolding decode_from
  percent_first h p e l =
      let k : 16 ≤ hex_value (get_or s i 0) = omega arith in
      ap (decode_from kind first) (left_at s i p) ∙ rw (le-ltb (hex_value (get_or s i 0)) 16 k) refl

  two_left : i + 2 ≤ length s → drop i s ≡ (get_or s i 0 ∷ get_or s (i + 1) 0 ∷ drop (i + 2) s)
  two_left p =
      let n : i + 1 + 1 ≡ i + 2 = omega arith in
      left_at s i (omega arith) ∙ ap (λ (x : List ℕ). get_or s i 0 ∷ x) (left_at s (i + 1) (omega arith) ∙ ap (λ (n : ℕ). get_or s (i + 1) 0 ∷ drop n s) n)

  pub percent_second : (h l : ℕ) → i + 2 ≤ length s → h ≡ hex_value (get_or s i 0) → h < 16 → l ≡ hex_value (get_or s (i + 1) 0) → 16 ≤ l → decode_from kind first (drop i s) ≡ bad_text
  unfolding decode_from
  percent_second h l p e a f b =
      let k : hex_value (get_or s i 0) < 16 = omega arith in
      let m : 16 ≤ hex_value (get_or s (i + 1) 0) = omega arith in
      ap (decode_from kind first) (two_left p) ∙ rw (lt-ltb (hex_value (get_or s i 0)) 16 k, le-ltb (hex_value (get_or s (i + 1) 0)) 16 m) refl

  pub percent_good : (h l : ℕ) → i + 2 ≤ length s → h ≡ hex_value (get_or s i 0) → h < 16 → l ≡ hex_value (get_or s (i + 1) 0) → l < 16 → Took kind first s i (h * 16 + l) (i + 2)
  unfolding decode_from
  percent_good h l p e a f b =
      let k : hex_value (get_or s i 0) < 16 = omega arith in
      let m : hex_value (get_or s (i + 1) 0) < 16 = omega arith in
      record {
        is = ap (decode_from kind first) (two_left p) ∙ rw (lt-ltb (hex_value (get_or s i 0)) 16 k, lt-ltb (hex_value (get_or s (i + 1) 0)) 16 m, e, f) refl;
        ahead = omega arith;
        inside = p;
      }

  pub byte_percent : (r : Result (Option Coded) Refusal) → i < length s → get_or s i 0 ≡ 0x25 → Stepped kind first s (i + 1) r → Stepped kind any s i r
  unfolding decode_from
  byte_percent (Ok (Some c)) h e t = record { is = (ap (decode_from kind any) (left_at s i h) ∙ rw (eq-eqb (get_or s i 0) 0x25 e) refl) ∙ t.is; ahead = omega (arith, t.ahead); inside = t.inside }
  byte_percent (Ok None) h e t = absurd (no_text [] (sym (ap (decode_from kind first) (drop_of_length-le s t.1)) ∙ t.0))
  byte_percent (Err r) h e t = (ap (decode_from kind any) (left_at s i h) ∙ rw (eq-eqb (get_or s i 0) 0x25 e) refl) ∙ t

  pub byte_literal : i < length s → (get_or s i 0 ≡ 0x25 → ⊥) → literal kind (get_or s i 0) ≡ true → Took kind any s i (get_or s i 0) (i + 1)
  unfolding decode_from
  byte_literal h n l = record { is = ap (decode_from kind any) (left_at s i h) ∙ rw (ne_eqb (get_or s i 0) 0x25 n, l) refl; ahead = omega arith; inside = omega arith }

  pub byte_bad : i < length s → (get_or s i 0 ≡ 0x25 → ⊥) → literal kind (get_or s i 0) ≡ false → decode_from kind any (drop i s) ≡ bad_text
  unfolding decode_from
  byte_bad h n l = ap (decode_from kind any) (left_at s i h) ∙ rw (ne_eqb (get_or s i 0) 0x25 n, l) refl

-- The digits of a percent code.
percented : (kind : Kind) (s : List ℕ) (i : ℕ) → i ≤ length s → Stepped kind first s i (percent_at s i)
unfolding percent_at
percented kind s i p =
    on_lt (Stepped kind first s i) (length s - i) 2 (λ h. percent_short kind s i h)
    (λ h. digits h)
  where
    digits : 2 ≤ length s - i → Stepped kind first s i (pick (both (ltb (hex_value (get_or s i 0)) 16) (ltb (hex_value (get_or s (i + 1) 0)) 16)) (a_byte (hex_value (get_or s i 0) * 16 + hex_value (get_or s (i + 1) 0)) (i + 2)) (Err BadText))
    digits h =
        by_lt (hex_value (get_or s i 0)) 16
        (λ a. by_lt (hex_value (get_or s (i + 1) 0)) 16
        (λ b. rw (lt-ltb (hex_value (get_or s i 0)) 16 a, lt-ltb (hex_value (get_or s (i + 1) 0)) 16 b) (percent_good kind s i _ _ (omega arith) refl a refl b))
        (λ b. rw (lt-ltb (hex_value (get_or s i 0)) 16 a, le-ltb (hex_value (get_or s (i + 1) 0)) 16 b) (percent_second kind s i _ _ (omega arith) refl a refl b)))
        (λ a. rw (le-ltb (hex_value (get_or s i 0)) 16 a) (percent_first kind s i _ (omega arith) refl a))

-- What stands at a place, and what it leaves to be decoded.
pub stepped : (kind : Kind) (s : List ℕ) (i : ℕ) → Stepped kind any s i (step_at kind s i)
unfolding step_at decode_from
stepped kind s i =
    on_le (Stepped kind any s i) (length s) i (λ h. (ap (decode_from kind any) (drop_of_length-le s h), h))
    (λ h. on_eq (Stepped kind any s i) (get_or s i 0) 0x25
    (λ e. byte_percent kind s i (percent_at s (i + 1)) h e (percented kind s (i + 1) (omega arith)))
    (λ n. on (Stepped kind any s i) (literal kind (get_or s i 0)) (λ l. byte_literal kind s i h n l) (λ l. byte_bad kind s i h n l)))

pub took : (kind : Kind) (s : List ℕ) (i : ℕ) (c : Coded) (r : Result (Option Coded) Refusal) → r ≡ step_at kind s i → r ≡ Ok (Some c) → Took kind any s i c.byte c.next
took kind s i c r t e = subst (Stepped kind any s i) (sym t ∙ e) (stepped kind s i)

pub ended : (kind : Kind) (s : List ℕ) (i : ℕ) (r : Result (Option Coded) Refusal) → r ≡ step_at kind s i → r ≡ Ok None → decode_from kind any (drop i s) ≡ good []
ended kind s i r t e = (subst (Stepped kind any s i) (sym t ∙ e) (stepped kind s i)).0

pub stopped : (kind : Kind) (s : List ℕ) (i : ℕ) (r : Result (Option Coded) Refusal) (e : Refusal) → r ≡ step_at kind s i → r ≡ Err e → decode_from kind any (drop i s) ≡ bad_text
stopped kind s i r k t e = subst (Stepped kind any s i) (sym t ∙ e) (stepped kind s i)
