-- Coded and decoded: a value's text is decoded as the value, and holds no character that isn't literal; what is decoded is bytes.
use Prim.Native.Nat.{ℕ, ◌+◌, ◌*◌, ◌/◌, ◌%◌, ◌<◌, ◌≤◌}
use mathlib.Core.Path.{◌≡◌, refl, ap, subst, ◌∙◌}
use mathlib.Core.Bool.{false}
use mathlib.Core.List.{List, [], ◌∷◌, ◌++◌}
use native.Mathlib.Nat.{div-add-mod'}
use native.Mathlib.Omega.{arith}
use lib.Dec.{eqb, ltb}
use lib.ListN.{length}
use borrow.Author.Tests.{ne_eqb, lt-ltb}
use Rattle.ground.specs.Part.{Bytes}
use Rattle.ground.proofs.Choice.{on, on_lt}
use Rattle.rfc.specs.Uri.{Kind, literal}
use Rattle.rfc.specs.Percent.{hex_digit, hex_value, coded, code, Read, good, bad_text, bad_option, on_good, before, Due, any, first, second, decode_from, decode}
use Rattle.rfc.proofs.Uri.{hex_back, hex_literal, literal_not, literal_small, percent_no}

-- A byte's text, before any other.
pub decode_coded : (kind : Kind) (b : ℕ) (s : List ℕ) → b < 256 → decode kind (coded kind b ++ s) ≡ before b (decode kind s)
unfolding coded decode_from
decode_coded kind b s h =
    on (λ l. decode kind (l ++ s) ≡ before b (decode kind s)) (literal kind b)
    (λ e. rw (ne_eqb b 0x25 (literal_not kind b 0x25 e (percent_no kind)), e) refl)
    (λ e.
    let d : b / 16 < 16 = omega arith in
    let m : b % 16 < 16 = omega arith in
    rw (hex_back (b / 16) d, hex_back (b % 16) m, lt-ltb (b / 16) 16 d, lt-ltb (b % 16) 16 m)
    (ap (λ (x : ℕ). before x (decode kind s)) (div-add-mod' b 16)))

-- A value's text is decoded as the value.
pub decode_code : (kind : Kind) (v : List ℕ) → Bytes v → decode kind (code kind v) ≡ good v
unfolding decode_from
decode_code kind [] b = refl
decode_code kind (x ∷ v) b = decode_coded kind x (code kind v) b.0 ∙ ap (before x) (decode_code kind v b.1)

-- No character of a text is `x`.
abbrev pub Free : ℕ → List ℕ → Type 0
Free x [] = Unit {0}
Free x (c ∷ s) = (c ≡ x → ⊥) × Free x s

pub free_append : (x : ℕ) (s t : List ℕ) → Free x s → Free x t → Free x (s ++ t)
free_append x [] t f g = g
free_append x (c ∷ s) t f g = (f.0, free_append x s t f.1 g)

-- A value's text is free of a character other than `%` that isn't literal.
module _ (kind : Kind) (x : ℕ) (no : literal kind x ≡ false) (other : 0x25 ≡ x → ⊥) where
  coded_free : (b : ℕ) → b < 256 → Free x (coded kind b)
  unfolding coded
  coded_free b h =
      on (Free x) (literal kind b)
      (λ e. (literal_not kind b x e no, tt))
      (λ e. (other, (literal_not kind (hex_digit (b / 16)) x (hex_literal kind (b / 16) (omega arith)) no, (literal_not kind (hex_digit (b % 16)) x (hex_literal kind (b % 16) (omega arith)) no, tt))))

  pub code_free : (v : List ℕ) → Bytes v → Free x (code kind v)
  code_free [] b = tt
  code_free (c ∷ v) b = free_append x (coded kind c) (code kind v) (coded_free c b.0) (code_free v b.1)

-- A refusal is no value.
pub no_text : {A : Type 0} (a : A) → bad_text ≡ good a → ⊥
no_text a e = let z : ◌≡◌ {A = ℕ} 0 1 = cc in omega arith

pub no_option : {A : Type 0} (i : ℕ) (a : A) → bad_option i ≡ good a → ⊥
no_option i a e = let z : ◌≡◌ {A = ℕ} 0 1 = cc in omega arith

pub good_same : {A : Type 0} (a b : A) → good a ≡ good b → a ≡ b
good_same a b e = cc

-- Where the whole is a value, the first step was.
pub on_good_lem : {A B : Type 0} (r : Read A) (f : A → Read B) (b : B) (P : Type 0) → on_good r f ≡ good b → ((a : A) → r ≡ good a → f a ≡ good b → P) → P
on_good_lem (good a) f b P e k = k a refl e
on_good_lem bad_text f b P e k = absurd (no_text b e)
on_good_lem (bad_option i) f b P e k = absurd (no_option i b e)

pub before_good : {A : Type 0} (P : List A → Type 0) (a : A) (r : Read (List A)) (v : List A) → before a r ≡ good v → ((w : List A) → r ≡ good w → P (a ∷ w)) → P v
before_good P a (good w) v e k = subst P (good_same (a ∷ w) v e) (k w refl)
before_good P a bad_text v e k = absurd (no_text v e)
before_good P a (bad_option i) v e k = absurd (no_option i v e)

-- The characters of a percent code that were passed, and what is known of its first digit.
abbrev pub owed : Due → ℕ
owed any = 0
owed first = 1
owed (second high) = 2

abbrev pub Known : Due → Type 0
Known any = Unit {0}
Known first = Unit {0}
Known (second high) = high < 16

-- A decoded value is bytes, no longer than its text, and at least a third of it.
pub record Decoded (d : Due) (s v : List ℕ) : Type 0 where
  pub bytes : Bytes v
  pub long : length s + owed d ≤ 3 * length v
  pub short : length v ≤ length s

pub decoded : (kind : Kind) (d : Due) (s v : List ℕ) → Known d → decode_from kind d s ≡ good v → Decoded d s v
unfolding decode_from
decoded kind any [] v k e = subst (Decoded any []) (good_same [] v e) (record { bytes = tt; long = omega arith; short = omega arith })
decoded kind first [] v k e = absurd (no_text v e)
decoded kind (second high) [] v k e = absurd (no_text v e)
decoded kind any (c ∷ s) v k e =
    on (λ r. r ≡ good v → Decoded any (c ∷ s) v) (eqb c 0x25)
    (λ _. λ q. let r : Decoded first s v = decoded kind first s v tt q in record { bytes = r.bytes; long = omega (arith, r.long); short = omega (arith, r.short) })
    (λ _. on (λ r. r ≡ good v → Decoded any (c ∷ s) v) (literal kind c)
    (λ l. λ q. before_good (Decoded any (c ∷ s)) c (decode_from kind any s) v q
    (λ w p. let r : Decoded any s w = decoded kind any s w tt p in record { bytes = (literal_small kind c l, r.bytes); long = omega (arith, r.long); short = omega (arith, r.short) }))
    (λ _. λ q. absurd (no_text v q))) e
decoded kind first (c ∷ s) v k e =
    on_lt (λ r. r ≡ good v → Decoded first (c ∷ s) v) (hex_value c) 16
    (λ h. λ q. let r : Decoded (second (hex_value c)) s v = decoded kind (second (hex_value c)) s v h q in record { bytes = r.bytes; long = omega (arith, r.long); short = omega (arith, r.short) })
    (λ _. λ q. absurd (no_text v q)) e
decoded kind (second high) (c ∷ s) v k e =
    on_lt (λ r. r ≡ good v → Decoded (second high) (c ∷ s) v) (hex_value c) 16
    (λ h. λ q. before_good (Decoded (second high) (c ∷ s)) (high * 16 + hex_value c) (decode_from kind any s) v q
    (λ w p. let r : Decoded any s w = decoded kind any s w tt p in record { bytes = (omega arith, r.bytes); long = omega (arith, r.long); short = omega (arith, r.short) }))
    (λ _. λ q. absurd (no_text v q)) e

-- Decoding alone never says that an option is bad.
before_plain : (b i : ℕ) (r : Read (List ℕ)) → (r ≡ bad_option i → ⊥) → before b r ≡ bad_option i → ⊥
before_plain b i (good v) p e = let z : ◌≡◌ {A = ℕ} 0 1 = cc in omega arith
before_plain b i bad_text p e = let z : ◌≡◌ {A = ℕ} 0 1 = cc in omega arith
before_plain b i (bad_option j) p e = p e

text_plain : {A : Type 0} (i : ℕ) → ◌≡◌ {A = Read A} bad_text (bad_option i) → ⊥
text_plain i e = let z : ◌≡◌ {A = ℕ} 0 1 = cc in omega arith

pub decode_plain : (kind : Kind) (d : Due) (s : List ℕ) (i : ℕ) → decode_from kind d s ≡ bad_option i → ⊥
unfolding decode_from
decode_plain kind any [] i e = let z : ◌≡◌ {A = ℕ} 0 1 = cc in omega arith
decode_plain kind first [] i e = text_plain i e
decode_plain kind (second high) [] i e = text_plain i e
decode_plain kind any (c ∷ s) i e =
    on (λ r. r ≡ bad_option i → ⊥) (eqb c 0x25) (λ _. decode_plain kind first s i)
    (λ _. on (λ r. r ≡ bad_option i → ⊥) (literal kind c) (λ _. before_plain c i (decode_from kind any s) (decode_plain kind any s i)) (λ _. text_plain i)) e
decode_plain kind first (c ∷ s) i e =
    on (λ r. r ≡ bad_option i → ⊥) (ltb (hex_value c) 16) (λ _. decode_plain kind (second (hex_value c)) s i) (λ _. text_plain i) e
decode_plain kind (second high) (c ∷ s) i e =
    on (λ r. r ≡ bad_option i → ⊥) (ltb (hex_value c) 16)
    (λ _. before_plain (high * 16 + hex_value c) i (decode_from kind any s) (decode_plain kind any s i)) (λ _. text_plain i) e
