-- Percent-coding of a value, and its decoding: RFC 3986, section 2.1; RFC 7252, sections 6.4 and 6.5.
use Rattle.std.specs.Prelude.{ℕ, ◌+◌, ◌-◌, ◌*◌, ◌/◌, ◌%◌, List, [], ◌∷◌, ◌++◌, ltb, eqb}
use Rattle.ground.specs.Choice.{pick, within}
use Rattle.rfc.specs.Uri.{Kind, literal}

-- The upper-case hexadecimal digit of a number below 16.
unfoldable pub hex_digit : ℕ → ℕ
hex_digit n = pick (ltb n 10) (0x30 + n) (0x37 + n)

-- The number of a hexadecimal digit, of either case; 16 for any other character.
unfoldable pub hex_value : ℕ → ℕ
hex_value c =
    pick (within 0x30 0x39 c) (c - 0x30)
    (pick (within 0x41 0x46 c) (c - 0x37)
    (pick (within 0x61 0x66 c) (c - 0x57) 16))

-- A byte in the text of a part: itself, or `%` and two hexadecimal digits (RFC 3986, section 2.1).
unfoldable pub coded : Kind → ℕ → List ℕ
coded kind b = pick (literal kind b) (b ∷ []) (0x25 ∷ hex_digit (b / 16) ∷ hex_digit (b % 16) ∷ [])

-- The text of a value: each byte in turn.
abbrev pub code : Kind → List ℕ → List ℕ
code kind [] = []
code kind (b ∷ bs) = coded kind b ++ code kind bs

-- What a text is read as: a value; none, by its characters; or none since the option at an index, counted from 0, can't have
-- its value.
pub data Read (A : Type 0) : Type 0 where
  good : A → Read A
  bad_text : Read A
  bad_option : ℕ → Read A

-- Go on with what was read.
abbrev pub on_good : {A B : Type 0} → Read A → (A → Read B) → Read B
on_good (good a) next = next a
on_good bad_text next = bad_text
on_good (bad_option i) next = bad_option i

-- One before those that are read after it.
abbrev pub before : {A : Type 0} → A → Read (List A) → Read (List A)
before a r = on_good r (λ v. good (a ∷ v))

-- What the characters so far call for: a character or `%`; the first digit of a percent code; its second, after one of this
-- number.
pub data Due : Type 0 where
  any : Due
  first : Due
  second : ℕ → Due

-- The rest of a part is decoded: each literal character is itself, `%` and two digits are a byte, and there is nothing else.
unfoldable pub decode_from : Kind → Due → List ℕ → Read (List ℕ)
decode_from kind any [] = good []
decode_from kind first [] = bad_text
decode_from kind (second high) [] = bad_text
decode_from kind any (c ∷ s) =
    pick (eqb c 0x25) (decode_from kind first s)
    (pick (literal kind c) (before c (decode_from kind any s)) bad_text)
decode_from kind first (c ∷ s) = pick (ltb (hex_value c) 16) (decode_from kind (second (hex_value c)) s) bad_text
decode_from kind (second high) (c ∷ s) =
    pick (ltb (hex_value c) 16) (before (high * 16 + hex_value c) (decode_from kind any s)) bad_text

-- The bytes of a part's text.
abbrev pub decode : Kind → List ℕ → Read (List ℕ)
decode kind s = decode_from kind any s
