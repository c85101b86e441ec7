-- What stands at a place of a part's text, and how many bytes of a value are percent-coded.
use Rattle.std.specs.Prelude.{ℕ, suc, ◌+◌, ◌-◌, ◌*◌, List, [], ◌∷◌, ltb, leb, eqb, length, get_or, Option, Some, None, Result, Ok, Err}
use Rattle.ground.specs.Choice.{pick, both}
use Rattle.rfc.specs.Uri.{Kind as PartKind, segment, query, literal}
use Rattle.rfc.specs.Percent.{hex_value}
use Rattle.percent.specs.declared.Kind.{Kind}
use Rattle.percent.specs.declared.Kind.TheVariants.{Segment, Query}
use Rattle.percent.specs.declared.Coded.{Coded}
use Rattle.refusal.specs.declared.Refusal.{Refusal}
use Rattle.refusal.specs.declared.Refusal.TheVariants.{BadText}

-- The kind of part that the code names.
abbrev pub kind_of : Kind → PartKind
kind_of Segment = segment
kind_of Query = query

-- A hexadecimal digit's number, where there is one: it is below 16.
abbrev pub digit_read : ℕ → Option ℕ
digit_read n = pick (ltb n 16) (Some n) None

-- What the text says at a place: a byte, and the place after what stands for it.
abbrev pub a_byte : ℕ → ℕ → Result (Option Coded) Refusal
a_byte b next = Ok (Some (record { byte = b; next = next }))

-- The byte whose two digits stand at a place, and the place after them.
unfoldable pub percent_at : List ℕ → ℕ → Result (Option Coded) Refusal
percent_at s i =
    pick (ltb (length s - i) 2) (Err BadText)
    (pick (both (ltb (hex_value (get_or s i 0)) 16) (ltb (hex_value (get_or s (i + 1) 0)) 16))
    (a_byte (hex_value (get_or s i 0) * 16 + hex_value (get_or s (i + 1) 0)) (i + 2)) (Err BadText))

-- What stands at a place: nothing past the end; after `%` the byte of its digits; a literal character as itself.
unfoldable pub step_at : PartKind → List ℕ → ℕ → Result (Option Coded) Refusal
step_at kind s i =
    pick (leb (length s) i) (Ok None)
    (pick (eqb (get_or s i 0) 0x25) (percent_at s (i + 1))
    (pick (literal kind (get_or s i 0)) (a_byte (get_or s i 0) (i + 1)) (Err BadText)))

-- How many bytes of a value aren't literal.
abbrev pub others : PartKind → List ℕ → ℕ
others kind [] = 0
others kind (b ∷ bs) = pick (literal kind b) (others kind bs) (suc (others kind bs))
