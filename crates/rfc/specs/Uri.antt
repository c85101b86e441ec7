-- The characters of a URI's path and query: RFC 3986, sections 2.3, 3.3 and 3.4; RFC 7252, section 6.5.
use Rattle.std.specs.Prelude.{ℕ, Bool, false, [], ◌∷◌, eqb}
use Rattle.ground.specs.Choice.{pick, either, within}
use Rattle.ground.specs.Table.{listed}

-- The parts that options are made of: segments of a path, and parts of a query.
pub data Kind : Type 0 where
  segment : Kind
  query : Kind

-- unreserved: letters, digits and `- . _ ~` (RFC 3986, section 2.3).
abbrev pub unreserved : ℕ → Bool
unreserved c =
    either (within 0x41 0x5A c) (either (within 0x61 0x7A c) (either (within 0x30 0x39 c) (listed c (0x2D ∷ 0x2E ∷ 0x5F ∷ 0x7E ∷ []))))

-- sub-delims: `! $ & ' ( ) * + , ; =` (RFC 3986, section 2.2).
abbrev pub sub_delim : ℕ → Bool
sub_delim c = listed c (0x21 ∷ 0x24 ∷ 0x26 ∷ 0x27 ∷ 0x28 ∷ 0x29 ∷ 0x2A ∷ 0x2B ∷ 0x2C ∷ 0x3B ∷ 0x3D ∷ [])

-- pchar without its percent codes: those, `:` and `@` (RFC 3986, section 3.3).
abbrev pub pchar : ℕ → Bool
pchar c = either (unreserved c) (either (sub_delim c) (listed c (0x3A ∷ 0x40 ∷ [])))

-- The character between two segments, `/`, and between two query parts, `&` (RFC 7252, section 6.4, steps 8 and 9).
abbrev pub separator : Kind → ℕ
separator segment = 0x2F
separator query = 0x26

-- What stands literally in a part: pchar in a segment; in a query part `/` and `?` too (RFC 3986, section 3.4), but not `&`, which
-- ends it (RFC 7252, section 6.5, step 8).
unfoldable pub literal : Kind → ℕ → Bool
literal segment c = pchar c
literal query c = pick (eqb c 0x26) false (either (pchar c) (listed c (0x2F ∷ 0x3F ∷ [])))
