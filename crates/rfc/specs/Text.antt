-- UTF-8 text: the grammar of RFC 3629, section 4.
use Rattle.std.specs.Prelude.{ℕ, ◌≡◌, Bool, true, false, List, [], ◌∷◌, ◌++◌, T}
use Rattle.ground.specs.Choice.{both, either, within}

-- What one byte of a character may be: from the first to the second.
abbrev pub Range : Type 0
Range = ℕ × ℕ

-- UTF8-tail.
abbrev pub tail : Range
tail = (0x80, 0xBF)

-- The rows of the grammar, UTF8-1 to UTF8-4, byte by byte.
unfoldable pub rows : List (List Range)
rows =
    ((0x00, 0x7F) ∷ [])
    ∷ ((0xC2, 0xDF) ∷ tail ∷ [])
    ∷ ((0xE0, 0xE0) ∷ (0xA0, 0xBF) ∷ tail ∷ [])
    ∷ ((0xE1, 0xEC) ∷ tail ∷ tail ∷ [])
    ∷ ((0xED, 0xED) ∷ (0x80, 0x9F) ∷ tail ∷ [])
    ∷ ((0xEE, 0xEF) ∷ tail ∷ tail ∷ [])
    ∷ ((0xF0, 0xF0) ∷ (0x90, 0xBF) ∷ tail ∷ tail ∷ [])
    ∷ ((0xF1, 0xF3) ∷ tail ∷ tail ∷ tail ∷ [])
    ∷ ((0xF4, 0xF4) ∷ (0x80, 0x8F) ∷ tail ∷ tail ∷ [])
    ∷ []

-- The byte is in the range.
abbrev pub in_range : Range → ℕ → Bool
in_range r b = within r.0 r.1 b

-- The bytes are those of a row: as many, and each in its range.
abbrev pub of_row : List Range → List ℕ → Bool
of_row [] [] = true
of_row [] (b ∷ bs) = false
of_row (r ∷ rs) [] = false
of_row (r ∷ rs) (b ∷ bs) = both (in_range r b) (of_row rs bs)

-- They are those of one of the rows.
abbrev pub among : List (List Range) → List ℕ → Bool
among [] bs = false
among (row ∷ more) bs = either (of_row row bs) (among more bs)

-- A character, UTF8-char.
abbrev pub character : List ℕ → Bool
character bs = among rows bs

-- Each is a character.
abbrev pub characters : List (List ℕ) → Bool
characters [] = true
characters (c ∷ cs) = both (character c) (characters cs)

-- Their bytes, one after the other.
abbrev pub joined : List (List ℕ) → List ℕ
joined [] = []
joined (c ∷ cs) = c ++ joined cs

-- A text, UTF8-octets: characters one after the other.
abbrev pub Text : List ℕ → Type 0
Text bs = (cs : List (List ℕ)) × T (characters cs) × (joined cs ≡ bs)
