-- Texts and what they are read as, computed by the definitions: the order of 15 and 16, and their edges.
use mathlib.Core.Path.{◌≡◌, refl}
use mathlib.Core.List.{[], ◌∷◌, ◌++◌}
use lib.ListN.{replicate}
use Rattle.rfc.specs.Uri.{literal}
use Rattle.rfc.specs.Percent.{hex_value, decode_from, good, bad_text, bad_option}
use Rattle.rfc.specs.Target.{Target, path_of, query_of, split}
use Rattle.rfc.specs.Text.{rows}
use Rattle.utf8.specs.Walk.{text_from}
use Rattle.uri_text.specs.Reading.{ruled, reading}

-- `/ab/%c3%A9?x=1&y`.
both_kinds : reading (0x2F ∷ 0x61 ∷ 0x62 ∷ 0x2F ∷ 0x25 ∷ 0x63 ∷ 0x33 ∷ 0x25 ∷ 0x41 ∷ 0x39 ∷ 0x3F ∷ 0x78 ∷ 0x3D ∷ 0x31 ∷ 0x26 ∷ 0x79 ∷ [])
    ≡ good (record { path = (0x61 ∷ 0x62 ∷ []) ∷ (0xC3 ∷ 0xA9 ∷ []) ∷ []; query = (0x78 ∷ 0x3D ∷ 0x31 ∷ []) ∷ (0x79 ∷ []) ∷ [] })
unfolding reading path_of query_of split decode_from literal hex_value ruled text_from rows
both_kinds = refl

nothing : Target
nothing = record { path = []; query = [] }

-- The empty text, `/`, `?` and `/?` say nothing.
empty : (reading [] ≡ good nothing) × (reading (0x2F ∷ []) ≡ good nothing) × (reading (0x3F ∷ []) ≡ good nothing) × (reading (0x2F ∷ 0x3F ∷ []) ≡ good nothing)
unfolding reading path_of query_of nothing
empty = (refl, refl, refl, refl)

-- `//` is two empty segments, `/a/` a segment and an empty one, `?&` two empty parts.
empties : (reading (0x2F ∷ 0x2F ∷ []) ≡ good (record { path = [] ∷ [] ∷ []; query = [] })) × (reading (0x2F ∷ 0x61 ∷ 0x2F ∷ []) ≡ good (record { path = (0x61 ∷ []) ∷ [] ∷ []; query = [] })) × (reading (0x3F ∷ 0x26 ∷ []) ≡ good (record { path = []; query = [] ∷ [] ∷ [] }))
unfolding reading path_of query_of split decode_from literal hex_value ruled text_from rows
empties = (refl, refl, refl)

-- 15: `a`, `/%`, `/%4/1`, `/%4g`, `/#`, `/%ff`, `/%C3/%A9`, `a/.`, `/%/.`.
bad : (reading (0x61 ∷ []) ≡ bad_text) × (reading (0x2F ∷ 0x25 ∷ []) ≡ bad_text) × (reading (0x2F ∷ 0x25 ∷ 0x34 ∷ 0x2F ∷ 0x31 ∷ []) ≡ bad_text) × (reading (0x2F ∷ 0x25 ∷ 0x34 ∷ 0x67 ∷ []) ≡ bad_text) × (reading (0x2F ∷ 0x23 ∷ []) ≡ bad_text) × (reading (0x2F ∷ 0x25 ∷ 0x66 ∷ 0x66 ∷ []) ≡ bad_text) × (reading (0x2F ∷ 0x25 ∷ 0x43 ∷ 0x33 ∷ 0x2F ∷ 0x25 ∷ 0x41 ∷ 0x39 ∷ []) ≡ bad_text) × (reading (0x61 ∷ 0x2F ∷ 0x2E ∷ []) ≡ bad_text) × (reading (0x2F ∷ 0x25 ∷ 0x2F ∷ 0x2E ∷ []) ≡ bad_text)
unfolding reading path_of query_of split decode_from literal hex_value ruled text_from rows
bad = (refl, refl, refl, refl, refl, refl, refl, refl, refl)

-- 16: `/.` and `/%2e%2E` at 0, `/a/.` at 1, `/./%` before 15; `/...` and `?.` pass.
against : (reading (0x2F ∷ 0x2E ∷ []) ≡ bad_option 0) × (reading (0x2F ∷ 0x25 ∷ 0x32 ∷ 0x65 ∷ 0x25 ∷ 0x32 ∷ 0x45 ∷ []) ≡ bad_option 0) × (reading (0x2F ∷ 0x61 ∷ 0x2F ∷ 0x2E ∷ []) ≡ bad_option 1) × (reading (0x2F ∷ 0x2E ∷ 0x2F ∷ 0x25 ∷ []) ≡ bad_option 0) × (reading (0x2F ∷ 0x2E ∷ 0x2E ∷ 0x2E ∷ []) ≡ good (record { path = (0x2E ∷ 0x2E ∷ 0x2E ∷ []) ∷ []; query = [] })) × (reading (0x3F ∷ 0x2E ∷ []) ≡ good (record { path = []; query = (0x2E ∷ []) ∷ [] }))
unfolding reading path_of query_of split decode_from literal hex_value ruled text_from rows
against = (refl, refl, refl, refl, refl, refl)

-- 256 bytes are 16, and 15 where a `%` alone follows them in the same segment.
long : (reading (0x2F ∷ replicate 256 0x61) ≡ bad_option 0) × (reading (0x2F ∷ (replicate 256 0x61 ++ (0x25 ∷ []))) ≡ bad_text)
unfolding reading path_of query_of split decode_from literal hex_value ruled text_from rows
long = (refl, refl)
