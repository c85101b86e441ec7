-- Paths and queries as text, both ways: examples of RFC 7252, appendix B, and the edges of the definitions.
use Prim.Native.Nat.{ℕ}
use mathlib.Core.Path.{◌≡◌, refl}
use mathlib.Core.Bool.{true, false}
use mathlib.Core.List.{List, [], ◌∷◌, map}
use Rattle.rfc.specs.Uri.{segment, query, literal}
use Rattle.rfc.specs.Percent.{hex_digit, hex_value, coded, good, bad_text, decode_from, decode}
use Rattle.rfc.specs.Target.{Target, target_of, options_of, text_of, path_of, query_of, split, parts, segments_of, dotted, spelt}

-- `coap://example.net/.well-known/core`.
well_known : text_of (record { path = (0x2E ∷ 0x77 ∷ 0x65 ∷ 0x6C ∷ 0x6C ∷ 0x2D ∷ 0x6B ∷ 0x6E ∷ 0x6F ∷ 0x77 ∷ 0x6E ∷ []) ∷ (0x63 ∷ 0x6F ∷ 0x72 ∷ 0x65 ∷ []) ∷ []; query = [] })
    ≡ (0x2F ∷ 0x2E ∷ 0x77 ∷ 0x65 ∷ 0x6C ∷ 0x6C ∷ 0x2D ∷ 0x6B ∷ 0x6E ∷ 0x6F ∷ 0x77 ∷ 0x6E ∷ 0x2F ∷ 0x63 ∷ 0x6F ∷ 0x72 ∷ 0x65 ∷ [])
unfolding coded literal
well_known = refl

-- A segment of Japanese text: `/%E3%81%93`, and on.
hiragana : text_of (record { path = (0xE3 ∷ 0x81 ∷ 0x93 ∷ []) ∷ []; query = [] }) ≡ (0x2F ∷ 0x25 ∷ 0x45 ∷ 0x33 ∷ 0x25 ∷ 0x38 ∷ 0x31 ∷ 0x25 ∷ 0x39 ∷ 0x33 ∷ [])
unfolding coded literal hex_digit
hiragana = refl

-- `//%2F//?%2F%2F&?%26`: segments "", "/", "" and "", query parts "//" and "?&".
awkward : List ℕ
awkward =
    0x2F ∷ 0x2F ∷ 0x25 ∷ 0x32 ∷ 0x46 ∷ 0x2F ∷ 0x2F ∷ 0x3F ∷ 0x25 ∷ 0x32 ∷ 0x46 ∷ 0x25 ∷ 0x32 ∷ 0x46 ∷ 0x26 ∷ 0x3F ∷ 0x25 ∷ 0x32 ∷ 0x36 ∷ []

awkward_path : segments_of (path_of awkward) ≡ good ([] ∷ (0x25 ∷ 0x32 ∷ 0x46 ∷ []) ∷ [] ∷ [] ∷ [])
unfolding awkward path_of split
awkward_path = refl

awkward_query : map (decode query) (parts 0x26 (query_of awkward)) ≡ (good (0x2F ∷ 0x2F ∷ []) ∷ good (0x3F ∷ 0x26 ∷ []) ∷ [])
unfolding awkward query_of split decode_from literal hex_value
awkward_query = refl

-- Segments `a b` and `/`, query parts `&` and `=/?`: `/a%20b/%2F?%26&=/?`.
both_kinds : Target
both_kinds = record { path = (0x61 ∷ 0x20 ∷ 0x62 ∷ []) ∷ (0x2F ∷ []) ∷ []; query = (0x26 ∷ []) ∷ (0x3D ∷ 0x2F ∷ 0x3F ∷ []) ∷ [] }

both_text : text_of both_kinds ≡ (0x2F ∷ 0x61 ∷ 0x25 ∷ 0x32 ∷ 0x30 ∷ 0x62 ∷ 0x2F ∷ 0x25 ∷ 0x32 ∷ 0x46 ∷ 0x3F ∷ 0x25 ∷ 0x32 ∷ 0x36 ∷ 0x26 ∷ 0x3D ∷ 0x2F ∷ 0x3F ∷ [])
unfolding both_kinds coded literal hex_digit
both_text = refl

both_options : target_of (options_of both_kinds) ≡ both_kinds
unfolding both_kinds
both_options = refl

-- No segment is `/`, with a query too: `/` and `/?q`.
no_segment : map text_of (record { path = []; query = [] } ∷ record { path = []; query = (0x71 ∷ []) ∷ [] } ∷ []) ≡ ((0x2F ∷ []) ∷ (0x2F ∷ 0x3F ∷ 0x71 ∷ []) ∷ [])
unfolding coded literal
no_segment = refl

-- On both sides of each edge: `! " % & ' . / 0 9 : ; < = > ? @ A Z [ _ a z { ~`, and DEL.
edges : List ℕ
edges =
    0x21 ∷ 0x22 ∷ 0x25 ∷ 0x26 ∷ 0x27 ∷ 0x2E ∷ 0x2F ∷ 0x30 ∷ 0x39 ∷ 0x3A ∷ 0x3B ∷ 0x3C ∷ 0x3D ∷ 0x3E ∷ 0x3F ∷ 0x40 ∷ 0x41 ∷ 0x5A ∷ 0x5B ∷ 0x5F ∷ 0x61 ∷ 0x7A ∷ 0x7B ∷ 0x7E ∷ 0x7F ∷ []

in_segments : map (literal segment) edges ≡ (true ∷ false ∷ false ∷ true ∷ true ∷ true ∷ false ∷ true ∷ true ∷ true ∷ true ∷ false ∷ true ∷ false ∷ false ∷ true ∷ true ∷ true ∷ false ∷ true ∷ true ∷ true ∷ false ∷ true ∷ false ∷ [])
unfolding edges literal
in_segments = refl

in_queries : map (literal query) edges ≡ (true ∷ false ∷ false ∷ false ∷ true ∷ true ∷ true ∷ true ∷ true ∷ true ∷ true ∷ false ∷ true ∷ false ∷ true ∷ true ∷ true ∷ true ∷ false ∷ true ∷ true ∷ true ∷ false ∷ true ∷ false ∷ [])
unfolding edges literal
in_queries = refl

-- A plus is a plus; digits of either case; `%`, `%4`, `%4g`, `#` and a byte over 7E are no text.
plus : map (decode segment) ((0x2B ∷ []) ∷ (0x25 ∷ 0x63 ∷ 0x33 ∷ 0x25 ∷ 0x41 ∷ 0x39 ∷ []) ∷ []) ≡ (good (0x2B ∷ []) ∷ good (0xC3 ∷ 0xA9 ∷ []) ∷ [])
unfolding decode_from literal hex_value
plus = refl

no_text : map (decode segment) ((0x25 ∷ []) ∷ (0x25 ∷ 0x34 ∷ []) ∷ (0x25 ∷ 0x34 ∷ 0x67 ∷ []) ∷ (0x23 ∷ []) ∷ (0x80 ∷ []) ∷ []) ≡ (bad_text ∷ bad_text ∷ bad_text ∷ bad_text ∷ bad_text ∷ [])
unfolding decode_from literal hex_value
no_text = refl

-- `?` and `/` give no part, `//` two empty segments, `/a/` one and an empty one, `a` no path.
paths : map segments_of ([] ∷ (0x2F ∷ []) ∷ (0x2F ∷ 0x2F ∷ []) ∷ (0x2F ∷ 0x61 ∷ 0x2F ∷ []) ∷ (0x61 ∷ []) ∷ []) ≡ (good [] ∷ good [] ∷ good ([] ∷ [] ∷ []) ∷ good ((0x61 ∷ []) ∷ [] ∷ []) ∷ bad_text ∷ [])
unfolding split
paths = refl

-- `/a?b?c/d` has one query part.
one_part : parts 0x26 (query_of (0x2F ∷ 0x61 ∷ 0x3F ∷ 0x62 ∷ 0x3F ∷ 0x63 ∷ 0x2F ∷ 0x64 ∷ [])) ≡ ((0x62 ∷ 0x3F ∷ 0x63 ∷ 0x2F ∷ 0x64 ∷ []) ∷ [])
unfolding query_of split
one_part = refl

-- `.` and `..` are dotted, the empty segment and `...` aren't.
dot_segments : map (dotted segment) ([] ∷ (0x2E ∷ []) ∷ (0x2E ∷ 0x2E ∷ []) ∷ (0x2E ∷ 0x2E ∷ 0x2E ∷ []) ∷ (0x2E ∷ 0x61 ∷ []) ∷ []) ≡ (false ∷ true ∷ true ∷ false ∷ false ∷ [])
dot_segments = refl

-- `/%2F` is spelt as a text is written, `/%2f`, `/%2` and `/ ` aren't.
spelling : map (spelt 0) ((0x2F ∷ 0x25 ∷ 0x32 ∷ 0x46 ∷ []) ∷ (0x2F ∷ 0x25 ∷ 0x32 ∷ 0x66 ∷ []) ∷ (0x2F ∷ 0x25 ∷ 0x32 ∷ []) ∷ (0x2F ∷ 0x20 ∷ []) ∷ []) ≡ (true ∷ false ∷ false ∷ false ∷ [])
unfolding spelt literal
spelling = refl
