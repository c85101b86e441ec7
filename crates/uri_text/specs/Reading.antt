-- What a path and query text is read as: its parts decoded in turn, and the rules on each value.
use Rattle.std.specs.Prelude.{ℕ, ◌+◌, List, [], ◌∷◌, ltb, length}
use Rattle.ground.specs.Choice.{pick, either}
use Rattle.rfc.specs.Uri.{Kind, segment, query}
use Rattle.rfc.specs.Percent.{Read, good, bad_text, bad_option, on_good, before, decode}
use Rattle.rfc.specs.Target.{Target, path_of, query_of, parts, segments_of, dotted}
use Rattle.utf8.specs.Walk.{text}

-- The rules on a value that was decoded: UTF-8, or it is no text (15); then at most 255 bytes and no dot segment, or no option
-- has it (16).
unfoldable pub ruled : Kind → (index : ℕ) → List ℕ → Read (List ℕ)
ruled kind index v =
    pick (text v) (pick (either (ltb 255 (length v)) (dotted kind v)) (bad_option index) (good v)) bad_text

-- The value of a part's text.
abbrev pub value_of : Kind → (index : ℕ) → List ℕ → Read (List ℕ)
value_of kind index s = on_good (decode kind s) (ruled kind index)

-- The values of parts, in turn; `index` is that of the first one's record.
abbrev pub values_of : Kind → (index : ℕ) → List (List ℕ) → Read (List (List ℕ))
values_of kind index [] = good []
values_of kind index (s ∷ ss) = on_good (value_of kind index s) (λ v. before v (values_of kind (index + 1) ss))

-- What a text says: the segments of its path, part by part, then its query parts, whose records come after theirs.
unfoldable pub reading : List ℕ → Read Target
reading s =
    on_good (segments_of (path_of s)) (λ ss.
    on_good (values_of segment 0 ss) (λ path.
    on_good (values_of query (length path) (parts 0x26 (query_of s))) (λ query.
    good (record { path = path; query = query }))))
