-- A datagram where it lies in a freeze stream: in chunks, each behind its head (docs/RULES.md, Freeze streams).
use Rattle.std.specs.Prelude.{ℕ, zero, suc, ◌+◌, ◌-◌, ◌*◌, ◌/◌, ◌%◌, ◌<◌, ◌≤◌, ◌≡◌, Bool, true, List, [], ◌∷◌, length, get_or, ltb, leb, Result}
use Rattle.ground.specs.Choice.{pick, both}
use Rattle.refusal.specs.Answer.{Answer, refused, outcome}
use Rattle.refusal.specs.declared.Refusal.{Refusal}
use Rattle.packet.specs.Limits.{max_store}
use Rattle.cursor.specs.Cursor.{accepting}
use Rattle.stream.specs.declared.Form.{Form}
use Rattle.stream.specs.Stream.{full, head_size}

-- Where a byte of a datagram stands, from the start of its chunks: behind the full chunks before its own, each with its head, and
-- behind the head of its own.
abbrev pub offset : Form → ℕ → ℕ
offset form i = i / full form * (head_size form + full form) + head_size form + i % full form

-- So many bytes from the one of an index on, of a datagram whose chunks start at `from`.
abbrev pub bytes_from : Form → List ℕ → ℕ → ℕ → ℕ → List ℕ
bytes_from form s from i zero = []
bytes_from form s from i (suc n) = get_or s (from + offset form i) 0 ∷ bytes_from form s from (suc i) n

-- The datagram of `len` bytes whose chunks start at `from`.
unfoldable pub gathered : Form → List ℕ → ℕ → ℕ → List ℕ
gathered form s from len = bytes_from form s from 0 len

-- Its last byte lies past the stream.
unfoldable pub past : Form → List ℕ → ℕ → ℕ → Bool
past form s from len = both (ltb 0 len) (leb (length s) (from + offset form (len - 1)))

-- It is not too long to be read, and its last byte lies in the stream.
abbrev pub Lies : Form → ℕ → ℕ → List ℕ → Type 0
Lies form from len s = (len ≤ max_store) × (from + offset form (len - 1) < length s)

-- What judging such a datagram says: 19 where it ends past the stream, else what strict reading says of its bytes.
unfoldable pub judged_at : Form → List ℕ → ℕ → ℕ → Answer (Unit {0})
judged_at form s from len = pick (past form s from len) (refused 19) (accepting true (gathered form s from len))

-- What judging promises.
abbrev pub JudgesChunks : Form → List ℕ → ℕ → ℕ → Result (Unit {0}) Refusal → Type 0
JudgesChunks form s from len r = outcome r ≡ judged_at form s from len
