-- Freeze streams (docs/RULES.md, Freeze streams): the bytes of a list of messages, in either form. Nothing but the numbers of a
-- chunk tells the forms apart.
use Rattle.std.specs.Prelude.{ℕ, zero, suc, ◌+◌, ◌-◌, ◌*◌, ◌/◌, ◌≤◌, ◌≡◌, List, [], ◌∷◌, ◌++◌, length, take, drop, replicate, eqb}
use Rattle.ground.specs.Choice.{pick}
use Rattle.packet.specs.Limits.{full_size}
use Rattle.stream.specs.declared.Form.{Form}
use Rattle.stream.specs.declared.Form.TheVariants.{Old, New}

-- A message of a stream: the bytes of its peer, and its datagram.
pub record Frozen : Type 0 where
  pub peer : List ℕ
  pub datagram : List ℕ

-- What a message keeps to: a peer of 18 bytes, 16 of address and 2 of port, and a datagram of 4..1,280.
pub record Sized (m : Frozen) : Type 0 where
  pub peer : length m.peer ≡ 18
  pub least : 4 ≤ length m.datagram
  pub most : length m.datagram ≤ full_size

abbrev pub AllSized : List Frozen → Type 0
AllSized [] = Unit {0}
AllSized (m ∷ l) = Sized m × AllSized l

-- How many bytes a full chunk carries.
abbrev pub full : Form → ℕ
full Old = 30
full New = 64

-- What stands before the bytes of a chunk: kind 2 and their count; or kind 4 for a full chunk, and 128 and the count for another.
abbrev pub head : Form → ℕ → List ℕ
head Old n = 2 ∷ n ∷ []
head New n = pick (eqb n 64) 4 (128 + n) ∷ []

-- How many bytes that is.
abbrev pub head_size : Form → ℕ
head_size Old = 2
head_size New = 1

-- How many zero bytes follow a chunk's own: the old form fills up to 30.
abbrev pub padding : Form → ℕ → ℕ
padding Old n = 30 - n
padding New n = 0

-- A chunk.
unfoldable pub chunk_of : Form → List ℕ → List ℕ
chunk_of form c = head form (length c) ++ (c ++ replicate (padding form (length c)) 0)

-- How many chunks so many bytes take.
abbrev pub chunk_count : Form → ℕ → ℕ
chunk_count Old n = (n + 29) / 30
chunk_count New n = (n + 63) / 64

-- So many chunks of a datagram: each is full, but perhaps the last.
unfoldable pub chunks_of : Form → ℕ → List ℕ → List ℕ
chunks_of form zero d = []
chunks_of form (suc k) d = chunk_of form (take (full form) d) ++ chunks_of form k (drop (full form) d)

-- A message: kind 1 and the peer, the chunks, kind 3.
unfoldable pub message_of : Form → Frozen → List ℕ
message_of form m =
    1 ∷ (m.peer ++ (chunks_of form (chunk_count form (length m.datagram)) m.datagram ++ (3 ∷ [])))

-- A stream: its messages one after the other.
abbrev pub stream_of : Form → List Frozen → List ℕ
stream_of form [] = []
stream_of form (m ∷ l) = message_of form m ++ stream_of form l

-- The datagrams of a list, end to end.
abbrev pub datagrams_of : List Frozen → List ℕ
datagrams_of [] = []
datagrams_of (m ∷ l) = m.datagram ++ datagrams_of l

-- How many bytes a message takes whose datagram has n: 20, and 32 for each chunk in the old form; in the new one for each chunk
-- beside the datagram's own.
abbrev pub message_size : Form → ℕ → ℕ
message_size Old n = 20 + 32 * chunk_count Old n
message_size New n = 20 + (n + chunk_count New n)
