-- Reading a whole stream: 19 over all of it, then the first bad datagram's own refusal, then NoRoom (12); and what list and output
-- hold afterwards.
use Rattle.std.specs.Prelude.{ℕ, ◌+◌, ◌*◌, ◌≤◌, ◌≡◌, true, List, [], ◌∷◌, length, ltb, Result, Ok, Err}
use Rattle.ground.specs.Choice.{pick}
use Rattle.refusal.specs.Answer.{Answer, given, refused, onward, written, after}
use Rattle.refusal.specs.Number.{number_of}
use Rattle.refusal.specs.declared.Refusal.{Refusal}
use Rattle.reading.specs.Reading.{reading}
use Rattle.stream.specs.declared.Form.{Form}
use Rattle.stream.specs.Stream.{Frozen, chunk_count, message_of, datagrams_of}
use Rattle.stream.specs.Messages.{messages_from, thawed}
use Rattle.thawing.specs.declared.Strict.{Strict}

-- Whether strict reading accepts each datagram of a list; the first refusal where it doesn't.
abbrev pub all_strict : List Frozen → Answer (Unit {0})
all_strict [] = given tt
all_strict (m ∷ l) = onward (reading true m.datagram) (λ p. all_strict l)

-- A list whose datagrams are strict.
unfoldable pub strict : List Frozen → Answer (List Frozen)
strict l = onward (all_strict l) (λ _. given l)

-- The messages of a stream: 19 over the whole of it, then the first bad datagram's own.
abbrev pub thawed_strictly : Form → List ℕ → Answer (List Frozen)
thawed_strictly form s = onward (thawed form s) strict

-- How many chunks the datagrams of a list take in a form.
abbrev pub chunks_in : Form → List Frozen → ℕ
chunks_in form [] = 0
chunks_in form (m ∷ l) = chunk_count form (length m.datagram) + chunks_in form l

-- How many messages, how many bytes their datagrams have together, and how many chunks these take.
pub record Counts : Type 0 where
  pub count : ℕ
  pub bytes : ℕ
  pub chunks : ℕ

abbrev pub counts_of : Form → Answer (List Frozen) → Answer Counts
counts_of other (given l) = given (record { count = length l; bytes = length (datagrams_of l); chunks = chunks_in other l })
counts_of other (refused k) = refused k

abbrev pub strictly_in : Result Strict Refusal → Answer Counts
strictly_in (Ok s) = given (record { count = s.count; bytes = s.bytes; chunks = s.chunks })
strictly_in (Err e) = refused (number_of e)

-- The counts from a position on.
abbrev pub strict_from : Form → Form → List ℕ → ℕ → Answer Counts
strict_from form other s at = counts_of other (onward (messages_from form s at) strict)

-- What judging a stream with its datagrams promises.
abbrev pub Strictly : Form → Form → List ℕ → Result Strict Refusal → Type 0
Strictly form other s r = strictly_in r ≡ strict_from form other s 0

-- What the list tells of messages that start at a position, with datagrams from a place of the output on: for each where its peer
-- starts in the stream, where its datagram starts in the output, and how long that is.
abbrev pub entries : Form → ℕ → ℕ → List Frozen → List ℕ
entries form at to [] = []
entries form at to (m ∷ l) =
    (at + 1) ∷ to ∷ length m.datagram ∷ entries form (at + length (message_of form m)) (to + length m.datagram) l

-- Messages for a list with so many places and an output with this much room: how many they are. Fewer than three places a message,
-- or too little room for the datagrams together, give NoRoom (12).
unfoldable pub listed : ℕ → ℕ → List Frozen → Answer ℕ
listed places room l =
    pick (ltb places (3 * length l)) (refused 12)
    (pick (ltb room (length (datagrams_of l))) (refused 12) (given (length l)))

unfoldable pub thawing : Form → ℕ → ℕ → List ℕ → Answer ℕ
thawing form places room s = onward (thawed_strictly form s) (listed places room)

-- The messages of an answer, and none of a refusal.
abbrev pub messages_in : Answer (List Frozen) → List Frozen
messages_in (given l) = l
messages_in (refused k) = []

-- What thawing promises of its answer, of the list and of the output.
pub record Thaws (form : Form) (s oldList oldOut : List ℕ) (r : Result ℕ Refusal) (newList newOut : List ℕ) : Type 0 where
  pub answer : written r ≡ thawing form (length oldList) (length oldOut) s
  pub list : newList ≡ after (thawing form (length oldList) (length oldOut) s) 0 (entries form 0 0 (messages_in (thawed form s))) oldList
  pub output : newOut ≡ after (thawing form (length oldList) (length oldOut) s) 0 (datagrams_of (messages_in (thawed form s))) oldOut

-- A stream that is one, with places and room for its messages.
pub record Listing (form : Form) (s : List ℕ) (places room : ℕ) : Type 0 where
  pub messages : List Frozen
  pub are : thawed form s ≡ given messages
  pub places_for : 3 * length messages ≤ places
  pub room_for : length (datagrams_of messages) ≤ room
