-- Freeze streams, in either form: which streams are read, as which messages, and that freezing and thawing undo each other.
use Rattle.std.specs.Prelude.{ℕ, ◌+◌, ◌*◌, ◌<◌, ◌≤◌, ◌≡◌, true, ◌↔◌, List, [], ◌∷◌, ◌++◌, map, length, take, drop, Result, Ok, Err}
use Rattle.std.proofs.lemmas.List.Edits.{sets}
use Rattle.ground.specs.Part.{Bytes}
use Rattle.rfc.specs.Message.{layout}
use Rattle.refusal.specs.Answer.{given, onward, outcome}
use Rattle.refusal.specs.declared.Refusal.{Refusal}
use Rattle.refusal.specs.declared.Refusal.TheVariants.{NoRoom, BadFreeze}
use Rattle.packet.specs.Limits.{full_size, max_store}
use Rattle.packet.specs.Packet.{Stores, stores}
use Rattle.packet.specs.Meaning.{meaning}
use Rattle.packet.specs.Shape.{Shaped}
use Rattle.packet.specs.declared.Packet.{Packet}
use Rattle.reading.specs.Reading.{FromBytes, reading}
use Rattle.stream.specs.declared.Form.{Form}
use Rattle.stream.specs.Answers.{step_read, judged as streamJudged}
use Rattle.stream.specs.Stream.{Frozen, Sized, AllSized, message_of, stream_of, datagrams_of, message_size}
use Rattle.chunk_judging.specs.Chunks.{JudgesChunks}
use Rattle.writing.specs.Writing.{Held}
use Rattle.thawing.specs.Thawing.{strictly_in, Strictly, entries, Thaws}
use Rattle.thawing.specs.declared.Strict.{Strict}
use Rattle.freezing.specs.Freezing.{Freezes}
use Rattle.stream_guarantees.specs.StreamOf.{IsStreamOf}
use Rattle.guarantees.specs.Apart.{TellsApart}

-- A stream is refused neither 19 nor for a datagram exactly when it is that of a list whose datagrams strict reading accepts.
abbrev pub JudgedExactly : Type 0
JudgedExactly =
    (form other : Form) (s : List ℕ) (r : Result Strict Refusal) → Strictly form other s r
    → ((t : Strict) × (r ≡ Ok t)) ↔ ((l : List Frozen) × IsStreamOf form s l)

-- A stream that is none of its form is refused 19, whatever datagrams it has: for a record, an order or a length that there isn't, and
-- for messages of both forms.
abbrev pub NoStream : Type 0
NoStream =
    (form other : Form) (s : List ℕ) (r : Result Strict Refusal) → Strictly form other s r → ((l : List Frozen) → AllSized l → s ≡ stream_of form l → ⊥)
    → r ≡ Err BadFreeze

-- Wherever a message stands, its datagram is judged in its chunks, which start behind kind and peer, as strict reading judges it.
abbrev pub JudgedInPlace : Type 0
JudgedInPlace =
    (form : Form) (before after : List ℕ) (m : Frozen) (r : Result (Unit {0}) Refusal) → Sized m
    → JudgesChunks form (before ++ (message_of form m ++ after)) (length before + 19) (length m.datagram) r
    → outcome r ≡ onward (reading true m.datagram) (λ p. given tt)

-- There is only one such list.
abbrev pub OneList : Type 0
OneList = (form : Form) (s : List ℕ) (l m : List Frozen) → IsStreamOf form s l → IsStreamOf form s m → l ≡ m

-- Places for three numbers a message, and room for the datagrams together.
pub record Roomy (l : List Frozen) (list out : List ℕ) : Type 0 where
  pub places : 3 * length l ≤ length list
  pub room : length (datagrams_of l) ≤ length out

-- The list tells of these messages, and the output holds their datagrams end to end; what stood after them stands there still.
pub record Holds (form : Form) (l : List Frozen) (oldList oldOut : List ℕ) (r : Result ℕ Refusal) (newList newOut : List ℕ) : Type 0 where
  pub answer : r ≡ Ok (length l)
  pub list : newList ≡ entries form 0 0 l ++ drop (3 * length l) oldList
  pub output : newOut ≡ datagrams_of l ++ drop (length (datagrams_of l)) oldOut

-- Messages that start at a position of a stream have their peers' 18 bytes where the list says that they start.
abbrev pub PeersAt : Form → List ℕ → ℕ → List Frozen → Type 0
PeersAt form s at [] = Unit {0}
PeersAt form s at (m ∷ l) = (take 18 (drop (at + 1) s) ≡ m.peer) × PeersAt form s (at + length (message_of form m)) l

pub record ThawsExactly (form : Form) (s oldList oldOut : List ℕ) (r : Result ℕ Refusal) (newList newOut : List ℕ) : Type 0 where
  -- List and output hold the messages of the stream.
  pub holds : (l : List Frozen) → IsStreamOf form s l → Roomy l oldList oldOut → Holds form l oldList oldOut r newList newOut
  -- The peers stand in the stream where the list says.
  pub peers : (l : List Frozen) → IsStreamOf form s l → PeersAt form s 0 l
  -- Something is read exactly when the stream is that of such a list, and there is room for it.
  pub exactly : ((n : ℕ) × (r ≡ Ok n)) ↔ ((l : List Frozen) × IsStreamOf form s l × Roomy l oldList oldOut)

-- So it is of every stream, list and output, and of every answer that meets the promise.
abbrev pub Thawing : Type 0
Thawing =
    (form : Form) (s oldList oldOut : List ℕ) (r : Result ℕ Refusal) (newList newOut : List ℕ)
    → Thaws form s oldList oldOut r newList newOut → ThawsExactly form s oldList oldOut r newList newOut

-- A message of n bytes takes 20 + 32 · ⌈n/30⌉ bytes in the old form; in the new one 20, the bytes and one for each chunk.
abbrev pub MessageSizes : Type 0
MessageSizes = (form : Form) (m : Frozen) → length m.peer ≡ 18 → length (message_of form m) ≡ message_size form (length m.datagram)

-- Each list has one stream: that of two lists is one after the other, and the empty list has no bytes.
abbrev pub Appended : Type 0
Appended = (form : Form) (l m : List Frozen) → stream_of form (l ++ m) ≡ stream_of form l ++ stream_of form m

-- What is handed to the writer: a peer, and a packet over the two stores that are lent with it.
pub record Item : Type 0 where
  pub peer : List ℕ
  pub packet : Packet
  pub lent : Stores

-- Items that a function can be handed: peers of 18 bytes, packets as they can be, stores of bytes.
abbrev pub AllProper : List Item → Type 0
AllProper [] = Unit {0}
AllProper (i ∷ l) = ((length i.peer ≡ 18) × Shaped i.packet × Held i.lent) × AllProper l

-- The message of an item: its peer, and the layout of what its packet means.
abbrev pub message_for : Item → Frozen
message_for i = record { peer = i.peer; datagram = layout (meaning i.lent i.packet) }

-- Items frozen one after the other: each is written, and the next starts after it.
abbrev pub InTurn : Form → List Item → (old : List ℕ) (start end : ℕ) (new : List ℕ) → Type 0
InTurn form [] old start end new = (end ≡ start) × (new ≡ old)
InTurn form (i ∷ l) old start end new =
    (r : Result ℕ Refusal) × (n : ℕ) × (mid : List ℕ) × Freezes form i.peer i.packet i.lent old start r mid
    × (r ≡ Ok n) × InTurn form l mid (start + n) end new

-- Messages frozen one after the other from 0 are the stream of their peers and the layouts of their meanings, and are read back as
-- those.
abbrev pub FrozenThenThawed : Type 0
FrozenThenThawed =
    (form : Form) (l : List Item) → AllProper l → (old : List ℕ) (end : ℕ) (new : List ℕ) → InTurn form l old 0 end new
    → (oldList oldOut : List ℕ) (r : Result ℕ Refusal) (newList newOut : List ℕ) → Roomy (map message_for l) oldList oldOut
    → Thaws form (take end new) oldList oldOut r newList newOut
    → (take end new ≡ stream_of form (map message_for l)) × Holds form (map message_for l) oldList oldOut r newList newOut

-- A datagram of at most 1,280 bytes that strict reading accepted is frozen, where there is room, as the message of that datagram,
-- beside any edit store of at most 70,000 bytes.
abbrev pub ThawedThenFrozen : Type 0
ThawedThenFrozen =
    (form : Form) (m : Frozen) (d : Result Packet Refusal) (p : Packet) → Bytes m.datagram → FromBytes true m.datagram d → d ≡ Ok p
    → length m.datagram ≤ full_size → (edits : List ℕ) → Bytes edits → length edits ≤ max_store → (old : List ℕ) (start : ℕ) (r : Result ℕ Refusal) (new : List ℕ)
    → start + length (message_of form m) ≤ length old → Freezes form m.peer p (stores m.datagram edits) old start r new
    → (r ≡ Ok (length (message_of form m))) × (new ≡ sets old start (message_of form m))

-- An item that comes of a message: its peer, and the packet that strict reading made of its datagram, beside any edit store.
pub record Comes (m : Frozen) (i : Item) : Type 0 where
  pub edits : List ℕ
  pub bytes : Bytes m.datagram
  pub packet : Packet
  pub read : FromBytes true m.datagram (Ok packet)
  pub is : i ≡ record { peer = m.peer; packet = packet; lent = stores m.datagram edits }

-- Items that come of the messages of a list, one by one.
abbrev pub AllCome : List Frozen → List Item → Type 0
AllCome [] [] = Unit {0}
AllCome [] (i ∷ k) = ⊥
AllCome (m ∷ l) [] = ⊥
AllCome (m ∷ l) (i ∷ k) = Comes m i × AllCome l k

-- What is read is written back: the messages of a stream, frozen again one after the other, are the stream, byte for byte.
abbrev pub StreamAgain : Type 0
StreamAgain =
    (form : Form) (s : List ℕ) (l : List Frozen) → IsStreamOf form s l → (k : List Item) → AllCome l k → AllProper k
    → (old : List ℕ) (end : ℕ) (new : List ℕ) → InTurn form k old 0 end new → take end new ≡ s

-- Freezing is refused 12 for the stream alone: for a packet that means a message of at most 1,280 bytes, which has too little room
-- there.
abbrev pub RoomOfTheStream : Type 0
RoomOfTheStream =
    (form : Form) (peer : List ℕ) (p : Packet) → Shaped p → (s : Stores) → Held s → (old : List ℕ) (start : ℕ) (r : Result ℕ Refusal) (new : List ℕ)
    → Freezes form peer p s old start r new → r ≡ Err NoRoom
    → (length (layout (meaning s p)) ≤ full_size) × (length old < start + length (message_of form (message_for (record { peer = peer; packet = p; lent = s }))))

-- A refused freezing leaves the stream as it was.
abbrev pub StreamKept : Type 0
StreamKept =
    (form : Form) (peer : List ℕ) (p : Packet) (s : Stores) (old : List ℕ) (start : ℕ) (r : Result ℕ Refusal) (new : List ℕ)
    → Freezes form peer p s old start r new → (e : Refusal) → r ≡ Err e → new ≡ old

-- Every definition that a promise of streams tells its answer by tells answers apart.
pub record ToldApart : Type 0 where
  pub messages : TellsApart step_read
  pub streams : TellsApart streamJudged
  pub strict_streams : TellsApart strictly_in

-- A stream that is thawed has one answer, one list and one output; a packet that is frozen one answer and one stream.
abbrev pub OneThawing : Type 0
OneThawing =
    (form : Form) (s oldList oldOut : List ℕ) (r q : Result ℕ Refusal) (list alsoList out alsoOut : List ℕ)
    → Thaws form s oldList oldOut r list out → Thaws form s oldList oldOut q alsoList alsoOut
    → (r ≡ q) × (list ≡ alsoList) × (out ≡ alsoOut)

abbrev pub OneFreezing : Type 0
OneFreezing =
    (form : Form) (peer : List ℕ) (p : Packet) (s : Stores) (old : List ℕ) (start : ℕ) (r q : Result ℕ Refusal) (new also : List ℕ)
    → Freezes form peer p s old start r new → Freezes form peer p s old start q also → (r ≡ q) × (new ≡ also)
