-- Traces and their replay: which traces there are, of which messages; and that a replay lists what the duplicate rule says of each
-- message, up to the one that is refused.
use Rattle.std.specs.Prelude.{ℕ, ◌-◌, ◌<◌, ◌≤◌, ◌≡◌, true, ◌↔◌, List, [], ◌∷◌, ◌++◌, map, length, drop, Result, Ok, Err}
use Rattle.ground.specs.Part.{Bytes}
use Rattle.rfc.specs.Duplicates.{Arrival, history, fresh, fresh_after, last_time}
use Rattle.refusal.specs.Answer.{given, refused}
use Rattle.refusal.specs.Number.{number_of}
use Rattle.refusal.specs.declared.Refusal.{Refusal}
use Rattle.refusal.specs.declared.Refusal.TheVariants.{NoRoom, BadFreeze}
use Rattle.packet.specs.Packet.{stores}
use Rattle.packet.specs.Meaning.{meaning}
use Rattle.packet.specs.declared.Packet.{Packet}
use Rattle.reading.specs.Reading.{reading}
use Rattle.stream.specs.declared.Form.{Form}
use Rattle.stream.specs.Stream.{Frozen, stream_of}
use Rattle.thawing.specs.Thawing.{Strictly}
use Rattle.thawing.specs.declared.Strict.{Strict}
use Rattle.hearing.specs.Bytes.{table_size}
use Rattle.hearing.specs.Hearing.{verdict_of, Hears, Clears}
use Rattle.hearing.specs.Calls.{letter}
use Rattle.hearing.specs.Told.{Holds, Why}
use Rattle.hearing.specs.declared.Verdict.{Verdict}
use Rattle.tracing.specs.Trace.{Timed, AllTimed, trace_of, messages_of}
use Rattle.tracing.specs.Judging.{judged as traceJudged, Judges}
use Rattle.tracing.specs.Answers.{timed_read}
use Rattle.tracing.specs.Arrivals.{arrival_of, arrivals_of, arrived_in}
use Rattle.replaying.specs.Replaying.{begins, Replays}
use Rattle.replaying.specs.declared.Replayed.{Replayed}
use Rattle.stream_guarantees.specs.StreamOf.{AllAccepted}
use Rattle.guarantees.specs.Apart.{TellsApart}

-- The trace is that of a list: times of 32 bits, and messages whose peers have 18 bytes, and whose datagrams have 4..1,280 and are
-- accepted by strict reading.
pub record IsTraceOf (form : Form) (s : List ℕ) (l : List Timed) : Type 0 where
  pub timed : AllTimed l
  pub accepted : AllAccepted (messages_of l)
  pub bytes : s ≡ trace_of form l

-- A trace is refused neither 19 nor for a datagram exactly when it is that of such a list, in one of the two forms.
abbrev pub TraceJudgedExactly : Type 0
TraceJudgedExactly =
    (s : List ℕ) → Bytes s → (r : Result ℕ Refusal) → Judges s r
    → ((n : ℕ) × (r ≡ Ok n)) ↔ ((form : Form) × (l : List Timed) × IsTraceOf form s l)

-- There is only one such list, which is counted; and a trace that has bytes has only one form.
abbrev pub OneTrace : Type 0
OneTrace =
    (f g : Form) (s : List ℕ) (l m : List Timed) → IsTraceOf f s l → IsTraceOf g s m → (l ≡ m) × ((s ≡ [] → ⊥) → f ≡ g)

abbrev pub TraceCounted : Type 0
TraceCounted = (form : Form) (s : List ℕ) (l : List Timed) → IsTraceOf form s l → (r : Result ℕ Refusal) → Judges s r → r ≡ Ok (length l)

-- What is no trace of either form is refused 19, whatever datagrams it has: where a time is missing, where one stands twice, between the
-- records of a message or last, and for messages of both forms.
abbrev pub NoTrace : Type 0
NoTrace =
    (s : List ℕ) → Bytes s → (r : Result ℕ Refusal) → Judges s r → ((form : Form) (l : List Timed) → AllTimed l → s ≡ trace_of form l → ⊥)
    → r ≡ Err BadFreeze

-- A stream that has bytes is no trace, and a trace that has bytes is no stream.
abbrev pub NoStreamIsTrace : Type 0
NoStreamIsTrace =
    (form : Form) (m : Frozen) (l : List Frozen) (r : Result ℕ Refusal) → Judges (stream_of form (m ∷ l)) r → r ≡ Err BadFreeze

abbrev pub NoTraceIsStream : Type 0
NoTraceIsStream =
    (form other counted : Form) (m : Timed) (l : List Timed) (r : Result Strict Refusal) → Strictly other counted (trace_of form (m ∷ l)) r
    → r ≡ Err BadFreeze

-- The trace of two lists is one after the other.
abbrev pub TraceAppended : Type 0
TraceAppended = (form : Form) (l m : List Timed) → trace_of form (l ++ m) ≡ trace_of form l ++ trace_of form m

-- Type and id of a message are those of the message that strict reading makes of its datagram.
abbrev pub IdentifiedByMeaning : Type 0
IdentifiedByMeaning =
    (m : Timed) (p : Packet) → Bytes m.message.datagram → reading true m.message.datagram ≡ given p → (edits : List ℕ)
    → ((arrival_of m).type ≡ (meaning (stores m.message.datagram edits) p).type)
    × ((arrival_of m).id ≡ (meaning (stores m.message.datagram edits) p).id)

-- A replay of these messages begins: the trace is theirs, and the table has 1,600 bytes.
pub record Begins (s table : List ℕ) (l : List Timed) : Type 0 where
  pub form : Form
  pub trace : IsTraceOf form s l
  pub size : table_size ≤ length table

-- None of these messages is refused, after new ones and a message of the time `before`, with places for so many in the listing.
abbrev pub NoneRefused : ℕ → ℕ → List Arrival → List Arrival → Type 0
NoneRefused room before news [] = Unit {0}
NoneRefused room before news (m ∷ ms) =
    ((k : ℕ) → Why room before news m k → ⊥) × NoneRefused (room - 1) m.time (fresh_after news m) ms

-- The first message that is refused, with places for so many in the listing, and with which refusal: ClockBack (21) exactly where its
-- time is less than the one before; else NoRoom (12) exactly where the listing has no place left, or it is new and 64 new ones before
-- it are unexpired.
pub record Stops (room : ℕ) (l : List Timed) (e : Refusal) : Type 0 where
  pub front : List Timed
  pub at : Timed
  pub rest : List Timed
  pub split : l ≡ front ++ (at ∷ rest)
  pub none : NoneRefused room 0 [] (arrivals_of front)
  pub why : Why (room - length front) (last_time 0 (arrivals_of front)) (fresh (arrivals_of front)) (arrival_of at) (number_of e)

-- What these messages leave: the byte of what the history says of each at the front of the listing, and what stood after them; the
-- new ones in the table, and the bytes after it as they were.
pub record Leaves (l : List Timed) (table listing : List ℕ) (n : ℕ) (left listed : List ℕ) : Type 0 where
  pub count : n ≡ length l
  pub letters : listed ≡ map letter (history (arrivals_of l)) ++ drop (length l) listing
  pub holds : Holds (last_time 0 (arrivals_of l)) left (fresh (arrivals_of l))
  pub behind : drop table_size left ≡ drop table_size table

-- Messages heard one after the other by calls that aren't refused: the bytes of what they are, and the table after the last.
abbrev pub InTurn : ℕ → List Arrival → (old letters left : List ℕ) → Type 0
InTurn before [] old letters left = (letters ≡ []) × (left ≡ old)
InTurn before (m ∷ ms) old letters left =
    (r : Result Verdict Refusal) × (v : Verdict) × (mid : List ℕ) × (others : List ℕ) × Hears before m old r mid × (r ≡ Ok v)
    × (letters ≡ letter (verdict_of v) ∷ others) × InTurn m.time ms mid others left

pub record ReplaysExactly (s table listing : List ℕ) (r : Replayed) (left listed : List ℕ) : Type 0 where
  -- Where it begins, nothing is refused exactly when no message is; the listing is then the history of all of them.
  pub done : (l : List Timed) → Begins s table l → (r.outcome ≡ Ok tt) ↔ NoneRefused (length listing) 0 [] (arrivals_of l)
  pub whole : (l : List Timed) → Begins s table l → r.outcome ≡ Ok tt → Leaves l table listing r.count left listed
  -- It is refused exactly for the first message that is; table and listing are then what the messages before it leave.
  pub stops : (l : List Timed) → Begins s table l → (e : Refusal) → (r.outcome ≡ Err e) ↔ Stops (length listing) l e
  pub part : (l : List Timed) → Begins s table l → (e : Refusal) (x : Stops (length listing) l e) → Leaves x.front table listing r.count left listed
  -- Either way they are what calls of `clear` and `hear` leave, one for each message that is listed.
  pub calls : (front rest : List Timed) → Begins s table (front ++ rest) → r.count ≡ length front
      → (o : Result (Unit {0}) Refusal) (mid : List ℕ) → Clears table o mid → (letters after : List ℕ) → InTurn 0 (arrivals_of front) mid letters after
      → (left ≡ after) × (listed ≡ letters ++ drop (length front) listing)
  -- It doesn't begin where judging the trace is refused, and is refused for that; nor, 12, for a table under 1,600 bytes.
  pub judged : (j : Result ℕ Refusal) → Judges s j → (e : Refusal) → j ≡ Err e → r.outcome ≡ Err e
  pub short : (j : Result ℕ Refusal) → Judges s j → (n : ℕ) → j ≡ Ok n → length table < table_size → r.outcome ≡ Err NoRoom
  -- Where it doesn't begin it is refused, nothing is listed, and no byte changes.
  pub never : ((l : List Timed) → Begins s table l → ⊥)
      → ((e : Refusal) × (r.outcome ≡ Err e)) × (r.count ≡ 0) × (left ≡ table) × (listed ≡ listing)

-- So it is of every trace, table and listing, and of every answer that meets the promise.
abbrev pub Replaying : Type 0
Replaying =
    (s : List ℕ) → Bytes s → (table listing : List ℕ) (r : Replayed) (left listed : List ℕ)
    → Replays s table listing r left listed → ReplaysExactly s table listing r left listed

-- A replay that is refused before it begins lists nothing, and leaves table and listing as they were. (What one leaves that a message
-- ends is said above.)
abbrev pub ReplayKept : Type 0
ReplayKept =
    (s table listing : List ℕ) (r : Replayed) (left listed : List ℕ) → Replays s table listing r left listed
    → (k : ℕ) → begins s (length table) ≡ refused k → (r.count ≡ 0) × (left ≡ table) × (listed ≡ listing)

-- Every definition that a promise of traces tells its answer by tells answers apart.
pub record ToldApart : Type 0 where
  pub traces : TellsApart traceJudged
  pub timed_messages : TellsApart timed_read
  pub arrivals : TellsApart arrived_in

-- A replay has one answer, and leaves one table and one listing.
abbrev pub OneReplay : Type 0
OneReplay =
    (s table listing : List ℕ) (r q : Replayed) (left also listed other : List ℕ) → Replays s table listing r left listed
    → Replays s table listing q also other → (r ≡ q) × (left ≡ also) × (listed ≡ other)
