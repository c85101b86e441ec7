-- Paths and queries as text: a packet's Uri-Path and Uri-Query options are written as the text of RFC 7252, section 6.5, and a
-- text is read as a new packet with the options of section 6.4. There and back is the same options.
use Rattle.std.specs.Prelude.{ℕ, ◌+◌, ◌≤◌, ◌≡◌, true, List, [], length, take, Result, Ok, Err}
use Rattle.ground.specs.Part.{Bytes}
use Rattle.rfc.specs.Message.{Message, Opt}
use Rattle.rfc.specs.Percent.{good}
use Rattle.rfc.specs.Target.{Target, target_of, options_of, text_of, spelt}
use Rattle.refusal.specs.declared.Refusal.{Refusal}
use Rattle.refusal.specs.declared.Fault.{Fault}
use Rattle.packet.specs.Limits.{max_store, max_options}
use Rattle.packet.specs.Packet.{Stores, stores, bytes_of, new_packet}
use Rattle.packet.specs.Meaning.{meaning}
use Rattle.packet.specs.declared.Packet.{Packet}
use Rattle.packet.specs.declared.Range.{Range}
use Rattle.packet.specs.declared.Home.TheVariants.{Datagram}
use Rattle.uri_text.specs.Reading.{reading}
use Rattle.uri_text.specs.Sayable.{SayableTarget}
use Rattle.uri_text.specs.Judging.{judged_read}
use Rattle.uri_text.specs.Tally.{total, tallied}
use Rattle.target_writing.specs.ToText.{ToText}
use Rattle.target_reading.specs.FromText.{packet_read, FromText}
use Rattle.guarantees.specs.Apart.{TellsApart}

-- The path and the query that a packet means.
abbrev pub target_in : Stores → Packet → Target
target_in s p = target_of (meaning s p).options

-- What is written is the text of the packet's path and query.
abbrev pub WritesText : Type 0
WritesText =
    (s : Stores) (p : Packet) (old : List ℕ) (r : Result ℕ Refusal) (new : List ℕ) (n : ℕ) → ToText s p old r new → r ≡ Ok n
    → take n new ≡ text_of (target_in s p)

-- It has only characters that reading allows, and upper-case digits, whatever bytes the values are.
abbrev pub WritesSpelt : Type 0
WritesSpelt =
    (s : Stores) (p : Packet) (old : List ℕ) (r : Result ℕ Refusal) (new : List ℕ) (n : ℕ) → Bytes s.datagram → Bytes s.edits
    → ToText s p old r new → r ≡ Ok n → spelt 0 (take n new) ≡ true

-- The new message, with these options.
abbrev pub new_message : List Opt → Message
new_message os =
    record { version = 1; type = 0; code = 1; id = 0; token = []; options = os; payload = [] }

-- A text that passes says a target, and its packet means the new message with that target's options, whatever the datagram holds.
abbrev pub MeansTarget : Type 0
MeansTarget =
    (s : List ℕ) (start : ℕ) (old : List ℕ) (r : Result Packet Fault) (new : List ℕ) → FromText s start old r new → (p : Packet) → r ≡ Ok p
    → (t : Target) × (reading s ≡ good t) × ((d : List ℕ) → meaning (stores d new) p ≡ new_message (options_of t))

-- A store of at most 70,000 bytes with room for a target's values from a start on, and at most 128 of them.
pub record HasRoom (t : Target) (start : ℕ) (store : List ℕ) : Type 0 where
  pub short : length store ≤ max_store
  pub few : length t.path + length t.query ≤ max_options
  pub room : start + (total t.path + total t.query) ≤ length store

-- Options to text to options is the identity, if every value is UTF-8 of at most 255 bytes, no segment is `.` or `..`, the path
-- isn't one empty segment and the query isn't one empty part.
abbrev pub Identity : Type 0
Identity =
    (s : Stores) (p : Packet) (old : List ℕ) (r : Result ℕ Refusal) (new : List ℕ) (n : ℕ) → ToText s p old r new → r ≡ Ok n
    → SayableTarget (target_in s p) → (start : ℕ) (old₂ : List ℕ) → HasRoom (target_in s p) start old₂
    → (r₂ : Result Packet Fault) (new₂ : List ℕ) → FromText (take n new) start old₂ r₂ new₂
    → (q : Packet) × (r₂ ≡ Ok q) × ((d : List ℕ) → target_in (stores d new₂) q ≡ target_in s p)

-- Text to options to text is stable after one pass: the text of what any text says is read as the same.
abbrev pub Stable : Type 0
Stable = (s : List ℕ) (t : Target) → reading s ≡ good t → reading (text_of t) ≡ good t

-- So it is of the two calls: a text that is read, written again and read again, with room, passes and says the same.
abbrev pub StableCalls : Type 0
StableCalls =
    (s : List ℕ) (start : ℕ) (old : List ℕ) (r : Result Packet Fault) (new : List ℕ) → FromText s start old r new → (p : Packet) → r ≡ Ok p
    → (d old₂ : List ℕ) (w : Result ℕ Refusal) (text : List ℕ) (n : ℕ) → ToText (stores d new) p old₂ w text → w ≡ Ok n
    → (start₃ : ℕ) (old₃ : List ℕ) → HasRoom (target_in (stores d new) p) start₃ old₃
    → (r₃ : Result Packet Fault) (new₃ : List ℕ) → FromText (take n text) start₃ old₃ r₃ new₃
    → (q : Packet) × (r₃ ≡ Ok q) × ((e : List ℕ) → target_in (stores e new₃) q ≡ target_in (stores d new) p)

-- A text that is read into the edit store leaves what every range of the datagram names.
abbrev pub TextLeaves : Type 0
TextLeaves =
    (datagram text : List ℕ) (start : ℕ) (old : List ℕ) (r : Result Packet Fault) (new : List ℕ) → FromText text start old r new
    → (range : Range) → range.home ≡ Datagram → bytes_of (stores datagram new) range ≡ bytes_of (stores datagram old) range

-- A refused call leaves what it was lent: the output, or the store, with the new packet beside the refusal.
abbrev pub TextKept : Type 0
TextKept =
    (s : Stores) (p : Packet) (old : List ℕ) (r : Result ℕ Refusal) (new : List ℕ) → ToText s p old r new → (e : Refusal) → r ≡ Err e
    → new ≡ old

abbrev pub StoreKept : Type 0
StoreKept =
    (s : List ℕ) (start : ℕ) (old : List ℕ) (r : Result Packet Fault) (new : List ℕ) → FromText s start old r new
    → (f : Fault) → r ≡ Err f → (new ≡ old) × (packet_read r ≡ new_packet)

-- No second answer meets either promise, and none leaves another output or store.
abbrev pub OneText : Type 0
OneText =
    (s : Stores) (p : Packet) (old : List ℕ) (r q : Result ℕ Refusal) (new also : List ℕ) → ToText s p old r new → ToText s p old q also
    → (r ≡ q) × (new ≡ also)

abbrev pub OneTarget : Type 0
OneTarget =
    (s : List ℕ) (start : ℕ) (old : List ℕ) (r q : Result Packet Fault) (new also : List ℕ) → FromText s start old r new
    → FromText s start old q also → (r ≡ q) × (new ≡ also)

-- Every definition that a promise of URI text tells its answer by tells answers apart.
pub record ToldApart : Type 0 where
  pub uri_parts : TellsApart judged_read
  pub uri_texts : TellsApart tallied
