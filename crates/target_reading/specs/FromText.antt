-- A path and query text to a new packet: the order of refusals, its records, and what the edit store then holds.
use Rattle.std.specs.Prelude.{ℕ, ◌+◌, ◌≡◌, List, [], ◌∷◌, ◌++◌, length, ltb, Result, Ok, Err}
use Rattle.std.proofs.lemmas.List.Edits.{sets}
use Rattle.ground.specs.Choice.{pick}
use Rattle.rfc.specs.Percent.{Read, good, bad_text, bad_option}
use Rattle.rfc.specs.Target.{Target}
use Rattle.rfc.specs.Text.{joined}
use Rattle.refusal.specs.Number.{number_of}
use Rattle.refusal.specs.declared.Fault.{Fault}
use Rattle.refusal.specs.declared.Fault.TheVariants.{Refused, BadOption}
use Rattle.packet.specs.Limits.{max_store, max_options}
use Rattle.packet.specs.Packet.{new_packet}
use Rattle.packet.specs.declared.Packet.{Packet}
use Rattle.packet.specs.declared.OptionRecord.{OptionRecord}
use Rattle.packet.specs.declared.Home.TheVariants.{Edits}
use Rattle.uri_text.specs.Reading.{reading}
use Rattle.uri_text.specs.Tally.{total}

-- What a text is answered: a value; a refusal's number; or a refusal's number and the index of a record, from 0.
pub data Reply (A : Type 0) : Type 0 where
  passes : A → Reply A
  refused : ℕ → Reply A
  refused_at : ℕ → ℕ → Reply A

-- TooManyOptions (6) for more than 128 options, then NoRoom (12) where the store ends before the values do, or before the start.
abbrev pub placing : (room start : ℕ) → Target → Reply Target
placing room start t =
    pick (ltb max_options (length t.path + length t.query)) (refused 6)
    (pick (ltb room (start + (total t.path + total t.query))) (refused 12) (passes t))

-- What a text says, with its own refusals: BadText (15), or BadOption (16) with its index.
abbrev pub placed : (room start : ℕ) → Read Target → Reply Target
placed room start (good t) = placing room start t
placed room start bad_text = refused 15
placed room start (bad_option i) = refused_at 16 i

-- A store over 70,000 bytes gives 10 first.
unfoldable pub reply_to : (room start : ℕ) → List ℕ → Reply Target
reply_to room start s = pick (ltb max_store room) (refused 10) (placed room start (reading s))

-- The records of values that stand end to end in the edit store from a place on, an empty one at the running place.
abbrev pub records_at : (number at : ℕ) → List (List ℕ) → List OptionRecord
records_at number at [] = []
records_at number at (v ∷ vs) =
    record { number = number; home = Edits; spare = 0; start = at; len = length v } ∷ records_at number (at + length v) vs

-- Uri-Path records, then Uri-Query records.
abbrev pub records_for : (start : ℕ) → Target → List OptionRecord
records_for start t = records_at 11 start t.path ++ records_at 15 (start + total t.path) t.query

-- The new packet with an array of records, of which so many are in use.
abbrev pub packet_with : ℕ → List OptionRecord → Packet
packet_with count options =
    record {
      header = new_packet.header;
      token = new_packet.token;
      count = count;
      options = options;
      payload = new_packet.payload;
    }

-- The new packet with the records of a target, at the front of its array.
unfoldable pub packet_for : (start : ℕ) → Target → Packet
packet_for start t =
    packet_with (length t.path + length t.query) (sets new_packet.options 0 (records_for start t))

-- The packet of an answer; beside a refusal the new packet.
abbrev pub packet_of : (start : ℕ) → Reply Target → Packet
packet_of start (passes t) = packet_for start t
packet_of start (refused k) = new_packet
packet_of start (refused_at k i) = new_packet

-- What the edit store holds: the values one after the other from the start, and every other byte as it was; after a refusal what
-- it held.
abbrev pub store_of : (start : ℕ) → Reply Target → List ℕ → List ℕ
store_of start (passes t) old = sets old start (joined t.path ++ joined t.query)
store_of start (refused k) old = old
store_of start (refused_at k i) old = old

-- An answer without its value, and what the code answers: BadOption is 16, and it alone names a record.
abbrev pub bare : Reply Target → Reply (Unit {0})
bare (passes t) = passes tt
bare (refused k) = refused k
bare (refused_at k i) = refused_at k i

abbrev pub told : Result Packet Fault → Reply (Unit {0})
told (Ok p) = passes tt
told (Err (Refused e)) = refused (number_of e)
told (Err (BadOption i)) = refused_at 16 i

-- The packet of what the code answers; beside a refusal the new packet.
abbrev pub packet_read : Result Packet Fault → Packet
packet_read (Ok p) = p
packet_read (Err f) = new_packet

-- What an answer shows of a reply.
pub record Answers (a : Reply Target) (start : ℕ) (old : List ℕ) (r : Result Packet Fault) (new : List ℕ) : Type 0 where
  pub outcome : told r ≡ bare a
  pub packet : packet_read r ≡ packet_of start a
  pub store : new ≡ store_of start a old

-- What reading a text promises.
abbrev pub FromText : List ℕ → (start : ℕ) → List ℕ → Result Packet Fault → List ℕ → Type 0
FromText s start old r new = Answers (reply_to (length old) start s) start old r new
