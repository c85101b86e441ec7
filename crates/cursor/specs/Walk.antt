-- What the steps from a cursor give together, and the packet that is collected from them.
use Rattle.std.specs.Prelude.{ℕ, zero, suc, ◌-◌, ◌<◌, ◌≤◌, ◌≡◌, Bool, List, [], ◌∷◌, ◌++◌, length, replicate, Ok, Err}
use Rattle.refusal.specs.Answer.{Answer, given, refused, onward}
use Rattle.refusal.specs.Number.{number_of}
use Rattle.refusal.specs.declared.Refusal.{Refusal}
use Rattle.header.specs.Header.{header_of, token_of}
use Rattle.header.specs.declared.HeaderRaw.{HeaderRaw}
use Rattle.packet.specs.Limits.{max_options}
use Rattle.packet.specs.Packet.{none, in_datagram}
use Rattle.packet.specs.declared.OptionRecord.{OptionRecord}
use Rattle.packet.specs.declared.Packet.{Packet}
use Rattle.packet.specs.declared.Range.{Range}
use Rattle.option_reading.specs.Option.{option, place_at}
use Rattle.reading.specs.Reading.{longest}
use Rattle.cursor.specs.Cursor.{start_of, Seen, passed, rest, past, step_of, record_of, StepsTo}
use Rattle.cursor.specs.declared.Cursor.{Cursor}
use Rattle.cursor.specs.declared.Step.TheVariants.{Option, Payload}

-- What is collected: the options that were passed, and the payload.
pub record Walked : Type 0 where
  pub records : List OptionRecord
  pub payload : Range

-- Go on after an option; the payload is a walk with no options.
abbrev pub on_seen : Answer Seen → (OptionRecord → Cursor → Answer Walked) → Answer Walked
on_seen (given (passed r c)) next = next r c
on_seen (given (rest p)) next = given (record { records = []; payload = p })
on_seen (refused k) next = refused k

-- One more option before those that follow.
abbrev pub joined : OptionRecord → Walked → Answer Walked
joined r w = given (record { records = r ∷ w.records; payload = w.payload })

-- What at most so many steps from a cursor give; with none left, 6.
unfoldable pub walk : ℕ → List ℕ → Cursor → Answer Walked
walk zero s c = refused 6
walk (suc steps) s c = on_seen (step_of s c) (λ r next. onward (walk steps s next) (joined r))

-- Whether the steps from a cursor end well: one step more than there may be options is enough.
abbrev pub accepting_from : List ℕ → Cursor → Answer (Unit {0})
accepting_from s c = onward (walk (suc c.left) s c) (λ _. given tt)

-- The packet of a header and of what was collected after it.
unfoldable pub collected : HeaderRaw → Walked → Packet
collected raw w =
    record {
      header = header_of raw;
      token = in_datagram 4 (token_of raw);
      count = length w.records;
      options = w.records ++ replicate (max_options - length w.records) none;
      payload = w.payload;
    }

-- The packet that is collected by a start and at most so many steps.
abbrev pub stepping : ℕ → Bool → List ℕ → Answer Packet
stepping steps strict s =
    onward (start_of strict s) (λ o. onward (walk steps s o.cursor) (λ w. given (collected o.raw w)))

-- A loop that steps from a cursor until it is told to stop: each answer meets the step's promise, these options were passed,
-- and this is how it ended.
pub data Run (s : List ℕ) : Cursor → List OptionRecord → Answer Range → Type 0 where
  goes : {c : Cursor} {number : ℕ} {value : Range} {next : Cursor} {rs : List OptionRecord} {a : Answer Range}
      → StepsTo s c (Ok (Option number value next)) → Run s next rs a → Run s c (record_of number value ∷ rs) a
  ends : {c : Cursor} {p : Range} → StepsTo s c (Ok (Payload p)) → Run s c [] (given p)
  stops : {c : Cursor} (e : Refusal) → StepsTo s c (Err e) → Run s c [] (refused (number_of e))

-- What a step past an option says: that option stands at the cursor, which was inside the datagram and had room for it, and
-- the next cursor is the one after it, with less room.
pub record Passes (s : List ℕ) (c : Cursor) (r : OptionRecord) (next : Cursor) : Type 0 where
  pub place : place_at (longest c.strict) s c.number c.at ≡ given (option r)
  pub after : next ≡ past c r
  pub falls : next.left < c.left
  pub inside : c.at ≤ length s
