-- What calls answer, by the history alone: the statements that tie the table to it.
use Rattle.std.specs.Prelude.{ℕ, ◌-◌, ◌<◌, ◌≤◌, ◌≡◌, Bool, List, ◌∷◌, ◌++◌, map, ◌⊎◌, length, drop}
use Rattle.ground.specs.Part.{Among}
use Rattle.rfc.specs.Duplicates.{Arrival, new, verdict, fresh_from, history_from, count, any, last_time}
use Rattle.refusal.specs.Answer.{given}
use Rattle.hearing.specs.Table.{entries}
use Rattle.hearing.specs.Bytes.{table_size, places}
use Rattle.hearing.specs.Calls.{letter, Calls, calls_from}

-- What a table holds of the new ones so far, `before` being the time of the last message.
pub record Holds (before : ℕ) (table : List ℕ) (fresh : List Arrival) : Type 0 where
  pub size : table_size ≤ length table
  -- Of those that are unexpired, from then on and whatever is asked of them, just as many as there are.
  pub counts : (now : ℕ) → before ≤ now → (p : Arrival → Bool) → count now p (entries (places table)) ≡ count now p fresh
  -- No entry that isn't one of them.
  pub known : (e : Arrival) → Among e (entries (places table)) → Among e fresh

-- A message is new, and 64 new ones before it are unexpired.
pub record NoPlace (fresh : List Arrival) (m : Arrival) : Type 0 where
  pub is_new : verdict fresh m ≡ new
  pub full : 64 ≤ count m.time any fresh

-- Why a message is refused, after new ones and a message of the time `before`, and with which number: ClockBack (21) where its time
-- is less; else NoRoom (12) where the listing has no place for it, or the table.
abbrev pub Why : ℕ → ℕ → List Arrival → Arrival → ℕ → Type 0
Why room before fresh m k =
    ((k ≡ 21) × (m.time < before)) ⊎ ((k ≡ 12) × (before ≤ m.time) × ((room ≡ 0) ⊎ NoPlace fresh m))

-- Calls in turn that came to the end of their messages: what is listed is the history, the table holds the new ones, and the bytes
-- after it are as they were.
pub record Whole (before : ℕ) (table : List ℕ) (fresh ms : List Arrival) (c : Calls) : Type 0 where
  pub listing : c.listing ≡ map letter (history_from fresh ms)
  pub holds : Holds (last_time before ms) c.table (fresh_from fresh ms)
  pub behind : drop table_size c.table ≡ drop table_size table

-- Calls that a refusal ended: at which message and why; what is listed is the history of the messages before it, and the table is
-- the one that they left.
pub record Ended (room before : ℕ) (table : List ℕ) (fresh ms : List Arrival) (k : ℕ) (c : Calls) : Type 0 where
  pub front : List Arrival
  pub at : Arrival
  pub rest : List Arrival
  pub split : ms ≡ front ++ (at ∷ rest)
  pub why : Why (room - length front) (last_time before front) (fresh_from fresh front) at k
  pub whole : (calls_from room before table front).outcome ≡ given tt
  pub listing : c.listing ≡ map letter (history_from fresh front)
  pub left : c.table ≡ (calls_from room before table front).table
