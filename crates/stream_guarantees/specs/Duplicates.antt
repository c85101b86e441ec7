-- Duplicates, message by message over a lent table: what a message is by the history alone, which place it takes, what the table
-- then holds, and why a message is refused.
use Rattle.std.specs.Prelude.{ℕ, ◌<◌, ◌≤◌, ◌≡◌, true, false, List, [], ◌⊎◌, ◌↔◌, length, drop, get_or, set, Result, Ok, Err}
use Rattle.ground.specs.Part.{Among}
use Rattle.rfc.specs.Duplicates.{Arrival, unexpired, same, verdict, fresh_after, fresh, count, InTime, last_time}
use Rattle.refusal.specs.declared.Refusal.{Refusal}
use Rattle.refusal.specs.declared.Refusal.TheVariants.{NoRoom, ClockBack}
use Rattle.hearing.specs.Table.{unused, holds, entries, free}
use Rattle.hearing.specs.Bytes.{table_size, places}
use Rattle.hearing.specs.Hearing.{Fits, verdict_of, heard_of, Hears, Clears}
use Rattle.hearing.specs.Told.{Holds, NoPlace}
use Rattle.hearing.specs.declared.Verdict.{Verdict}
use Rattle.hearing.specs.declared.Verdict.TheVariants.{New}
use Rattle.guarantees.specs.Apart.{TellsApart}

-- A message stands in the lowest-numbered place that was unused or expired, and the other places are as they were.
pub record Takes (m : Arrival) (old left : List ℕ) : Type 0 where
  pub place : ℕ
  pub within : place < 64
  pub was_free : free m.time (get_or (places old) place unused) ≡ true
  pub none_below : (j : ℕ) → j < place → free m.time (get_or (places old) j unused) ≡ false
  pub stands : places left ≡ set (places old) place (holds m)

-- A call over a table that holds the new ones so far, after a message of the time `before`.
pub record ByHistory (before : ℕ) (news : List Arrival) (m : Arrival) (old : List ℕ) (r : Result Verdict Refusal) (left : List ℕ) : Type 0 where
  -- A message that isn't refused is what the history says, and the table then holds the new ones with it.
  pub is : (v : Verdict) → r ≡ Ok v → (verdict news m ≡ verdict_of v) × Holds m.time left (fresh_after news m)
  -- A new one takes the lowest free place. A duplicate, an acknowledgement, a reset and a refused message change no byte.
  pub takes : r ≡ Ok New → Takes m old left
  pub stays : (r ≡ Ok New → ⊥) → left ≡ old
  pub behind : drop table_size left ≡ drop table_size old
  -- It is refused 21 exactly when its time is less than the one before; 12 exactly when it isn't, the message is new, and 64 new
  -- ones before it are unexpired; and for nothing else.
  pub back : (r ≡ Err ClockBack) ↔ (m.time < before)
  pub full : (r ≡ Err NoRoom) ↔ ((before ≤ m.time) × NoPlace news m)
  pub only : (e : Refusal) → r ≡ Err e → (e ≡ ClockBack) ⊎ (e ≡ NoRoom)

abbrev pub HearsHistory : Type 0
HearsHistory =
    (before : ℕ) (news : List Arrival) (m : Arrival) → Fits m → (old : List ℕ) → Holds before old news
    → (r : Result Verdict Refusal) (left : List ℕ) → Hears before m old r left → ByHistory before news m old r left

-- A table under 1,600 bytes is 12, after 21.
abbrev pub ShortTable : Type 0
ShortTable =
    (before : ℕ) (m : Arrival) (old : List ℕ) (r : Result Verdict Refusal) (left : List ℕ) → Hears before m old r left → length old < table_size
    → (m.time < before → r ≡ Err ClockBack) × (before ≤ m.time → r ≡ Err NoRoom)

-- A table of 1,600 bytes or more is cleared, and then holds nothing; the bytes after it are as they were.
abbrev pub ClearedTable : Type 0
ClearedTable =
    (old : List ℕ) (r : Result (Unit {0}) Refusal) (left : List ℕ) → Clears old r left
    → ((r ≡ Ok tt) ↔ (table_size ≤ length old)) × (r ≡ Ok tt → Holds 0 left [] × (drop table_size left ≡ drop table_size old))

-- Of a row of messages whose times never fall, each new one that is unexpired stands in a table that holds them, and is the only
-- unexpired entry of its type, peer and id.
abbrev pub OnePlace : Type 0
OnePlace =
    (ms : List Arrival) → InTime 0 ms → (table : List ℕ) → Holds (last_time 0 ms) table (fresh ms)
    → (now : ℕ) → last_time 0 ms ≤ now → (x : Arrival) → Among x (fresh ms) → unexpired now x ≡ true
    → Among x (entries (places table)) × (count now (same x) (entries (places table)) ≡ 1)

-- A refused message leaves the table as it was, and so does a refused clearing.
abbrev pub TableKept : Type 0
TableKept =
    ((before : ℕ) (m : Arrival) (old : List ℕ) (r : Result Verdict Refusal) (left : List ℕ) → Hears before m old r left
    → (e : Refusal) → r ≡ Err e → left ≡ old)
    × ((old : List ℕ) (r : Result (Unit {0}) Refusal) (left : List ℕ) → Clears old r left → (e : Refusal) → r ≡ Err e → left ≡ old)

-- The definition that a promise on a message tells its answer by tells answers apart.
pub record ToldApart : Type 0 where
  pub heard : TellsApart heard_of

-- A message over a table has one answer and leaves one table, and so has clearing it.
abbrev pub OneHearing : Type 0
OneHearing =
    (before : ℕ) (m : Arrival) (old : List ℕ) (r q : Result Verdict Refusal) (left also : List ℕ) → Hears before m old r left → Hears before m old q also
    → (r ≡ q) × (left ≡ also)

abbrev pub OneClearing : Type 0
OneClearing = (old : List ℕ) (r q : Result (Unit {0}) Refusal) (left also : List ℕ) → Clears old r left → Clears old q also → (r ≡ q) × (left ≡ also)
