-- One message over a lent table: what the call answers, what it leaves, and how a table is cleared.
use Rattle.std.specs.Prelude.{ℕ, ◌*◌, ◌<◌, ◌≡◌, List, ltb, length, replicate, Result, Ok, Err}
use Rattle.std.proofs.lemmas.List.Edits.{sets}
use Rattle.ground.specs.Choice.{pick}
use Rattle.rfc.specs.Duplicates.{Arrival, Verdict, new, duplicate, passed}
use Rattle.refusal.specs.Answer.{Answer, given, refused, outcome, after}
use Rattle.refusal.specs.Number.{number_of}
use Rattle.refusal.specs.declared.Refusal.{Refusal}
use Rattle.hearing.specs.declared.Verdict.{Verdict as Word}
use Rattle.hearing.specs.declared.Verdict.TheVariants.{New, Duplicate, Passed}
use Rattle.hearing.specs.Table.{lowest, judging}
use Rattle.hearing.specs.Bytes.{table_size, places, entry_bytes}

-- The message of a call's arguments.
abbrev pub arrival : (time type : ℕ) → List ℕ → ℕ → Arrival
arrival time type peer id = record { time = time; type = type; peer = peer; id = id }

-- A message as arguments can give it: numbers of their widths, and 18 bytes of peer.
pub record Fits (m : Arrival) : Type 0 where
  pub time : m.time < 4294967296
  pub peer : length m.peer ≡ 18
  pub id : m.id < 65536

-- What a call answers: ClockBack (21) where the time is less than the one before, NoRoom (12) for a table under 1,600 bytes, then
-- what the rule answers over the table.
unfoldable pub hearing : ℕ → List ℕ → Arrival → Answer Verdict
hearing before s m =
    pick (ltb m.time before) (refused 21)
    (pick (ltb (length s) table_size) (refused 12)
    (judging (places s) m))

-- What a call leaves: the entry of a new one in the lowest free place, and else every byte as it was.
abbrev pub leaving : Answer Verdict → Arrival → List ℕ → List ℕ
leaving (given new) m s = sets s (lowest m.time (places s) * 25) (entry_bytes m)
leaving (given duplicate) m s = s
leaving (given passed) m s = s
leaving (refused k) m s = s

-- The verdict that a word of the code stands for, and the answer of a call.
abbrev pub verdict_of : Word → Verdict
verdict_of New = new
verdict_of Duplicate = duplicate
verdict_of Passed = passed

abbrev pub heard_of : Result Word Refusal → Answer Verdict
heard_of (Ok v) = given (verdict_of v)
heard_of (Err e) = refused (number_of e)

-- The promise of a call, for its answer and for the table.
pub record Hears (before : ℕ) (m : Arrival) (old : List ℕ) (r : Result Word Refusal) (left : List ℕ) : Type 0 where
  pub answer : heard_of r ≡ hearing before old m
  pub table : left ≡ leaving (hearing before old m) m old

-- A table is cleared: NoRoom (12) where it is under 1,600 bytes.
abbrev pub clearing : ℕ → Answer (Unit {0})
clearing size = pick (ltb size table_size) (refused 12) (given tt)

-- The promise of clearing: the first 1,600 bytes are 0, so that every place is unused, and all after them is as it was.
pub record Clears (old : List ℕ) (r : Result (Unit {0}) Refusal) (left : List ℕ) : Type 0 where
  pub answer : outcome r ≡ clearing (length old)
  pub table : left ≡ after (clearing (length old)) 0 (replicate table_size 0) old
