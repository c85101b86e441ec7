-- A trace replayed over a table: it is judged as a whole first, then its messages are heard one after the other.
use Rattle.std.specs.Prelude.{ℕ, List, [], length, replicate}
use Rattle.std.proofs.lemmas.List.Edits.{sets}
use Rattle.refusal.specs.Answer.{Answer, given, refused, onward, outcome}
use Rattle.hearing.specs.Bytes.{table_size}
use Rattle.hearing.specs.Hearing.{clearing}
use Rattle.hearing.specs.Calls.{Calls, calls_from, Ran}
use Rattle.tracing.specs.Trace.{Timed}
use Rattle.tracing.specs.Judging.{traced_strictly}
use Rattle.tracing.specs.Arrivals.{arrivals_of}
use Rattle.replaying.specs.declared.Replayed.{Replayed}

-- The messages with which a replay begins, over a table of this length: 19 over the whole trace, then the first bad datagram's own,
-- then NoRoom (12) for a table under 1,600 bytes.
unfoldable pub begins : List ℕ → ℕ → Answer (List Timed)
begins s size = onward (traced_strictly s) (λ l. onward (clearing size) (λ _. given l))

-- A table with every place unused; what stands after it stays.
unfoldable pub cleared : List ℕ → List ℕ
cleared table = sets table 0 (replicate table_size 0)

-- What a replay leaves, with places for so many in the listing: the calls in turn from the cleared table, the first after time 0. One
-- that doesn't begin lists nothing and leaves the table as it came.
abbrev pub replayed_from : Answer (List Timed) → ℕ → List ℕ → Calls
replayed_from (given l) room table = calls_from room 0 (cleared table) (arrivals_of l)
replayed_from (refused k) room table = record { listing = []; table = table; outcome = refused k }

unfoldable pub replaying : List ℕ → ℕ → List ℕ → Calls
replaying s room table = replayed_from (begins s (length table)) room table

-- What a replay promises: its outcome, how many messages are listed, the table, and the listing from its start on.
abbrev pub Replays : (s table listing : List ℕ) → Replayed → (left listed : List ℕ) → Type 0
Replays s table listing r left listed = Ran (replaying s (length listing) table) listing (outcome r.outcome) r.count left listed
