-- Calls in turn over one table, with the listing that they make.
use Rattle.std.specs.Prelude.{ℕ, ◌-◌, ◌≡◌, List, [], ◌∷◌, eqb, ltb, length, Result}
use Rattle.std.proofs.lemmas.List.Edits.{sets}
use Rattle.ground.specs.Choice.{pick}
use Rattle.rfc.specs.Duplicates.{Arrival, Verdict, new, duplicate, passed}
use Rattle.refusal.specs.Answer.{Answer, given, refused}
use Rattle.refusal.specs.declared.Refusal.{Refusal}
use Rattle.hearing.specs.declared.Verdict.{Verdict as Word}
use Rattle.hearing.specs.Hearing.{Fits, hearing, leaving, heard_of}

-- The byte of a verdict in a listing.
abbrev pub letter : Verdict → ℕ
letter new = 1
letter duplicate = 2
letter passed = 3

-- A call where the listing has places for so many more: ClockBack (21), then NoRoom (12) where it has none, then the call's own
-- answer.
unfoldable pub calling : ℕ → ℕ → List ℕ → Arrival → Answer Verdict
calling room before s m =
    pick (ltb m.time before) (refused 21) (pick (eqb room 0) (refused 12) (hearing before s m))

-- The promise of such a call, for its answer and for the table.
pub record Called (room before : ℕ) (m : Arrival) (old : List ℕ) (r : Result Word Refusal) (left : List ℕ) : Type 0 where
  pub answer : heard_of r ≡ calling room before old m
  pub table : left ≡ leaving (calling room before old m) m old

-- What calls leave: the bytes listed, the table, and whether they came to their end.
pub record Calls : Type 0 where
  pub listing : List ℕ
  pub table : List ℕ
  pub outcome : Answer (Unit {0})

-- A refused call ends the row, and the table stays as it is; else the call's byte stands before those of the calls after it.
abbrev pub further : Answer Verdict → List ℕ → Calls → Calls
further (given v) s rest = record { listing = letter v ∷ rest.listing; table = rest.table; outcome = rest.outcome }
further (refused k) s rest = record { listing = []; table = s; outcome = refused k }

-- The calls in turn, from a table and the time of the message before, with places for so many in the listing.
unfoldable pub calls_from : ℕ → ℕ → List ℕ → List Arrival → Calls
calls_from room before s [] = record { listing = []; table = s; outcome = given tt }
calls_from room before s (m ∷ ms) =
    further (calling room before s m) s
    (calls_from (room - 1) m.time (leaving (calling room before s m) m s) ms)

-- Each message is one that a call's arguments can give.
abbrev pub AllFit : List Arrival → Type 0
AllFit [] = Unit {0}
AllFit (m ∷ ms) = Fits m × AllFit ms

-- What a function over the calls leaves of them: their outcome, how many are listed, the table, and the listing from its start on.
pub record Ran (c : Calls) (old : List ℕ) (ended : Answer (Unit {0})) (n : ℕ) (left listed : List ℕ) : Type 0 where
  pub outcome : ended ≡ c.outcome
  pub count : n ≡ length c.listing
  pub table : left ≡ c.table
  pub listing : listed ≡ sets old 0 c.listing
