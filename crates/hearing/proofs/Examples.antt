-- Examples of the table: which place is taken, and what a full table answers; and its bytes after calls in turn.
use Prim.Native.Nat.{ℕ}
use mathlib.Core.Path.{◌≡◌, refl}
use mathlib.Core.List.{List, [], ◌∷◌, ◌++◌, map}
use lib.ListN.{take, replicate}
use Rattle.rfc.specs.Duplicates.{Arrival, new, duplicate, passed, stands}
use Rattle.refusal.specs.Answer.{given, refused}
use Rattle.hearing.specs.Table.{Place, unused, holds, lowest, judging}
use Rattle.hearing.specs.Bytes.{place_at, places_from, places, entry_bytes}
use Rattle.hearing.specs.Hearing.{hearing}
use Rattle.hearing.specs.Calls.{calling, Calls, calls_from}

peer : List ℕ
peer = replicate 16 0 ++ (22 ∷ 51 ∷ [])

at : (time type id : ℕ) → Arrival
at time type id = record { time = time; type = type; peer = peer; id = id }

-- A place that expired is taken before a higher one that is unused; one that hasn't isn't.
lower_first : (lowest 247 (holds (at 0 0 5) ∷ unused ∷ []) ≡ 0) × (lowest 246 (holds (at 0 0 5) ∷ unused ∷ []) ≡ 1)
unfolding lowest at
lower_first = (refl, refl)

-- A full table refuses a new message as long as its entries are unexpired, and only such a one.
full : List Place
full = replicate 64 (holds (at 0 0 5))

full_answers : map (judging full) (at 246 0 6 ∷ at 247 0 6 ∷ at 246 0 5 ∷ at 246 2 6 ∷ []) ≡ refused 12 ∷ given new ∷ given duplicate ∷ given passed ∷ []
unfolding full at peer judging stands lowest
full_answers = refl

-- The bytes of an entry: confirmable, id 5, at 10 seconds.
entry : entry_bytes (at 10 0 5) ≡ 1 ∷ (peer ++ (0 ∷ 5 ∷ 0 ∷ 0 ∷ 0 ∷ 10 ∷ []))
unfolding at
entry = refl

-- Times 5 and 5, and 5 and 4, with places for two in the listing and for one.
again : Calls
again = calls_from 1 0 (replicate 1600 0) (at 5 0 1 ∷ at 5 0 2 ∷ [])

back : Calls
back = calls_from 1 0 (replicate 1600 0) (at 5 0 1 ∷ at 4 2 1 ∷ [])

in_turn : (again.outcome ≡ refused 12) × (again.listing ≡ 1 ∷ []) × (back.outcome ≡ refused 21) × (take 50 back.table ≡ entry_bytes (at 5 0 1) ++ replicate 25 0)
unfolding again back at peer calls_from calling hearing judging stands lowest places_from place_at
in_turn = (refl, refl, refl, refl)

-- Ten messages, each at the end of a lifetime or just after it: three places are then in use, with the times 494, 392 and 392.
elsewhere : (time type id : ℕ) → Arrival
elsewhere time type id = record { time = time; type = type; peer = replicate 18 1; id = id }

ten : Calls
ten =
    calls_from 10 0 (replicate 1600 0)
    (at 0 0 5 ∷ at 246 0 5 ∷ at 247 0 5 ∷ at 247 1 5 ∷ at 391 1 5 ∷ at 392 1 5 ∷ at 392 2 5 ∷ elsewhere 392 0 5 ∷ at 493 0 5 ∷ at 494 0 5 ∷ [])

ten_calls : (ten.listing ≡ 1 ∷ 2 ∷ 1 ∷ 1 ∷ 2 ∷ 1 ∷ 3 ∷ 1 ∷ 2 ∷ 1 ∷ []) × (take 4 (places ten.table) ≡ holds (at 494 0 5) ∷ holds (at 392 1 5) ∷ holds (elsewhere 392 0 5) ∷ unused ∷ [])
unfolding ten at peer elsewhere calls_from calling hearing judging stands lowest places_from place_at
ten_calls = (refl, refl)
