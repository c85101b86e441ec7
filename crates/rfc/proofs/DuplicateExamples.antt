-- Duplicate messages (RFC 7252, section 4.5): the last second of both lifetimes and the one after it; that a duplicate renews
-- nothing; and that type, endpoint and message id all count.
use Prim.Native.Nat.{ℕ}
use mathlib.Core.Path.{◌≡◌, refl}
use mathlib.Core.List.{List, [], ◌∷◌}
use Rattle.rfc.specs.Duplicates.{Arrival, new, duplicate, passed, stands, verdict, history}

-- A message of one endpoint, and one of another.
abbrev at : (time type id : ℕ) → Arrival
at time type id = record { time = time; type = type; peer = 192 ∷ 1 ∷ []; id = id }

abbrev elsewhere : (time type id : ℕ) → Arrival
elsewhere time type id = record { time = time; type = type; peer = 192 ∷ 2 ∷ []; id = id }

ten : List Arrival
ten =
    at 0 0 5 ∷ at 246 0 5 ∷ at 247 0 5
    ∷ at 247 1 5 ∷ at 391 1 5 ∷ at 392 1 5
    ∷ at 392 2 5
    ∷ elsewhere 392 0 5
    ∷ at 493 0 5 ∷ at 494 0 5 ∷ []

ten_messages : history ten ≡ new ∷ duplicate ∷ new ∷ new ∷ duplicate ∷ new ∷ passed ∷ new ∷ duplicate ∷ new ∷ []
unfolding ten verdict stands
ten_messages = refl

-- Of a confirmable message at 0 that came again at 200, one at 300 is new.
no_renewal : history (at 0 0 5 ∷ at 200 0 5 ∷ at 300 0 5 ∷ []) ≡ new ∷ duplicate ∷ new ∷ []
unfolding verdict stands
no_renewal = refl

-- Another id is another message; resets pass as acknowledgements do, and are no duplicates of each other.
others : history (at 7 0 5 ∷ at 7 0 6 ∷ at 7 3 5 ∷ at 7 3 5 ∷ []) ≡ new ∷ new ∷ passed ∷ passed ∷ []
unfolding verdict stands
others = refl
