-- Duplicate messages: RFC 7252, section 4.5, with the times of section 4.8.2. On the messages alone, as they came one after the
-- other.
use Rattle.std.specs.Prelude.{ℕ, ◌+◌, ◌≤◌, Bool, true, false, List, [], ◌∷◌, eqb, ltb}
use Rattle.ground.specs.Choice.{pick, both, either}

-- A message as it came: when, in seconds; its type, 0 confirmable, 1 non-confirmable, 2 acknowledgement, 3 reset (section 3); the
-- bytes of its source endpoint; its message id.
pub record Arrival : Type 0 where
  pub time : ℕ
  pub type : ℕ
  pub peer : List ℕ
  pub id : ℕ

-- What a message is.
pub data Verdict : Type 0 where
  new : Verdict
  duplicate : Verdict
  passed : Verdict

-- EXCHANGE_LIFETIME and NON_LIFETIME, in seconds (section 4.8.2).
abbrev pub exchange_lifetime : ℕ
exchange_lifetime = 247

abbrev pub non_lifetime : ℕ
non_lifetime = 145

-- How long a message is remembered: EXCHANGE_LIFETIME if it is confirmable, else NON_LIFETIME (section 4.5).
abbrev pub lifetime : ℕ → ℕ
lifetime type = pick (eqb type 0) exchange_lifetime non_lifetime

-- Fewer seconds than that have passed since it came.
abbrev pub unexpired : ℕ → Arrival → Bool
unexpired now e = ltb now (e.time + lifetime e.type)

-- The same bytes.
abbrev pub alike : List ℕ → List ℕ → Bool
alike [] [] = true
alike [] (y ∷ ys) = false
alike (x ∷ xs) [] = false
alike (x ∷ xs) (y ∷ ys) = both (eqb x y) (alike xs ys)

-- The same message: source endpoint and message id are the same (section 4.5), and the type, which is a rule of ours.
abbrev pub same : Arrival → Arrival → Bool
same m e = both (eqb e.type m.type) (both (alike e.peer m.peer) (eqb e.id m.id))

-- One of these is the same message and unexpired when it comes.
unfoldable pub stands : Arrival → List Arrival → Bool
stands m [] = false
stands m (e ∷ es) = either (both (unexpired m.time e) (same m e)) (stands m es)

-- Acknowledgements and resets pass.
abbrev pub passes : Arrival → Bool
passes m = ltb 1 m.type

-- What a message is after these new ones: it passes, or it is a duplicate exactly when one of them stands, else new.
unfoldable pub verdict : List Arrival → Arrival → Verdict
verdict fresh m = pick (passes m) passed (pick (stands m fresh) duplicate new)

-- The new ones with a message of this verdict, the last first. A duplicate renews nothing.
abbrev pub noted : Verdict → Arrival → List Arrival → List Arrival
noted new m fresh = m ∷ fresh
noted duplicate m fresh = fresh
noted passed m fresh = fresh

-- The new ones after one message more, and after a row of messages.
abbrev pub fresh_after : List Arrival → Arrival → List Arrival
fresh_after fresh m = noted (verdict fresh m) m fresh

abbrev pub fresh_from : List Arrival → List Arrival → List Arrival
fresh_from fresh [] = fresh
fresh_from fresh (m ∷ ms) = fresh_from (fresh_after fresh m) ms

-- The history of a row of messages after these new ones: what each of them is.
abbrev pub history_from : List Arrival → List Arrival → List Verdict
history_from fresh [] = []
history_from fresh (m ∷ ms) = verdict fresh m ∷ history_from (fresh_after fresh m) ms

-- The history from the beginning, and the new ones of it.
abbrev pub history : List Arrival → List Verdict
history ms = history_from [] ms

abbrev pub fresh : List Arrival → List Arrival
fresh ms = fresh_from [] ms

-- How many of these are unexpired at a time and pass a test.
unfoldable pub count : ℕ → (Arrival → Bool) → List Arrival → ℕ
count now p [] = 0
count now p (e ∷ es) = pick (both (unexpired now e) (p e)) 1 0 + count now p es

-- The test that all pass.
abbrev pub any : Arrival → Bool
any e = true

-- No time is less than the one before.
abbrev pub InTime : ℕ → List Arrival → Type 0
InTime before [] = Unit {0}
InTime before (m ∷ ms) = (before ≤ m.time) × InTime m.time ms

-- The time of the last message, or the time before where there is none.
abbrev pub last_time : ℕ → List Arrival → ℕ
last_time before [] = before
last_time before (m ∷ ms) = last_time m.time ms
