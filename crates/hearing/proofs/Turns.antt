-- Calls in turn, from any table that holds the new ones so far: what is listed is the history, up to the message that is refused.
use Prim.Native.Nat.{ℕ, suc, ◌-◌, ◌<◌, ◌≤◌}
use mathlib.Core.Path.{◌≡◌, refl, sym, ap, ◌∙◌}
use mathlib.Core.List.{List, [], ◌∷◌, ◌++◌}
use mathlib.Core.Logic.{◌↔◌}
use native.Mathlib.Omega.{arith}
use lib.ListN.{length, drop}
use borrow.Author.Tests.{lt-ltb, le-ltb, eq-eqb, ne_eqb}
use Rattle.ground.proofs.Choice.{on_lt, on_eq, by_lt}
use Rattle.rfc.specs.Duplicates.{Arrival, Verdict, verdict, fresh_after, fresh_from, InTime, last_time}
use Rattle.refusal.specs.Answer.{Answer, given, refused}
use Rattle.refusal.proofs.Answers.{not_refused, same_refused}
use Rattle.hearing.specs.Hearing.{Fits, hearing, leaving}
use Rattle.hearing.specs.Calls.{letter, calling, Calls, further, calls_from, AllFit}
use Rattle.hearing.specs.Told.{Holds, Why, Whole, Ended}
use Rattle.hearing.proofs.Left.{behind_left}
use Rattle.hearing.proofs.Telling.{telling_in, accepted, told_why, why_told}
use Rattle.hearing.proofs.Step.{agrees, kept}

-- With places left the listing has no say; with none, 21 goes before 12.
pub with_room : (room before : ℕ) (s : List ℕ) (m : Arrival) → 0 < room → calling room before s m ≡ hearing before s m
unfolding calling hearing
with_room room before s m h =
    by_lt m.time before (λ t. rw (lt-ltb m.time before t))
    (λ t. rw (le-ltb m.time before t, ne_eqb room 0 (λ e. omega arith)))

pub without_room : (room before : ℕ) (s : List ℕ) (m : Arrival) → room ≡ 0 → before ≤ m.time → calling room before s m ≡ refused 12
unfolding calling
without_room room before s m z h = rw (le-ltb m.time before h, eq-eqb room 0 z)

pub back_first : (room before : ℕ) (s : List ℕ) (m : Arrival) → m.time < before → calling room before s m ≡ refused 21
unfolding calling
back_first room before s m h = rw (lt-ltb m.time before h)

-- A call that isn't refused had a place in the listing, and is then the call itself.
pub record Listed (room before : ℕ) (s : List ℕ) (m : Arrival) (v : Verdict) : Type 0 where
  pub some : 0 < room
  pub heard : hearing before s m ≡ given v

pub listed : (room before : ℕ) (s : List ℕ) (m : Arrival) (v : Verdict) → calling room before s m ≡ given v → Listed room before s m v
unfolding calling
listed room before s m v =
    on_lt (λ (a : Answer Verdict). a ≡ given v → Listed room before s m v) m.time before (λ _ e. not_refused (sym e))
    (λ _. on_eq (λ (a : Answer Verdict). a ≡ given v → Listed room before s m v) room 0 (λ _ e. not_refused (sym e))
    (λ z e. record { some = by_lt 0 room (λ h. h) (λ h. absurd (z (omega arith))); heard = e }))

-- The answer is the history's.
pub agrees_in : (room before : ℕ) (s : List ℕ) (fresh : List Arrival) (m : Arrival) → Holds before s fresh → calling room before s m ≡ telling_in room before fresh m
unfolding calling telling_in
agrees_in room before s fresh m k = rw (agrees before s fresh m k)

-- A call of the row that isn't refused.
record Goes (before : ℕ) (s : List ℕ) (fresh : List Arrival) (m : Arrival) (v : Verdict) : Type 0 where
  time : before ≤ m.time
  is : verdict fresh m ≡ v
  holds : Holds m.time (leaving (given v) m s) (fresh_after fresh m)
  behind : drop 1600 (leaving (given v) m s) ≡ drop 1600 s

goes : (room before : ℕ) (s : List ℕ) (fresh : List Arrival) (m : Arrival) (v : Verdict) → Holds before s fresh → Fits m → calling room before s m ≡ given v → Goes before s fresh m v
goes room before s fresh m v k f e =
    let h = (listed room before s m v e).heard in
    let a = accepted before fresh m v (sym (agrees before s fresh m k) ∙ h) in
    record { time = a.time; is = a.is; holds = kept before s fresh m k f v h; behind = behind_left before s m f v h }

one_more : {v w : Verdict} {l k : List ℕ} → w ≡ v → l ≡ k → letter v ∷ l ≡ letter w ∷ k
one_more i e = rw (i, e)

module _ (room before : ℕ) (s : List ℕ) (fresh : List Arrival) (m : Arrival) (ms : List Arrival) (k : Holds before s fresh) (f : Fits m) where
  abbrev after : Answer Verdict → Calls
  after a = calls_from (room - 1) m.time (leaving a m s) ms

  whole_turn :
      ((t : List ℕ) (g : List Arrival) → Holds m.time t g → (calls_from (room - 1) m.time t ms).outcome ≡ given tt → Whole m.time t g ms (calls_from (room - 1) m.time t ms))
      → (a : Answer Verdict) → calling room before s m ≡ a → (further a s (after a)).outcome ≡ given tt → Whole before s fresh (m ∷ ms) (further a s (after a))
  whole_turn next (refused n) c e = not_refused (sym e)
  whole_turn next (given v) c e =
      let g = goes room before s fresh m v k f c in
      let w = next (leaving (given v) m s) (fresh_after fresh m) g.holds e in
      record { listing = one_more g.is w.listing; holds = w.holds; behind = w.behind ∙ g.behind }

  ended_turn :
      (n : ℕ)
      → ((t : List ℕ) (g : List Arrival) → Holds m.time t g → (calls_from (room - 1) m.time t ms).outcome ≡ refused n → Ended (room - 1) m.time t g ms n (calls_from (room - 1) m.time t ms))
      → (a : Answer Verdict) → calling room before s m ≡ a → (further a s (after a)).outcome ≡ refused n → Ended room before s fresh (m ∷ ms) n (further a s (after a))
  unfolding calls_from
  ended_turn n next (refused j) c e =
      let none : room - 0 ≡ room = omega arith in
      record {
        front = [];
        at = m;
        rest = ms;
        split = refl;
        why = rw none (told_why room before fresh m n (sym (agrees_in room before s fresh m k) ∙ (c ∙ ap (λ (x : ℕ). refused x) (same_refused e))));
        whole = refl;
        listing = refl;
        left = refl;
      }
  ended_turn n next (given v) c e =
      let g = goes room before s fresh m v k f c in
      let w = next (leaving (given v) m s) (fresh_after fresh m) g.holds e in
      let less : room - 1 - length w.front ≡ room - suc (length w.front) = omega arith in
      record {
        front = m ∷ w.front;
        at = w.at;
        rest = w.rest;
        split = ap (λ (l : List Arrival). m ∷ l) w.split;
        why = rw less at w.why;
        whole = rw c w.whole;
        listing = one_more g.is w.listing;
        left = rw c w.left;
      }

-- Where nothing is refused, what is listed is the history, and the table holds the new ones.
pub whole : (room before : ℕ) (s : List ℕ) (fresh ms : List Arrival) → Holds before s fresh → AllFit ms → (calls_from room before s ms).outcome ≡ given tt → Whole before s fresh ms (calls_from room before s ms)
unfolding calls_from
whole room before s fresh [] k f e = record { listing = refl; holds = k; behind = refl }
whole room before s fresh (m ∷ ms) k f e =
    whole_turn room before s fresh m ms k f.0 (λ t g h x. whole (room - 1) m.time t g ms h f.1 x) (calling room before s m) refl e

-- A refusal ends the row, with what the messages before left.
pub ended : (room before : ℕ) (s : List ℕ) (fresh ms : List Arrival) (n : ℕ) → Holds before s fresh → AllFit ms → (calls_from room before s ms).outcome ≡ refused n → Ended room before s fresh ms n (calls_from room before s ms)
unfolding calls_from
ended room before s fresh [] n k f e = not_refused e
ended room before s fresh (m ∷ ms) n k f e =
    ended_turn room before s fresh m ms k f.0 n (λ t g h x. ended (room - 1) m.time t g ms n h f.1 x) (calling room before s m) refl e

-- Calls in two rows: the second goes on where the first ended, with the places that it left in the listing.
abbrev pub followed : Calls → Calls → Calls
followed c d = record { listing = c.listing ++ d.listing; table = d.table; outcome = d.outcome }

two_turn : (room : ℕ) (s : List ℕ) (m : Arrival) (ms rest : List Arrival)
    → ((t : List ℕ) → (calls_from (room - 1) m.time t ms).outcome ≡ given tt → calls_from (room - 1) m.time t (ms ++ rest) ≡ followed (calls_from (room - 1) m.time t ms) (calls_from (room - suc (length ms)) (last_time m.time ms) (calls_from (room - 1) m.time t ms).table rest))
    → (a : Answer Verdict) → (further a s (calls_from (room - 1) m.time (leaving a m s) ms)).outcome ≡ given tt
    → further a s (calls_from (room - 1) m.time (leaving a m s) (ms ++ rest)) ≡ followed (further a s (calls_from (room - 1) m.time (leaving a m s) ms)) (calls_from (room - suc (length ms)) (last_time m.time ms) (further a s (calls_from (room - 1) m.time (leaving a m s) ms)).table rest)
two_turn room s m ms rest next (refused n) e = not_refused (sym e)
two_turn room s m ms rest next (given v) e = rw (next (leaving (given v) m s) e)

pub in_two : (room before : ℕ) (s : List ℕ) (ms rest : List Arrival) → (calls_from room before s ms).outcome ≡ given tt
    → calls_from room before s (ms ++ rest) ≡ followed (calls_from room before s ms) (calls_from (room - length ms) (last_time before ms) (calls_from room before s ms).table rest)
unfolding calls_from
in_two room before s [] rest e = let none : room - 0 ≡ room = omega arith in rw none
in_two room before s (m ∷ ms) rest e =
    two_turn room s m ms rest
    (λ t x. let less : room - 1 - length ms ≡ room - suc (length ms) = omega arith in rw less at (in_two (room - 1) m.time t ms rest x))
    (calling room before s m) e

-- A row that isn't refused fits the messages after its first ones, so what is said of those holds of it.
all_front : (front rest : List Arrival) → AllFit (front ++ rest) → AllFit front
all_front [] rest f = tt
all_front (m ∷ front) rest f = (f.0, all_front front rest f.1)

-- A message that the history refuses after such as it doesn't ends the row there; so a row ends with a refusal exactly so.
module _ (room before : ℕ) (s : List ℕ) (fresh : List Arrival) (k : Holds before s fresh) where
  pub ends : (front : List Arrival) (m : Arrival) (rest : List Arrival) (n : ℕ) → AllFit front → (calls_from room before s front).outcome ≡ given tt
      → Why (room - length front) (last_time before front) (fresh_from fresh front) m n → (calls_from room before s (front ++ (m ∷ rest))).outcome ≡ refused n
  unfolding calls_from
  ends front m rest n f e h =
      let w = (whole room before s fresh front k f e).holds in
      let c = agrees_in (room - length front) (last_time before front) (calls_from room before s front).table (fresh_from fresh front) m w ∙ why_told (room - length front) (last_time before front) (fresh_from fresh front) m n h in
      rw (in_two room before s front (m ∷ rest) e, c)

  pub ends_exactly : (ms : List Arrival) (n : ℕ) → AllFit ms → ((calls_from room before s ms).outcome ≡ refused n) ↔ Ended room before s fresh ms n (calls_from room before s ms)
  ends_exactly ms n f =
      (λ e. ended room before s fresh ms n k f e, λ x. rw x.split (ends x.front x.at x.rest n (all_front x.front (x.at ∷ x.rest) (rw x.split at f)) x.whole x.why))

-- Where nothing is refused, no time was less than the one before, and each message had a place in the listing.
pub record InOrder (room before : ℕ) (ms : List Arrival) : Type 0 where
  pub time : InTime before ms
  pub places : length ms ≤ room

in_time : (room before : ℕ) (s : List ℕ) (m : Arrival) (v : Verdict) → calling room before s m ≡ given v → before ≤ m.time
in_time room before s m v e = by_lt m.time before (λ h. not_refused (sym e ∙ back_first room before s m h)) (λ h. h)

order_turn : (room before : ℕ) (s : List ℕ) (m : Arrival) (ms : List Arrival)
    → ((t : List ℕ) → (calls_from (room - 1) m.time t ms).outcome ≡ given tt → InOrder (room - 1) m.time ms)
    → (a : Answer Verdict) → calling room before s m ≡ a → (further a s (calls_from (room - 1) m.time (leaving a m s) ms)).outcome ≡ given tt → InOrder room before (m ∷ ms)
order_turn room before s m ms next (refused n) c e = not_refused (sym e)
order_turn room before s m ms next (given v) c e =
    let o = next (leaving (given v) m s) e in
    record { time = (in_time room before s m v c, o.time); places = omega (arith, o.places, (listed room before s m v c).some) }

pub in_order : (room before : ℕ) (s : List ℕ) (ms : List Arrival) → (calls_from room before s ms).outcome ≡ given tt → InOrder room before ms
unfolding calls_from
in_order room before s [] e = record { time = tt; places = omega arith }
in_order room before s (m ∷ ms) e = order_turn room before s m ms (λ t x. in_order (room - 1) m.time t ms x) (calling room before s m) refl e
