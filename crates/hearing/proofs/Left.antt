-- What a call leaves: a new one in the lowest free place, among the places that there were; and every byte after the table.
use Prim.Native.Nat.{ℕ, zero, suc, ◌*◌, ◌<◌, ◌≤◌}
use mathlib.Core.Path.{◌≡◌, refl, sym}
use mathlib.Core.Bool.{true, false}
use mathlib.Core.List.{List, [], ◌∷◌}
use native.Mathlib.Omega.{arith}
use lib.ListN.{length, drop, get_or, set}
use lib.Seq.{length-sets}
use Rattle.ground.proofs.Choice.{on, on_lt}
use Rattle.ground.proofs.Part.{part_after}
use Rattle.rfc.specs.Duplicates.{Arrival, Verdict, new, duplicate, passed, stands}
use Rattle.refusal.specs.Answer.{Answer, given, refused}
use Rattle.refusal.proofs.Answers.{not_refused}
use Rattle.hearing.specs.Table.{Place, unused, holds, entries, free, lowest, judging}
use Rattle.hearing.specs.Bytes.{places, entry_bytes}
use Rattle.hearing.specs.Hearing.{Fits, hearing, leaving}
use Rattle.hearing.proofs.Answers.{sixty_four}
use Rattle.hearing.proofs.Written.{Entry, entry_length, places_written}

-- A new one is of a type that is remembered, and the table has a free place for it.
pub record Taken (s : List ℕ) (m : Arrival) : Type 0 where
  pub type : m.type ≤ 1
  pub size : 1600 ≤ length s
  pub room : lowest m.time (places s) < length (places s)

module _ (before : ℕ) (s : List ℕ) (m : Arrival) where
  pub taken : hearing before s m ≡ given new → Taken s m
  unfolding hearing judging
  taken =
      on_lt P m.time before (λ _ e. not_refused (sym e))
      (λ _. on_lt P (length s) 1600 (λ _ e. not_refused (sym e))
      (λ l. on_lt P 1 m.type (λ _ e. absurd (let z : ◌≡◌ {A = ℕ} 0 1 = cc in omega arith))
      (λ k. on P (stands m (entries (places s))) (λ _ e. absurd (let z : ◌≡◌ {A = ℕ} 0 1 = cc in omega arith))
      (λ _. on_lt P (lowest m.time (places s)) (length (places s))
      (λ h _. record { type = k; size = l; room = h }) (λ _ e. not_refused (sym e))))))
    where
      P : Answer Verdict → Type 0
      P a = a ≡ given new → Taken s m

  module _ (f : Fits m) (e : hearing before s m ≡ given new) where
    entry : Entry m
    entry = record { time = f.time; type = (taken e).type; peer = f.peer; id = f.id }

    -- The places with the new one among them.
    pub places_left : places (leaving (given new) m s) ≡ set (places s) (lowest m.time (places s)) (holds m)
    places_left =
        places_written m entry 64 (lowest m.time (places s)) s (lowest m.time (places s) * 25) 0
        (omega (arith, (taken e).room, sixty_four before s m)) (omega arith) (omega (arith, (taken e).size))

    new_behind : drop 1600 (leaving (given new) m s) ≡ drop 1600 s
    new_behind =
        part_after (entry_bytes m) s (lowest m.time (places s) * 25) 1600
        (omega (arith, (taken e).room, sixty_four before s m, entry_length m entry))

  -- Bytes after the table stay.
  pub behind_left : Fits m → (v : Verdict) → hearing before s m ≡ given v → drop 1600 (leaving (given v) m s) ≡ drop 1600 s
  behind_left f new e = new_behind f e
  behind_left f duplicate e = refl
  behind_left f passed e = refl

-- The lowest free place is free, and none below it is.
pub lowest_free : (now : ℕ) (qs : List Place) → lowest now qs < length qs → free now (get_or qs (lowest now qs) unused) ≡ true
unfolding lowest
lowest_free now [] = λ h. absurd (omega arith)
lowest_free now (q ∷ qs) =
    on (λ (k : ℕ). k < suc (length qs) → free now (get_or (q ∷ qs) k unused) ≡ true) (free now q) (λ f _. f)
    (λ _ h. lowest_free now qs (omega arith))

pub none_below : (now : ℕ) (qs : List Place) (j : ℕ) → j < lowest now qs → free now (get_or qs j unused) ≡ false
unfolding lowest
none_below now [] j = λ h. absurd (omega arith)
none_below now (q ∷ qs) zero =
    on (λ (k : ℕ). 0 < k → free now q ≡ false) (free now q) (λ _ h. absurd (omega arith)) (λ f _. f)
none_below now (q ∷ qs) (suc j) =
    on (λ (k : ℕ). suc j < k → free now (get_or qs j unused) ≡ false) (free now q) (λ _ h. absurd (omega arith))
    (λ _ h. none_below now qs j (omega arith))

-- The length stays, and a refused call changes nothing.
pub length_left : (a : Answer Verdict) (m : Arrival) (s : List ℕ) → length (leaving a m s) ≡ length s
length_left (refused n) m s = refl
length_left (given duplicate) m s = refl
length_left (given passed) m s = refl
length_left (given new) m s = length-sets s (lowest m.time (places s) * 25) (entry_bytes m)

pub unchanged : (a : Answer Verdict) (m : Arrival) (s : List ℕ) (k : ℕ) → a ≡ refused k → leaving a m s ≡ s
unchanged a m s k e = rw e
