-- One call: over a table that holds the new ones it answers what the history says, and leaves a table that holds them still.
use Prim.Native.Nat.{ℕ, ◌+◌, ◌<◌, ◌≤◌}
use mathlib.Core.Path.{◌≡◌, refl, sym, ap, ◌∙◌}
use mathlib.Core.Bool.{Bool, true, false}
use mathlib.Core.List.{List, ◌∷◌}
use mathlib.Core.Logic.{inl, inr, ⊎_elim}
use native.Mathlib.Omega.{arith}
use lib.Dec.{ltb}
use lib.ListN.{length}
use borrow.Author.Tests.{lt-ltb, le-ltb, ltb-true}
use Rattle.ground.specs.Choice.{pick}
use Rattle.ground.proofs.Choice.{by_lt}
use Rattle.rfc.specs.Duplicates.{Arrival, Verdict, new, duplicate, passed, passes, same, stands, count, any, verdict, noted, fresh_after}
use Rattle.rfc.proofs.Duplicates.{stands_count}
use Rattle.refusal.specs.Answer.{given, refused}
use Rattle.hearing.specs.Table.{holds, entries, lowest, judging}
use Rattle.hearing.specs.Bytes.{places}
use Rattle.hearing.specs.Hearing.{Fits, hearing, leaving}
use Rattle.hearing.specs.Told.{Holds}
use Rattle.hearing.proofs.Answers.{sixty_four}
use Rattle.hearing.proofs.Counts.{lowest_full, count_taken, among_set, weigh}
use Rattle.hearing.proofs.Left.{places_left, length_left}
use Rattle.hearing.proofs.Telling.{placed, telling, Accepted, accepted, room_left}

by_cases : (a b : Bool) (n : ℕ) → pick a (given passed) (pick b (given duplicate) (pick (ltb n 64) (given new) (refused 12))) ≡ placed n (pick a passed (pick b duplicate new))
by_cases true b n = refl
by_cases false true n = refl
by_cases false false n = refl

module _ (before : ℕ) (s : List ℕ) (fresh : List Arrival) (m : Arrival) (k : Holds before s fresh) where
  same_standing : before ≤ m.time → stands m (entries (places s)) ≡ stands m fresh
  same_standing h =
      stands_count m (entries (places s)) ∙ (ap (λ (n : ℕ). ltb 0 n) (k.counts m.time h (same m)) ∙ sym (stands_count m fresh))

  same_room : before ≤ m.time → ltb (lowest m.time (places s)) (length (places s)) ≡ ltb (count m.time any fresh) 64
  same_room h =
      lowest_full m.time (places s)
      ∙ (ap (λ (n : ℕ). ltb n (length (places s))) (k.counts m.time h any)
      ∙ ap (ltb (count m.time any fresh)) (sixty_four before s m))

  -- The table's answer is the history's.
  pub agrees : hearing before s m ≡ telling before fresh m
  unfolding hearing telling judging verdict
  agrees =
      by_lt m.time before (λ h. rw (lt-ltb m.time before h))
      (λ h.
      rw (le-ltb m.time before h, le-ltb (length s) 1600 k.size, same_standing h, same_room h)
      (by_cases (passes m) (stands m fresh) (count m.time any fresh)))

module _ (before : ℕ) (s : List ℕ) (fresh : List Arrival) (m : Arrival) (k : Holds before s fresh) (f : Fits m) where
  kept_new : hearing before s m ≡ given new → Accepted before fresh m new → Holds m.time (leaving (given new) m s) (m ∷ fresh)
  unfolding count
  kept_new e a =
      let few = room_left (count m.time any fresh) a.room in
      let l : lowest m.time (places s) < length (places s) = ltb-true _ _ (same_room before s fresh m k a.time ∙ lt-ltb (count m.time any fresh) 64 few) in
      let p = places_left before s m f e in
      record {
        size = rw (length_left (given new) m s) k.size;
        counts =
            λ now h t.
            rw p (count_taken m.time now t m (places s) h l ∙ ap (λ (n : ℕ). weigh now t (holds m) + n) (k.counts now (omega (arith, a.time)) t));
        known =
            λ x among.
            ⊎_elim (λ i. inl i) (λ b. inr (k.known x b)) (among_set x m (places s) (lowest m.time (places s)) (rw p at among));
      }

  kept_same : before ≤ m.time → Holds m.time s fresh
  kept_same h = record { size = k.size; counts = λ now l t. k.counts now (omega arith) t; known = k.known }

  kept_by : (v : Verdict) → hearing before s m ≡ given v → Accepted before fresh m v → Holds m.time (leaving (given v) m s) (noted v m fresh)
  kept_by new e a = kept_new e a
  kept_by duplicate e a = kept_same a.time
  kept_by passed e a = kept_same a.time

  -- What is left holds the new ones with this message.
  pub kept : (v : Verdict) → hearing before s m ≡ given v → Holds m.time (leaving (given v) m s) (fresh_after fresh m)
  kept v e =
      let a = accepted before fresh m v (sym (agrees before s fresh m k) ∙ e) in
      rw a.is (kept_by v e a)
