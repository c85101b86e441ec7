-- What a call shows when it returns, one law for each way out.
use Prim.Native.Nat.{ℕ, ◌*◌, ◌<◌, ◌≤◌}
use mathlib.Core.Path.{◌≡◌, refl, sym, ap, ◌∙◌}
use mathlib.Core.Bool.{true, false}
use mathlib.Core.List.{List}
use native.Mathlib.Omega.{arith}
use lib.ListN.{length}
use lib.Seq.{sets}
use borrow.Author.Tests.{lt-ltb, le-ltb}
use Rattle.rfc.specs.Duplicates.{Arrival, stands}
use Rattle.refusal.specs.declared.Refusal.TheVariants.{NoRoom, ClockBack}
use Rattle.placing.specs.Put.{Puts}
use Rattle.placing.proofs.Puts.{puts_whole}
use Rattle.hearing.specs.declared.Verdict.TheVariants.{New, Duplicate, Passed}
use Rattle.std.specs.Prelude.{Result, Ok, Err}
use Rattle.refusal.specs.declared.Refusal.{Refusal}
use Rattle.hearing.specs.declared.Verdict.{Verdict as Word}
use Rattle.hearing.specs.Table.{entries, lowest, judging}
use Rattle.hearing.specs.Bytes.{places_from, places, entry_bytes}
use Rattle.hearing.specs.Hearing.{hearing, leaving, heard_of, Hears}
use Rattle.hearing.proofs.Written.{entry_size}

module _ (before : ℕ) (s : List ℕ) (m : Arrival) where
  -- A table has 64 places.
  pub sixty_four : length (places s) ≡ 64
  unfolding places_from
  sixty_four = refl

  -- From an answer, and what is left by it, to the promise.
  settled : (r : Result Word Refusal) (left : List ℕ) → hearing before s m ≡ heard_of r → left ≡ leaving (heard_of r) m s → Hears before m s r left
  settled r left e h = record { answer = sym e; table = rw e h }

  pub is_back : m.time < before → Hears before m s (Err ClockBack) s
  unfolding hearing
  is_back h = settled (Err ClockBack) s (rw (lt-ltb m.time before h)) refl

  module _ (h : before ≤ m.time) where
    pub is_short : length s < 1600 → Hears before m s (Err NoRoom) s
    unfolding hearing
    is_short l = settled (Err NoRoom) s (rw (le-ltb m.time before h, lt-ltb (length s) 1600 l)) refl

    module _ (l : 1600 ≤ length s) where
      judged : hearing before s m ≡ judging (places s) m
      unfolding hearing
      judged = rw (le-ltb m.time before h, le-ltb (length s) 1600 l)

      pub is_passed : 1 < m.type → Hears before m s (Ok Passed) s
      unfolding judging
      is_passed k = settled (Ok Passed) s (judged ∙ rw (lt-ltb 1 m.type k)) refl

      module _ (k : m.type ≤ 1) where
        pub is_duplicate : stands m (entries (places s)) ≡ true → Hears before m s (Ok Duplicate) s
        unfolding judging
        is_duplicate e = settled (Ok Duplicate) s (judged ∙ rw (le-ltb 1 m.type k, e)) refl

        module _ (e : stands m (entries (places s)) ≡ false) where
          pub is_full : 1600 ≡ lowest m.time (places s) * 25 → Hears before m s (Err NoRoom) s
          unfolding judging
          is_full f =
              let none = le-ltb (lowest m.time (places s)) (length (places s)) (omega (arith, sixty_four)) in
              settled (Err NoRoom) s (judged ∙ rw (le-ltb 1 m.type k, e, none)) refl

          pub is_new : (at : ℕ) → at ≡ lowest m.time (places s) * 25 → at < 1600 → length m.peer ≡ 18 → (r : ℕ) (left : List ℕ) → Puts s at (entry_bytes m) r left → Hears before m s (Ok New) left
          unfolding judging
          is_new at i o p r left w =
              let some = lt-ltb (lowest m.time (places s)) (length (places s)) (omega (arith, sixty_four)) in
              let put = (puts_whole w (omega (arith, entry_size m p))).out in
              settled (Ok New) left (judged ∙ rw (le-ltb 1 m.type k, e, some)) (put ∙ ap (λ (n : ℕ). sets s n (entry_bytes m)) i)
