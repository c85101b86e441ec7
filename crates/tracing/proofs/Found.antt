-- The message at a position with its time: each way that it is judged, and what one that is found says.
use Prim.Native.Nat.{ℕ, ◌+◌, ◌-◌, ◌<◌, ◌≤◌}
use mathlib.Core.Path.{◌≡◌, refl, sym, ap, ◌∙◌}
use mathlib.Core.Bool.{true, false}
use mathlib.Core.List.{List}
use native.Mathlib.Omega.{arith}
use lib.Dec.{eqb, leb}
use lib.ListN.{length, get_or}
use borrow.Author.Tests.{eq-eqb, ne_eqb, eqb-true, le-leb, lt-leb, leb-true}
use Rattle.ground.proofs.Choice.{on, by_lt, both_true}
use Rattle.refusal.specs.Answer.{Answer, given, refused, onward}
use Rattle.refusal.proofs.Answers.{Given, on_given}
use Rattle.stream.specs.declared.Form.{Form}
use Rattle.stream.specs.Messages.{Found, message_at}
use Rattle.stream.proofs.Sound.{Message, message_sound}
use Rattle.tracing.specs.TimedMessages.{is_time, time_at, TimedFound, timed_with, timed_at}

-- The record of a time, by the tests on its way.
module _ (s : List ℕ) (at : ℕ) where
  pub no_kind : (get_or s at 0 ≡ 8 → ⊥) → is_time s at ≡ false
  unfolding is_time
  no_kind e = rw (ne_eqb (get_or s at 0) 8 e) refl

  pub of_kind : get_or s at 0 ≡ 8 → is_time s at ≡ leb (at + 5) (length s)
  unfolding is_time
  of_kind e = rw (eq-eqb (get_or s at 0) 8 e) refl

  -- The test of the four bytes that the code makes, by what is left of the trace.
  pub by_what_is_left : get_or s at 0 ≡ 8 → at ≤ length s → leb 5 (length s - at) ≡ is_time s at
  by_what_is_left e h =
      by_lt (length s) (at + 5)
      (λ l. lt-leb 5 (length s - at) (omega arith) ∙ sym (of_kind e ∙ lt-leb (at + 5) (length s) l))
      (λ l. le-leb 5 (length s - at) (omega arith) ∙ sym (of_kind e ∙ le-leb (at + 5) (length s) l))

  pub time_there : is_time s at ≡ true → (get_or s at 0 ≡ 8) × (at + 5 ≤ length s)
  unfolding is_time
  time_there e =
      let b = both_true (eqb (get_or s at 0) 8) (leb (at + 5) (length s)) e in
      (eqb-true (get_or s at 0) 8 b.0, leb-true (at + 5) (length s) b.1)

module _ (form : Form) (s : List ℕ) (at : ℕ) where
  pub no_time : is_time s at ≡ false → timed_at form s at ≡ refused 19
  unfolding timed_at
  no_time e = rw e refl

  module _ (time : is_time s at ≡ true) where
    pub timed_given : (m : Found) → message_at form s (at + 5) ≡ given m → timed_at form s at ≡ given (timed_with (time_at s at) m)
    unfolding timed_at
    timed_given m e = rw (time, e) refl

    pub timed_refused : (k : ℕ) → message_at form s (at + 5) ≡ refused k → timed_at form s at ≡ refused k
    unfolding timed_at
    timed_refused k e = rw (time, e) refl

  -- A message with its time stands at a position.
  pub record Stands (m : TimedFound) : Type 0 where
    pub timed : is_time s at ≡ true
    pub found : Found
    pub is : message_at form s (at + 5) ≡ given found
    pub message : Message form s (at + 5) found
    pub value : m ≡ timed_with (time_at s at) found

  stands_by : is_time s at ≡ true → (a : Answer Found) → message_at form s (at + 5) ≡ a → Given Stands (onward a (λ m. given (timed_with (time_at s at) m)))
  stands_by e (given m) q =
      record { timed = e; found = m; is = q; message = on_given (Message form s (at + 5)) (message_at form s (at + 5)) m (message_sound form s (at + 5)) q; value = refl }
  stands_by e (refused k) q = tt

  pub stands : Given Stands (timed_at form s at)
  unfolding timed_at
  stands = on (Given Stands) (is_time s at) (λ e. stands_by e (message_at form s (at + 5)) refl) (λ e. tt)

  -- A message ends after it starts.
  pub onwards : (m : TimedFound) → timed_at form s at ≡ given m → at < m.next
  onwards m e = let k = on_given Stands (timed_at form s at) m stands e in omega (arith, k.message.room, ap (λ (x : TimedFound). x.next) k.value)
