-- The messages of a trace from a position: none at the end; else the one that stands there, and those from the position after it.
use Prim.Native.Nat.{ℕ, zero, suc, ◌+◌, ◌<◌, ◌≤◌}
use mathlib.Core.Path.{◌≡◌, refl, sym, ap, ◌∙◌}
use mathlib.Core.List.{List, [], ◌∷◌}
use native.Mathlib.Omega.{arith}
use lib.ListN.{length}
use borrow.Author.Tests.{lt-ltb, le-ltb}
use Rattle.ground.proofs.Choice.{by_lt}
use Rattle.refusal.specs.Answer.{Answer, given, refused, onward}
use Rattle.stream.specs.declared.Form.{Form}
use Rattle.tracing.specs.Trace.{Timed}
use Rattle.tracing.specs.TimedMessages.{TimedFound, timed_at, traced_at, traced_from}
use Rattle.tracing.proofs.Found.{onwards}

module _ (form : Form) (s : List ℕ) where
  at_end : (most at : ℕ) → length s ≤ at → traced_at form s most at ≡ given []
  unfolding traced_at
  at_end zero at h = rw (le-ltb at (length s) h) refl
  at_end (suc most) at h = rw (le-ltb at (length s) h) refl

  at_more : (most at : ℕ) (m : TimedFound) → at < length s → timed_at form s at ≡ given m
      → traced_at form s (suc most) at ≡ onward (traced_at form s most m.next) (λ l. given (m.timed ∷ l))
  unfolding traced_at
  at_more most at m h e = rw (lt-ltb at (length s) h, e) refl

  at_bad : (most at k : ℕ) → at < length s → timed_at form s at ≡ refused k → traced_at form s (suc most) at ≡ refused k
  unfolding traced_at
  at_bad most at k h e = rw (lt-ltb at (length s) h, e) refl

  -- How many messages at most doesn't matter where they are no fewer than the bytes that are left.
  step : (a b at : ℕ) (f : Answer TimedFound) → timed_at form s at ≡ f → at < length s
      → ((next : ℕ) → at < next → traced_at form s a next ≡ traced_at form s b next) → traced_at form s (suc a) at ≡ traced_at form s (suc b) at
  step a b at (given m) e l same =
      at_more a at m l e
      ∙ (ap (λ (x : Answer (List Timed)). onward x (λ r. given (m.timed ∷ r))) (same m.next (onwards form s at m e)) ∙ sym (at_more b at m l e))
  step a b at (refused k) e l same = at_bad a at k l e ∙ sym (at_bad b at k l e)

  same : (a b at : ℕ) → length s ≤ at + a → length s ≤ at + b → traced_at form s a at ≡ traced_at form s b at
  same zero b at h i = at_end zero at (omega arith) ∙ sym (at_end b at (omega arith))
  same (suc a) zero at h i = at_end (suc a) at (omega arith) ∙ sym (at_end zero at (omega arith))
  same (suc a) (suc b) at h i =
      by_lt at (length s)
      (λ l. step a b at (timed_at form s at) refl l (λ next n. same a b next (omega arith) (omega arith)))
      (λ l. at_end (suc a) at l ∙ sym (at_end (suc b) at l))

  pub from_end : (at : ℕ) → length s ≤ at → traced_from form s at ≡ given []
  from_end at h = at_end (length s) at h

  pub from_more : (at : ℕ) (m : TimedFound) → at < length s → timed_at form s at ≡ given m
      → traced_from form s at ≡ onward (traced_from form s m.next) (λ l. given (m.timed ∷ l))
  from_more at m h e = same (length s) (suc (length s)) at (omega arith) (omega arith) ∙ at_more (length s) at m h e

  pub from_bad : (at k : ℕ) → at < length s → timed_at form s at ≡ refused k → traced_from form s at ≡ refused k
  from_bad at k h e = same (length s) (suc (length s)) at (omega arith) (omega arith) ∙ at_bad (length s) at k h e
