-- What a replay shows when it returns: it didn't begin, or its calls went over the cleared table.
use Prim.Native.Nat.{ℕ}
use mathlib.Core.Path.{◌≡◌, refl, sym, ap, subst, ◌∙◌}
use mathlib.Core.List.{List}
use lib.ListN.{length, replicate}
use Rattle.refusal.specs.Answer.{Answer, given, refused, onward, outcome, after}
use Rattle.std.specs.Prelude.{Result}
use Rattle.refusal.specs.declared.Refusal.{Refusal}
use Rattle.stream.specs.declared.Form.{Form}
use Rattle.hearing.specs.Bytes.{table_size}
use Rattle.hearing.specs.Hearing.{clearing, Clears}
use Rattle.hearing.specs.Calls.{Calls, calls_from, Ran}
use Rattle.tracing.specs.Trace.{Timed}
use Rattle.tracing.specs.TimedMessages.{form_of, traced_from}
use Rattle.tracing.specs.Judging.{traced_strictly}
use Rattle.tracing.specs.Arrivals.{arrivals_of}
use Rattle.tracing.proofs.Counted.{traced_of}
use Rattle.replaying.specs.Replaying.{begins, cleared, replayed_from, replaying}
use Rattle.replaying.specs.Turns.{Follows, messages_in, calls}

-- What clearing leaves where it isn't refused.
pub cleared_by : (table : List ℕ) (r : Result (Unit {0}) Refusal) (left : List ℕ) → Clears table r left → clearing (length table) ≡ given tt → left ≡ cleared table
unfolding cleared
cleared_by table r left c e = c.table ∙ ap (λ (a : Answer (Unit {0})). after a 0 (replicate table_size 0) table) e

-- A trace that was judged is one of its form.
traced_in : (s : List ℕ) (l : List Timed) → traced_strictly s ≡ given l → (form : Form) → form ≡ form_of s → traced_from form s 0 ≡ given l
traced_in s l are form e = ap (λ (f : Form). traced_from f s 0) e ∙ traced_of s l are

pub follows : (s : List ℕ) (l : List Timed) → traced_strictly s ≡ given l → (form : Form) → form ≡ form_of s → Follows form s
follows s l are form e = record { messages = l; are = traced_in s l are form e }

module _ (s table : List ℕ) where
  pub not_judged : (k : ℕ) → traced_strictly s ≡ refused k → begins s (length table) ≡ refused k
  unfolding begins
  not_judged k e = rw e refl

  begins_by : (l : List Timed) → traced_strictly s ≡ given l → (a : Answer (Unit {0})) → clearing (length table) ≡ a → begins s (length table) ≡ onward a (λ _. given l)
  unfolding begins
  begins_by l are a e = rw (are, e) refl

  module _ (listing : List ℕ) where
    -- Nothing changes.
    pub not_begun : (k : ℕ) → begins s (length table) ≡ refused k → Ran (replaying s (length listing) table) listing (refused k) 0 table listing
    unfolding replaying
    not_begun k e = rw e (record { outcome = refl; count = refl; table = refl; listing = refl })

    module _ (l : List Timed) (are : traced_strictly s ≡ given l) (r : Result (Unit {0}) Refusal) (left : List ℕ) (c : Clears table r left) where
      -- The table is too short.
      pub no_table : (k : ℕ) → outcome r ≡ refused k → Ran (replaying s (length listing) table) listing (refused k) 0 left listing
      no_table k e =
          let short : clearing (length table) ≡ refused k = sym c.answer ∙ e in
          let same : left ≡ table = c.table ∙ ap (λ (a : Answer (Unit {0})). after a 0 (replicate table_size 0) table) short in
          rw same (not_begun k (begins_by l are (refused k) short))

      -- The calls of the trace over what clearing left are those of the replay.
      same_calls : (form : Form) → form ≡ form_of s → outcome r ≡ given tt → calls form s (length listing) left ≡ replaying s (length listing) table
      unfolding replaying
      same_calls form e d =
          let long : clearing (length table) ≡ given tt = sym c.answer ∙ d in
          let same : left ≡ cleared table = cleared_by table r left c long in
          ap (λ (a : Answer (List Timed)). calls_from (length listing) 0 left (arrivals_of (messages_in a))) (traced_in s l are form e)
          ∙ (ap (λ (t : List ℕ). calls_from (length listing) 0 t (arrivals_of l)) same
          ∙ sym (ap (λ (a : Answer (List Timed)). replayed_from a (length listing) table) (begins_by l are (given tt) long)))

      pub begun : (form : Form) → form ≡ form_of s → outcome r ≡ given tt → (ended : Answer (Unit {0})) (n : ℕ) (after listed : List ℕ)
          → Ran (calls form s (length listing) left) listing ended n after listed → Ran (replaying s (length listing) table) listing ended n after listed
      begun form e d ended n after listed h = subst (λ (x : Calls). Ran x listing ended n after listed) (same_calls form e d) h
