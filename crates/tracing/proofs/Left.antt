-- The messages that are left of a trace at a position: the first of them is found there, and the others are left after it.
use Prim.Native.Nat.{ℕ, ◌<◌, ◌≤◌}
use mathlib.Core.Path.{◌≡◌, refl, sym, ◌∙◌}
use mathlib.Core.List.{List, [], ◌∷◌}
use lib.ListN.{length}
use Rattle.refusal.specs.Answer.{Answer, given, refused}
use Rattle.refusal.proofs.Answers.{not_refused, same_given, onward_given}
use Rattle.stream.specs.declared.Form.{Form}
use Rattle.tracing.specs.Trace.{Timed}
use Rattle.tracing.specs.TimedMessages.{TimedFound, timed_at, traced_from}
use Rattle.tracing.proofs.Found.{onwards}
use Rattle.tracing.proofs.From.{from_end, from_more, from_bad}

module _ (form : Form) (s : List ℕ) (at : ℕ) (rest : List Timed) (are-left : traced_from form s at ≡ given rest) where
  pub left_none : length s ≤ at → rest ≡ []
  left_none h = same_given (sym are-left ∙ from_end form s at h)

  pub record First : Type 0 where
    pub found : TimedFound
    pub others : List Timed
    pub is : timed_at form s at ≡ given found
    pub are : rest ≡ found.timed ∷ others
    pub left : traced_from form s found.next ≡ given others
    pub onward : at < found.next

  first_by : at < length s → (a : Answer TimedFound) → timed_at form s at ≡ a → First
  first_by h (given m) e =
      let o = onward_given (traced_from form s m.next) (λ l. given (m.timed ∷ l)) rest (sym (from_more form s at m h e) ∙ are-left) in
      record { found = m; others = o.0; is = e; are = sym (same_given o.2); left = o.1; onward = onwards form s at m e }
  first_by h (refused k) e = not_refused (sym are-left ∙ from_bad form s at k h e)

  pub left_first : at < length s → First
  left_first h = first_by h (timed_at form s at) refl
