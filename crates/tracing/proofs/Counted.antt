-- What judging a trace says of its messages.
use Prim.Native.Nat.{ℕ}
use mathlib.Core.Path.{◌≡◌, refl, sym, ap, ◌∙◌}
use mathlib.Core.List.{List}
use lib.ListN.{length}
use Rattle.refusal.specs.Answer.{Answer, given, refused, onward}
use Rattle.refusal.proofs.Answers.{not_refused, same_given, same_refused, onward_given}
use Rattle.thawing.specs.Thawing.{all_strict}
use Rattle.tracing.specs.Trace.{Timed, messages_of}
use Rattle.tracing.specs.TimedMessages.{traced}
use Rattle.tracing.specs.Judging.{strictly, traced_strictly, count_of}

-- A list whose datagrams are strict is that list.
pub record Strict (v l : List Timed) : Type 0 where
  pub all : all_strict (messages_of v) ≡ given tt
  pub same : v ≡ l

strict_by : (v l : List Timed) (a : Answer (Unit {0})) → all_strict (messages_of v) ≡ a → onward a (λ _. given v) ≡ given l → Strict v l
strict_by v l (given u) q e = record { all = q; same = same_given e }
strict_by v l (refused k) q e = not_refused (sym e)

pub strict_list : (v l : List Timed) → strictly v ≡ given l → Strict v l
unfolding strictly
strict_list v l e = strict_by v l (all_strict (messages_of v)) refl e

module _ (s : List ℕ) where
  pub traced_of : (l : List Timed) → traced_strictly s ≡ given l → traced s ≡ given l
  traced_of l e = let o = onward_given (traced s) strictly l e in o.1 ∙ ap given (strict_list o.0 l o.2).same

  -- Messages that were counted.
  pub record Counted (n : ℕ) : Type 0 where
    pub messages : List Timed
    pub are : traced_strictly s ≡ given messages
    pub count_is : length messages ≡ n

  counted_by : (n : ℕ) (a : Answer (List Timed)) → traced_strictly s ≡ a → given n ≡ count_of a → Counted n
  counted_by n (given l) q e = record { messages = l; are = q; count_is = sym (same_given e) }
  counted_by n (refused k) q e = not_refused e

  pub counted : (n : ℕ) → given n ≡ count_of (traced_strictly s) → Counted n
  counted n e = counted_by n (traced_strictly s) refl e

  uncounted_by : (k : ℕ) (a : Answer (List Timed)) → traced_strictly s ≡ a → refused k ≡ count_of a → traced_strictly s ≡ refused k
  uncounted_by k (given l) q e = not_refused (sym e)
  uncounted_by k (refused j) q e = q ∙ ap refused (sym (same_refused e))

  pub uncounted : (k : ℕ) → refused k ≡ count_of (traced_strictly s) → traced_strictly s ≡ refused k
  uncounted k e = uncounted_by k (traced_strictly s) refl e
