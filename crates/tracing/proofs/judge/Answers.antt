-- `judge`: the walk over the messages keeps the whole answer.
use Rattle.tracing.proofs.Judging.{strict_from, judge_ends, judge_turn, taken}
use Rattle.tracing.specs.Judging.{count_of}
use Rattle.tracing.specs.TimedMessages.{form_of}
use Rattle.stream.specs.declared.Form.{Form}
use native.Mathlib.Omega.{arith}
use mathlib.Core.List.{List}
use mathlib.Core.Path.{◌≡◌, sym, ap, ◌∙◌}
use Prim.Native.Nat.{ℕ}
use Rattle.tracing.proofs.judge.Goals as goal

in_its_form : (form : Form) (s : List ℕ) → form ≡ form_of s → count_of (strict_from form s 0) ≡ count_of (strict_from (form_of s) s 0)
in_its_form form s e = ap (λ (f : Form). count_of (strict_from f s 0)) e

pub loop-at-smaller : goal.loop-at-smaller
loop-at-smaller c = omega (arith, c.loop-at-test.true, (taken _ _ _ _ _ (sym c.in-Ok.ensures)).onward)

pub loop-at-preserved : goal.loop-at-preserved
loop-at-preserved c = judge_turn _ _ _ _ c.loop-at.invariant _ _ c.loop-at-test.true (taken _ _ _ _ _ (sym c.in-Ok.ensures))

pub returns : goal.returns
returns c = judge_ends _ _ _ _ c.loop-at.invariant c.loop-at-test.false ∙ in_its_form _ _ c.form_of-form.ensures
