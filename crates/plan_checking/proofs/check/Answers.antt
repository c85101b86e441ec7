-- `check` goes through the values: what is left of the plan is a plan from the end of the block before.
use mathlib.Core.Path.{sym, ◌∙◌}
use native.Mathlib.Omega.{arith}
use Rattle.plan_checking.proofs.Accepted.{good_done, not_done}
use Rattle.plan_checking.proofs.Tests.{told, told_not, clash, asked_held}
use Rattle.plan_checking.proofs.Left.{begin, stuck, turn, at_end, not_end}
use Rattle.plan_checking.proofs.check.Goals as goal

pub returns-then-not-is_image : goal.returns-then-not-is_image
returns-then-not-is_image c = sym (not_done _ _ _ (λ g. clash g.image (sym c.is_image.ensures ∙ c.if-not-is_image.true)))

pub loop-value-init : goal.loop-value-init
loop-value-init c = begin _ _ _

pub returns-then-not-follows : goal.returns-then-not-follows
returns-then-not-follows c = sym (not_done _ _ _ (λ g. stuck _ _ _ _ _ c.loop-value.invariant (omega arith) (told_not c.follows.ensures c.if-not-follows.true) g.plan))

pub loop-value-preserved : goal.loop-value-preserved
loop-value-preserved c = turn _ _ _ _ _ c.loop-value.invariant (omega arith) c.stop_of-at.result c.stop_of-at.ensures.is (told c.follows.ensures c.if-not-follows.false)

pub returns-then-not-all_are : goal.returns-then-not-all_are
returns-then-not-all_are c = sym (not_done _ _ _ (λ g. told_not (asked_held _ _ _ c.all_are.ensures) c.if-not-all_are.true (not_end _ _ _ _ _ c.loop-value.invariant (omega arith) g.plan)))

pub returns : goal.returns
returns c =
    sym (good_done _ _ _ (record {
      image = sym c.is_image.ensures ∙ c.if-not-is_image.false;
      plan = at_end _ _ _ _ _ c.loop-value.invariant (omega arith) (told (asked_held _ _ _ c.all_are.ensures) c.if-not-all_are.false);
    }))
