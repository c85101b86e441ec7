-- `follows` asks the conditions of the next block one by one.
use native.Mathlib.Omega.{arith}
use Rattle.plan_checking.specs.Steps.{no}
use Rattle.plan_checking.proofs.Tests.{told, told_not, carry, asked_held, asked_missing}
use Rattle.plan_checking.proofs.follows.Goals as goal

pub returns-then-not-is_strict : goal.returns-then-not-is_strict
returns-then-not-is_strict c = no (λ n. told_not c.is_strict.ensures c.if-not-is_strict.true n.strict)

pub returns-then-start-at : goal.returns-then-start-at
returns-then-start-at c = no (λ n. omega (arith, n.after, c.if-start-at.true, c.start_of-start.ensures.is))

pub returns-then-held-start : goal.returns-then-held-start
returns-then-held-start c = no (λ n. omega (arith, n.inside, c.if-held-start.true, c.start_of-start.ensures.is))

pub returns-then-not-is_flagged : goal.returns-then-not-is_flagged
returns-then-not-is_flagged c = no (λ n. told_not c.is_flagged.ensures c.if-not-is_flagged.true n.more)

pub returns-then-not-all_are : goal.returns-then-not-all_are
returns-then-not-all_are c =
    let a = c.args in
    no (λ n. told_not (asked_held a.held.now a.at c.start_of-start.result c.all_are.ensures) c.if-not-all_are.true (rw c.start_of-start.ensures.is n.gap))

pub returns : goal.returns
returns c =
    let a = c.args in
    let s = c.start_of-start.ensures.is in
    let t = c.stop_of-stop.ensures.is in
    carry
    (λ w. record {
      strict = told c.is_strict.ensures c.if-not-is_strict.false;
      after = omega (arith, s, c.if-start-at.false);
      inside = omega (arith, s, c.if-held-start.false);
      more = told c.is_flagged.ensures c.if-not-is_flagged.false;
      gap = rw s at (told (asked_held a.held.now a.at c.start_of-start.result c.all_are.ensures) c.if-not-all_are.false);
      whole = rw (s, t) at w;
    })
    (λ n. rw (s, t) n.whole) (asked_missing a.held.now c.start_of-start.result c.stop_of-stop.result c.all_are-2.ensures)
