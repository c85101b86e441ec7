-- `filled` fills the places one by one with the splice's own records.
use Prim.Native.Nat.{◌+◌, ◌-◌, ◌*◌}
use mathlib.Core.Path.{ap, ◌∙◌}
use native.Mathlib.Omega.{arith}
use lib.ListN.{get_or}
use Rattle.splicing.proofs.Copied.{fills_none, fills_more}
use Rattle.splicing.proofs.Places.{whole_long, from_lower, from_new, from_higher}
use Rattle.splicing.proofs.filled.Goals as goal
use Rattle.splicing.proofs.filled.Goals.{then-i-low, else-i-low+then-i-end, else-i-low+else-i-end}

pub loop-i-init : goal.loop-i-init
loop-i-init c =
    let a = c.args in
    fills_none _ _ c.requires.room (omega (arith, whole_long a.packet a.number a.low a.high a.ranges.now c.requires.low_in, c.requires.long))

pub loop-i-preserved : goal.loop-i-preserved
loop-i-preserved c =
    let a = c.args in
    let low = c.requires.low_in in
    let at = (c.loop-i.i - a.low) * 3 in
    elim c.if-i-low.branch [
      | then-i-low w ↦ rw w.records-is
          (fills_more _ _ _ _ c.loop-i.invariant c.loop-i-test.true _ (from_lower a.packet a.number a.low a.high a.ranges.now low c.loop-i.i w.if-i-low.true))
      | else-i-low+then-i-end w ↦ rw w.records-is
          (fills_more _ _ _ _ c.loop-i.invariant c.loop-i-test.true _
          (ap (λ home. record { number = a.number; home = home; spare = 0; start = get_or a.ranges.now (at + 1) 0; len = get_or a.ranges.now (at + 2) 0 }) w.home_of-home.ensures
          ∙ from_new a.packet a.number a.low a.high a.ranges.now low c.loop-i.i w.if-i-low.false w.if-i-end.true))
      | else-i-low+else-i-end w ↦ rw w.records-is
          (fills_more _ _ _ _ c.loop-i.invariant c.loop-i-test.true _
          (from_higher a.packet a.number a.low a.high a.ranges.now low c.loop-i.i w.if-i-end.false (omega (arith, c.loop-i-test.true, c.requires.long))))
    ]
