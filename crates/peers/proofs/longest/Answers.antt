-- `longest` is safe and ends.
use Prim.Native.Nat.{◌-◌}
use mathlib.Core.Path.{sym, ◌∙◌}
use native.Mathlib.Omega.{arith}
use Rattle.peers.proofs.Groups.{longest_more, longest_less, longest_done}
use Rattle.peers.proofs.longest.Goals.{then-size-end, else-size-end}
use Rattle.peers.proofs.longest.Goals as goal

pub loop-i-preserved : goal.loop-i-preserved
loop-i-preserved c =
    let end = c.run_end-end.ensures.0 in
    elim c.if-size-end.branch [
      | then-size-end w ↦ (
        omega arith,
        c.loop-i.invariant.1
            ∙ rw (w.start-is, w.size-is, end) (longest_more _ c.loop-i.i _ _ (omega arith) (rw end at w.if-size-end.true)),
      )
      | else-size-end w ↦ (
        omega arith,
        c.loop-i.invariant.1
            ∙ rw (w.start-is, w.size-is) (longest_less _ c.loop-i.i _ _ (omega arith) (rw end at w.if-size-end.false)),
      )
    ]

pub returns : goal.returns
returns c = (sym (c.loop-i.invariant.1 ∙ longest_done _ c.loop-i.i _ _ (omega arith)), omega arith)
