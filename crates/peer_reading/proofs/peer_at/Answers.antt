-- `peer_at`: with `::`, or without.
use mathlib.Core.Path.{◌∙◌}
use Prim.Native.Nat.{◌+◌, ◌≤◌}
use native.Mathlib.Omega.{arith}
use lib.ListN.{length}
use Rattle.peer_reading.proofs.Grouping.{gap_inside}
use Rattle.peer_reading.proofs.Putting.{same, without_gap, with_gap, cut_rest}
use borrow.Author.Rules.{rules}
use Rattle.peer_reading.proofs.peer_at.Goals as goal

inside : (c : goal.Else-text-gap) → c.gap_in-gap.result + 2 ≤ length c.args.text.now
inside c = omega (arith, c.gap_in-gap.ensures, gap_inside c.args.text.now (omega (arith, c.gap_in-gap.ensures, c.if-text-gap.false)))

pub returns-then-text-gap : goal.returns-then-text-gap
returns-then-text-gap c = same _ _ c.whole_peer.result (without_gap c.args.text.now c.args.port _ c.gap_in-gap.ensures c.if-text-gap.true) c.whole_peer.ensures

pub slice_bounds-cut_peer-count : goal.slice_bounds-cut_peer-count
slice_bounds-cut_peer-count c = inside c

pub slice_bounds-cut_peer-start : goal.slice_bounds-cut_peer-start
slice_bounds-cut_peer-start c = let h = inside c in search rules

pub returns : goal.returns
returns c = same _ _ c.cut_peer.result (with_gap c.args.text.now c.args.port _ c.gap_in-gap.ensures c.if-text-gap.false ∙ cut_rest _ c.args.text.now _ c.args.port) c.cut_peer.ensures
