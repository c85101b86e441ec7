-- `cut_peer`: groups, zeros, groups and the port, one behind the other.
use Prim.Native.Nat.{◌+◌, ◌-◌, ◌≤◌}
use mathlib.Core.Path.{sym, ◌∙◌}
use native.Mathlib.Omega.{arith}
use Rattle.peer_reading.proofs.Putting.{refuses, sum_small, no_left, no_right, cut_long, cut_all}
use Rattle.peer_reading.proofs.cut_peer.Goals as goal

small : (c : goal.After-bytes-2-1) → c.put_groups-before.result + c.put_groups-behind.result ≤ 36
small c = sum_small c.put_groups-before.ensures c.put_groups-behind.ensures

pub returns-then-not-are_groups : goal.returns-then-not-are_groups
returns-then-not-are_groups c = refuses _ (no_left c.args.left.now c.args.right.now c.args.port (sym c.are_groups.ensures ∙ c.if-not-are_groups.true))

pub returns-then-not-are_groups-2 : goal.returns-then-not-are_groups-2
returns-then-not-are_groups-2 c = refuses _ (no_right c.args.left.now c.args.right.now c.args.port (sym c.are_groups.ensures ∙ c.if-not-are_groups.false) (sym c.are_groups-2.ensures ∙ c.if-not-are_groups-2.true))

pub overflow_add-before : goal.overflow_add-before
overflow_add-before c = omega (arith, small c)

pub returns-then-before-behind-gt15 : goal.returns-then-before-behind-gt15
returns-then-before-behind-gt15 c = refuses _ (cut_long c.args.left.now c.args.right.now c.args.port (sym c.are_groups.ensures ∙ c.if-not-are_groups.false) (sym c.are_groups-2.ensures ∙ c.if-not-are_groups-2.false) _ _ _ _ c.put_groups-behind.ensures c.put_groups-before.ensures c.if-before-behind-gt15.true)

pub returns : goal.returns
returns c = cut_all c.args.left.now c.args.right.now c.args.port (sym c.are_groups.ensures ∙ c.if-not-are_groups.false) (sym c.are_groups-2.ensures ∙ c.if-not-are_groups-2.false) _ _ _ _ c.put_groups-behind.ensures c.put_groups-before.ensures c.if-before-behind-gt15.false _ _ _ _ _ _ c.put_bytes-next.ensures c.put_groups-next.ensures c.put_pair.ensures
