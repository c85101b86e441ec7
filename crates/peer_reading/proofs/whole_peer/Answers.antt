-- `whole_peer`: eight groups, and the port behind them.
use mathlib.Core.Path.{sym, ◌∙◌}
use Rattle.peer_reading.proofs.Putting.{refuses, whole_none, whole_other, whole_all}
use Rattle.peer_reading.proofs.whole_peer.Goals as goal

pub returns-then-not-are_groups : goal.returns-then-not-are_groups
returns-then-not-are_groups c = refuses _ (whole_none c.args.text.now c.args.port (sym c.are_groups.ensures ∙ c.if-not-are_groups.true))

pub returns-then-end-ne16 : goal.returns-then-end-ne16
returns-then-end-ne16 c = refuses _ (whole_other c.args.text.now c.args.port (sym c.are_groups.ensures ∙ c.if-not-are_groups.false) _ _ c.put_groups-end.ensures c.if-end-ne16.true)

pub returns : goal.returns
returns c = whole_all c.args.text.now c.args.port (sym c.are_groups.ensures ∙ c.if-not-are_groups.false) _ _ c.put_groups-end.ensures _ _ c.if-end-ne16.false c.put_pair.ensures
