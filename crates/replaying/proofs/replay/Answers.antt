-- `replay`: judged, then the table is cleared, then the calls in turn.
use Rattle.replaying.proofs.Begun.{not_begun, not_judged, no_table, follows, begun}
use Rattle.tracing.proofs.Counted.{counted, uncounted}
use Rattle.refusal.specs.Answer.{outcome}
use mathlib.Core.Path.{ap}
use Rattle.replaying.proofs.replay.Goals as goal

pub hear_all-requires : goal.hear_all-requires
hear_all-requires c =
    let o = counted _ _ c.in_default.ensures in
    follows _ o.messages o.are _ c.form_of.ensures

pub returns-in-Err : goal.returns-in-Err
returns-in-Err c = not_begun _ _ _ _ (not_judged _ c.args.table.now _ (uncounted _ _ c.in-Err.ensures))

pub returns-in-Err-clear : goal.returns-in-Err-clear
returns-in-Err-clear c =
    let o = counted _ _ c.in_default.ensures in
    no_table _ _ _ o.messages o.are _ _ c.clear.ensures _ (ap outcome c.in-Err-clear.is)

pub returns : goal.returns
returns c =
    let o = counted _ _ c.in_default.ensures in
    begun _ _ _ o.messages o.are _ _ c.clear.ensures _ c.form_of.ensures (ap outcome c.in_default-clear.is) _ _ _ _ c.hear_all.ensures
