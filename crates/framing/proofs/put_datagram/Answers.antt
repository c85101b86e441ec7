-- `put_datagram` meets its contract: 10 for what would be too long, then the judgement in the frame, then the room.
use Rattle.std.proofs.lemmas.Result.{err_from_is_err_and}
use Rattle.framing.proofs.Converting.{not_converted, too_long, back_refused, back_given}
use Rattle.framing.proofs.put_datagram.Goals as goal

pub returns-then-frame-at : goal.returns-then-frame-at
returns-then-frame-at c =
    let a = c.args in
    not_converted _ _ _ (too_long a.kind a.id a.frame.now a.head c.requires c.if-frame-at.true)

pub returns-in_err-judge : goal.returns-in_err-judge
returns-in_err-judge c =
    let a = c.args in
    let p = err_from_is_err_and c.from_residual.result c.from_residual.ensures.1 in
    rw (p.1, p.2) (back_refused a.kind a.id a.frame.now a.head c.requires c.if-frame-at.false _ c.judge.ensures _ _ c.in_err-judge.was)

pub returns : goal.returns
returns c =
    let a = c.args in
    rw (back_given a.kind a.id a.frame.now a.head c.requires c.if-frame-at.false _ c.judge.ensures _ c.in_ok-judge.was)
    (rw c.to_number.ensures at c.put_both.ensures)
