-- `from_frame`: a good head, and what follows it.
use mathlib.Core.Path.{sym}
use native.Mathlib.Omega.{arith}
use Rattle.std.proofs.lemmas.Result.{err_from_is_err_and}
use Rattle.ground.proofs.Part.{bytes_of}
use Rattle.framing.proofs.Heads.{head_within}
use Rattle.framing.proofs.Converting.{not_converted, head_refused, head_given}
use Rattle.framing.proofs.from_frame.Goals as goal

pub put_datagram-requires : goal.put_datagram-requires
put_datagram-requires c =
    let f = c.args.frame.now in
    head_within f (bytes_of f (λ i. omega (arith, c.type_inv.frame i))) c.in_ok-head.head (sym c.in_ok-head.ensures)

pub returns-in_err-head : goal.returns-in_err-head
returns-in_err-head c =
    let p = err_from_is_err_and c.from_residual.result c.from_residual.ensures.1 in
    rw (p.1, p.2) (not_converted _ _ _ (head_refused _ _ _ _ (sym c.in_err-head.ensures)))

pub returns : goal.returns
returns c =
    let a = c.args in
    rw (head_given a.kind a.id a.frame.now _ (sym c.in_ok-head.ensures)) c.put_datagram.ensures
