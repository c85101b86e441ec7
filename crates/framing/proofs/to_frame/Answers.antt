-- `to_frame`: an accepted datagram, and its frame.
use mathlib.Core.Path.{sym}
use native.Mathlib.Omega.{arith}
use Rattle.std.proofs.lemmas.Result.{err_from_is_err_and}
use Rattle.ground.proofs.Part.{bytes_of}
use Rattle.framing.proofs.Converting.{not_converted, framed_refused, accepted_whole, framed_is}
use Rattle.framing.proofs.to_frame.Goals as goal

pub put_frame-requires : goal.put_frame-requires
put_frame-requires c =
    let s = c.args.datagram.now in
    accepted_whole s (bytes_of s (λ i. omega (arith, c.type_inv.datagram i))) (sym c.in_ok-judge.ensures)

pub returns-in_err-judge : goal.returns-in_err-judge
returns-in_err-judge c =
    let p = err_from_is_err_and c.from_residual.result c.from_residual.ensures.1 in
    rw (p.1, p.2) (not_converted _ _ _ (framed_refused _ _ (sym c.in_err-judge.ensures)))

pub returns : goal.returns
returns c =
    let s = c.args.datagram.now in
    rw (framed_is s (bytes_of s (λ i. omega (arith, c.type_inv.datagram i))) (sym c.in_ok-judge.ensures)) c.put_frame.ensures
