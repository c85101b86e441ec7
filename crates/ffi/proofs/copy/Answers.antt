-- `copy`: what judging refuses is refused, and of what it finds good the bytes that are written stand in the datagram.
use native.Mathlib.Omega.{arith}
use Rattle.std.proofs.lemmas.Result.{err_from_is_err_and}
use Rattle.ground.proofs.Part.{bytes_of}
use Rattle.scanning.specs.Scanning.{span_of}
use Rattle.scanning.proofs.Judged.{refused_read}
use Rattle.ffi.proofs.Again.{again, again_refused, again_put}
use Rattle.ffi.proofs.copy.Goals as goal

pub returns-in_err-extent : goal.returns-in_err-extent
returns-in_err-extent c =
    let a = c.args in
    let e = err_from_is_err_and c.from_residual.result c.from_residual.ensures.1 in
    let p = again_refused a.strict a.datagram.now a.out.now _ (refused_read _ span_of _ c.in_err-extent.ensures) in
    rw (e.1, e.2) (record { result_value = p.0; out_after = p.1 })

pub sent_end-last-requires : goal.sent_end-last-requires
sent_end-last-requires c =
    (again c.args.strict c.args.datagram.now (bytes_of c.args.datagram.now (λ i. omega (arith, c.type_inv.datagram i))) _ c.in_ok-extent.ensures).long

pub put_front-requires : goal.put_front-requires
put_front-requires c =
    rw c.sent_end-last.ensures
    (again c.args.strict c.args.datagram.now (bytes_of c.args.datagram.now (λ i. omega (arith, c.type_inv.datagram i))) _ c.in_ok-extent.ensures).within

pub returns : goal.returns
returns c =
    let a = c.args in
    let m = again a.strict a.datagram.now (bytes_of a.datagram.now (λ i. omega (arith, c.type_inv.datagram i))) _ c.in_ok-extent.ensures in
    let h = again_put a.strict a.datagram.now a.out.now _ m _ _ (rw c.sent_end-last.ensures at c.put_front.ensures.result_value, rw c.sent_end-last.ensures at c.put_front.ensures.out_after) in
    record { result_value = h.0; out_after = h.1 }
