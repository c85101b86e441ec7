-- `to_bytes_in`: what was measured, and then the message is put.
use mathlib.Core.Path.{refl, sym}
use Rattle.std.proofs.lemmas.Result.{err_from_is_err_and}
use Rattle.packet.specs.Packet.{held}
use Rattle.writing.proofs.Answers.{refuses, roomy, writes}
use Rattle.writing.proofs.to_bytes_in.Goals as goal

pub put_message-requires : goal.put_message-requires
put_message-requires c = let a = c.args in roomy a.strict a.limit a.packet (held a.stores) a.out.now _ (sym (rw c.of-lengths.ensures at c.in_ok-measured.ensures))

pub returns-in_err-measured : goal.returns-in_err-measured
returns-in_err-measured c =
    let p = err_from_is_err_and c.from_residual.result c.from_residual.ensures.1 in
    rw (p.1, p.2) (refuses _ _ _ _ _ _ _ refl (sym (rw c.of-lengths.ensures at c.in_err-measured.ensures)))

pub returns : goal.returns
returns c = writes _ _ _ _ _ _ (sym (rw c.of-lengths.ensures at c.in_ok-measured.ensures)) _ _ c.put_message.ensures
