-- `write`: what was measured, and then the message is put.
use mathlib.Core.Path.{sym}
use Rattle.std.proofs.lemmas.Result.{err_from_is_err_and}
use Rattle.packet.specs.Packet.{held}
use Rattle.flat_writing.proofs.Answers.{refuses, fits, wrote}
use Rattle.flat_writing.proofs.write.Goals as goal

pub put_message-requires : goal.put_message-requires
put_message-requires c =
    let a = c.args in
    fits a.strict a.numbers.now (held a.stores) a.out.now _ (rw c.of-lengths.ensures at (sym c.in_ok-end.ensures))

pub returns-in_err-end : goal.returns-in_err-end
returns-in_err-end c =
    let a = c.args in
    let e = err_from_is_err_and c.from_residual.result c.from_residual.ensures.1 in
    let p = refuses a.strict a.numbers.now (held a.stores) a.out.now _ (rw c.of-lengths.ensures at (sym c.in_err-end.ensures)) in
    rw (e.1, e.2) (record { result_value = p.0; out_after = p.1 })

pub returns : goal.returns
returns c =
    let a = c.args in
    let p = wrote a.strict a.numbers.now (held a.stores) a.out.now _ (rw c.of-lengths.ensures at (sym c.in_ok-end.ensures)) _ _ c.put_message.ensures in
    record { result_value = p.0; out_after = p.1 }
