-- `put_run`: the first bytes, where there are fewer or fewer fit; or a piece of just that many.
use native.Mathlib.Omega.{arith}
use lib.Seq.{take_all, length-take-le}
use Rattle.placing.proofs.Puts.{whole_puts}
use Rattle.placing.proofs.put_run.Goals as goal

pub returns-then-bytes-lt-RUN : goal.returns-then-bytes-lt-RUN
returns-then-bytes-lt-RUN c = rw (take_all 32 c.args.bytes.now (omega arith)) c.put_bytes.ensures

pub put_piece-requires : goal.put_piece-requires
put_piece-requires c =
    let n = length-take-le 32 c.args.bytes.now (omega arith) in
    (omega (arith, n), omega (arith, n))

pub returns : goal.returns
returns c =
    let n = length-take-le 32 c.args.bytes.now (omega arith) in
    whole_puts c.put_piece.ensures (omega (arith, n))
