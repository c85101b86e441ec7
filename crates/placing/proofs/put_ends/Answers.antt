-- `put_ends`: the first bytes and the last are all of them.
use native.Mathlib.Omega.{arith}
use Rattle.placing.proofs.Copy.{ends_whole}
use Rattle.placing.proofs.put_ends.Goals as goal

pub returns : goal.returns
returns c =
    let a = c.args in
    ends_whole _ _ _ _ a.bytes.now a.half _ _ (omega arith) (omega arith) c.put_piece.ensures c.put_piece-2.ensures
