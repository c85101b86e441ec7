-- `put_many`: the bytes before a place stand in the output, one piece more with each turn.
use mathlib.Core.Path.{◌∙◌}
use native.Mathlib.Omega.{arith}
use Rattle.placing.proofs.Copy.{piece_next}
use Rattle.placing.proofs.Puts.{put_length}
use Rattle.placing.proofs.put_many.Goals as goal

pub loop-i-preserved : goal.loop-i-preserved
loop-i-preserved c =
    (omega arith, put_length _ _ _ _ _ c.put_piece.ensures ∙ c.loop-i.invariant.1, piece_next _ _ _ _ c.args.bytes.now c.loop-i.i c.piece_end-end.result _ (omega arith) (omega arith) c.loop-i.invariant.2 c.put_piece.ensures)
