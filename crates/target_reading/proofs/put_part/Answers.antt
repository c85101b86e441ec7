-- `put_part` meets its contract: what was put and what is left to decode are the whole (`Decoding`).
use native.Mathlib.Omega.{arith}
use Rattle.percent.proofs.Stepping.{took, ended, stopped}
use Rattle.target_reading.proofs.Placing.{decoding_end, decoding_never, decoding_room, decoding_turn}
use Rattle.target_reading.proofs.put_part.Goals as goal

pub returns-in-Ok-None : goal.returns-in-Ok-None
returns-in-Ok-None c = decoding_end _ _ _ _ _ _ _ _ c.loop-coded.invariant (ended _ _ _ _ c.byte_at.ensures (cc))

pub returns-in-Err : goal.returns-in-Err
returns-in-Err c = absurd (decoding_never _ _ _ _ _ _ _ _ c.loop-coded.invariant (stopped _ _ _ _ _ c.byte_at.ensures c.in-Err.is))

pub bounds-edits-next : goal.bounds-edits-next
bounds-edits-next c = decoding_room _ _ _ _ _ _ _ _ c.loop-coded.invariant _ _ (took _ _ _ c.in-Ok-Some.coded _ c.byte_at.ensures (cc)) c.requires.room

pub loop-coded-smaller : goal.loop-coded-smaller
loop-coded-smaller c = let t = (took _ _ _ c.in-Ok-Some.coded _ c.byte_at.ensures (cc)) in omega (arith, t.ahead, t.inside)

pub loop-coded-preserved : goal.loop-coded-preserved
loop-coded-preserved c = decoding_turn _ _ _ _ _ _ _ _ c.loop-coded.invariant _ _ (took _ _ _ c.in-Ok-Some.coded _ c.byte_at.ensures (cc))
