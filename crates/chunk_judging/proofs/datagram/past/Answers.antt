-- `past`: by where the chunks start, how many bytes there are at least, and where the last stands.
use Prim.Native.Nat.{◌-◌}
use mathlib.Core.Path.{sym, ap, ◌∙◌}
use lib.Dec.{leb}
use native.Mathlib.Omega.{arith}
use Rattle.chunk_judging.proofs.Places.{offset_over, past_none, past_over, past_last}
use Rattle.chunk_judging.proofs.datagram.past.Goals as goal

pub returns-then-len-lt1 : goal.returns-then-len-lt1
returns-then-len-lt1 c = sym (past_none _ _ _ _ c.if-len-lt1.true)

pub returns-then-stream-from : goal.returns-then-stream-from
returns-then-stream-from c = sym (past_over _ _ _ _ c.if-len-lt1.false (omega arith))

pub returns-then-stream-from-2 : goal.returns-then-stream-from-2
returns-then-stream-from-2 c = let a = c.args in sym (past_over _ _ _ _ c.if-len-lt1.false (omega (arith, offset_over a.form (a.len - 1))))

pub returns : goal.returns
returns c = ap (leb _) c.offset_of.ensures ∙ past_last _ _ _ _ c.if-len-lt1.false c.if-stream-from.false
