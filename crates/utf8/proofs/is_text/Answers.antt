-- `is_text` meets its contract: the whole is text exactly when what is left is, with the bytes that are due (`Judging`).
use native.Mathlib.Omega.{arith}
use Rattle.utf8.proofs.Utf8.{judging_end}
use Rattle.utf8.proofs.is_text.Goals as goal

pub returns : goal.returns
returns c = judging_end (omega arith) c.loop-b.invariant
