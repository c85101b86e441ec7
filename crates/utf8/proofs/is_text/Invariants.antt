-- `is_text` meets its contract: the whole is text exactly when what is left is, with the bytes that are due (`Judging`).
use Rattle.utf8.proofs.Utf8.{Judging}
use Rattle.utf8.proofs.is_text.Given as goal

abbrev pub invariant-loop-b : goal.invariant-loop-b
invariant-loop-b l = Judging l.value l.due l.b-index
