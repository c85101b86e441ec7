-- `dot_in`: the first dot of the text is the first of what is left, counted from there.
use Prim.Native.Nat.{◌+◌}
use mathlib.Core.Path.{◌≡◌}
use lib.ListN.{drop}
use Rattle.code_text.specs.CodeText.{dot_in}
use Rattle.code_text.proofs.dot_in.Given as goal

abbrev pub invariant-loop-i : goal.invariant-loop-i
invariant-loop-i l = dot_in l.text ≡ l.i + dot_in (drop l.i l.text)
