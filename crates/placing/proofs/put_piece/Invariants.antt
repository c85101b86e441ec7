-- `put_piece`: the bytes stand in the array, one more with each turn of the first loop, and in the output by the second.
use Prim.Native.Nat.{ℕ, ◌<◌}
use mathlib.Core.Path.{◌≡◌}
use lib.ListN.{length, take, get_or}
use lib.Seq.{sets}
use Rattle.placing.proofs.put_piece.Given as goal

abbrev pub invariant-loop-i : goal.invariant-loop-i
invariant-loop-i l = (length l.held ≡ 4096) × ((k : ℕ) → k < l.i → get_or l.held k 0 ≡ get_or l.bytes k 0)

abbrev pub invariant-loop-j : goal.invariant-loop-j
invariant-loop-j l = ((k : ℕ) → k < l.count → get_or l.held k 0 ≡ get_or l.bytes k 0) × (l.out ≡ sets l.initial.out l.at (take l.j l.bytes))
