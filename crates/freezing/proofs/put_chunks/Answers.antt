-- `put_chunks`: one chunk more with each turn, until none is left.
use Prim.Native.Nat.{ℕ, ◌+◌, ◌-◌}
use mathlib.Core.Path.{◌≡◌, ap, ◌∙◌}
use native.Mathlib.Omega.{arith}
use lib.ListN.{take, drop}
use Rattle.stream.specs.Stream.{full}
use Rattle.stream.proofs.Chunks.{next_bytes}
use Rattle.freezing.proofs.Chunks.{chunk_done, chunk_turn}
use Rattle.freezing.proofs.put_chunks.Goals as goal
use Rattle.freezing.proofs.put_chunks.Goals.{After-chunk_length-n}

part_is : (c : After-chunk_length-n) → take (c.loop-i.i + c.chunk_length-n.result - c.loop-i.i) (drop c.loop-i.i c.args.datagram.now)
    ≡ take (full c.args.form) (drop c.loop-i.i c.args.datagram.now)
part_is c =
    let i = c.loop-i.i in
    let n = c.chunk_length-n.result in
    let a = c.args in
    let k : i + n - i ≡ n = omega arith in
    ap (λ (j : ℕ). take j (drop i a.datagram.now)) k ∙ next_bytes a.form a.datagram.now i n c.chunk_length-n.ensures

pub loop-i-preserved : goal.loop-i-preserved
loop-i-preserved c =
    chunk_turn _ _ _ _ _ _ _ c.loop-i.invariant _ c.loop-i-test.true c.chunk_length-n.ensures _ _ (rw (part_is (goal.at.loop-i-preserved c).After-chunk_length-n) at c.put_chunk-next.ensures)

pub returns : goal.returns
returns c = chunk_done _ _ _ _ _ _ _ c.loop-i.invariant c.loop-i-test.false
