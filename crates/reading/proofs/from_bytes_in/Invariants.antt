-- `from_bytes_in`: a good header leaves the answer to the options, and the walk over them keeps it.
use Prim.Native.Nat.{◌+◌, ◌-◌}
use Rattle.header.specs.Header.{token_of}
use Rattle.reading.proofs.Walk as Walk
use Rattle.reading.proofs.from_bytes_in.Given as goal

abbrev pub invariant-loop-marked : goal.invariant-loop-marked
invariant-loop-marked l = Walk.Walk l.most l.buf (4 + token_of l.raw) l.records l.count l.number l.idx

abbrev pub decreases-loop-marked : goal.decreases-loop-marked
decreases-loop-marked l = 128 - l.count
