-- `judge_parts` meets its contract: parts passed and parts left come to the whole (`PartsWalk`).
use Prim.Native.Nat.{◌-◌, ◌+◌}
use lib.ListN.{length}
use Rattle.percent.specs.Step.{kind_of}
use Rattle.uri_text.proofs.Tallying.{PartsWalk}
use Rattle.uri_text.proofs.judge_parts.Given as goal

abbrev pub invariant-loop-bytes : goal.invariant-loop-bytes
invariant-loop-bytes l = PartsWalk (kind_of l.kind) l.separator l.fn.passed.count l.fn.passed.bytes l.text l.from l.count l.bytes

abbrev pub decreases-loop-bytes : goal.decreases-loop-bytes
decreases-loop-bytes l = length l.text + 1 - l.from
