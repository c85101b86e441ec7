-- `put_value` meets its contract: once the text of the bytes that are left is put, all is.
use mathlib.Core.Path.{ap}
use native.Mathlib.Omega.{arith}
use lib.ListN.{drop_of_length-le}
use Rattle.placing.proofs.Puts.{putting_turn, putting_end}
use Rattle.rfc.specs.Percent.{code}
use Rattle.percent.specs.Step.{kind_of}
use Rattle.percent.proofs.Coding.{code_at}
use Rattle.percent.proofs.put_value.Goals as goal

pub loop-b-preserved : goal.loop-b-preserved
loop-b-preserved c = putting_turn c.loop-b.invariant (code_at (kind_of c.args.kind) c.args.value.now c.loop-b.b-index (omega arith)) c.put_coded-next.ensures

pub returns : goal.returns
returns c = putting_end c.loop-b.invariant (ap (code _) (drop_of_length-le _ c.loop-b-test.false))
