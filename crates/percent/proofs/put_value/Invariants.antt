-- `put_value` meets its contract: once the text of the bytes that are left is put, all is.
use lib.ListN.{drop}
use Rattle.placing.proofs.Puts.{Putting}
use Rattle.rfc.specs.Percent.{code}
use Rattle.percent.specs.Step.{kind_of}
use Rattle.percent.proofs.put_value.Given as goal

abbrev pub invariant-loop-b : goal.invariant-loop-b
invariant-loop-b l = Putting l.initial.out l.at (code (kind_of l.kind) l.value) l.out l.next (code (kind_of l.kind) (drop l.b-index l.value))
