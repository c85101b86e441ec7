-- `put_options`: once the options that are left are put, all are; each is read at the place that was noted for it.
use Rattle.scanning.proofs.Plain.{Second}
use Rattle.scanning.proofs.put_options.Given as goal

abbrev pub invariant-loop-i : goal.invariant-loop-i
invariant-loop-i l = Second l.strict l.buf l.places l.count l.initial.out l.out l.number l.i
