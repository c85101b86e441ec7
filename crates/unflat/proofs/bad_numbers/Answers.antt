-- `bad_numbers`: the records passed are good.
use mathlib.Core.Path.{sym, ◌∙◌}
use Rattle.unflat.proofs.Unflat.{bad_by}
use Rattle.unflat.proofs.bad_numbers.Goals as goal

pub returns-then-bad_record : goal.returns-then-bad_record
returns-then-bad_record c =
    let a = c.args in
    sym (bad_by a.numbers.now a.count c.loop-i.i c.loop-i-test.true (sym c.bad_record.ensures ∙ c.if-bad_record.true))
