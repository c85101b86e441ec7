-- `length_at`: the length, and then the value after it.
use Rattle.std.proofs.lemmas.Result.{err_from_is_err_and}
use Rattle.option_reading.specs.Option.{length_at}
use Rattle.option_reading.proofs.length_at.Goals as goal

pub value_at-requires : goal.value_at-requires
value_at-requires g c = (c.in_ok-len.ensures.inside.1, c.requires.1)

pub returns-in_err-len : goal.returns-in_err-len
unfolding length_at
returns-in_err-len g c =
    let p = err_from_is_err_and c.from_residual.result c.from_residual.ensures.1 in
    rw (p.1, p.2, ← c.in_err-len.ensures.value)

pub returns : goal.returns
unfolding length_at
returns g c = rw (← c.in_ok-len.ensures.value) c.value_at.ensures
