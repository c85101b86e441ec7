-- `option_at`: the delta, and then the length after it.
use native.Mathlib.Omega.{arith}
use Rattle.std.proofs.lemmas.Result.{err_from_is_err_and}
use Rattle.option_reading.specs.Option.{option_at}
use Rattle.option_reading.proofs.option_at.Goals as goal

pub overflow_add-before : goal.overflow_add-before
overflow_add-before g c = omega (arith, c.in_ok-delta.ensures.inside.0)

pub length_at-requires : goal.length_at-requires
length_at-requires g c = (c.in_ok-delta.ensures.inside.1, c.requires.1)

pub returns-in_err-delta : goal.returns-in_err-delta
unfolding option_at
returns-in_err-delta g c =
    let p = err_from_is_err_and c.from_residual.result c.from_residual.ensures.1 in
    rw (p.1, p.2, ← c.byte_at-byte.ensures.is, ← c.in_err-delta.ensures.value)

pub returns : goal.returns
unfolding option_at
returns g c = rw (← c.byte_at-byte.ensures.is, ← c.in_ok-delta.ensures.value) c.length_at.ensures
