-- `size_after`: an extension has two bytes at most, so no sum wraps.
use Prim.Native.Nat.{◌-◌}
use native.Mathlib.Omega.{arith}
use Rattle.judging.specs.Judge.{option_size}
use Rattle.judging.proofs.Good.{extension_small}
use Rattle.judging.proofs.size_after.Goals as goal

pub overflow_add-result : goal.overflow_add-result
overflow_add-result c = omega (arith, c.extension_size.ensures, extension_small (c.args.option.number - c.args.before))

pub overflow_add-result-2 : goal.overflow_add-result-2
overflow_add-result-2 c = let a = c.args in omega (arith, c.extension_size.ensures, extension_small (a.option.number - a.before), c.extension_size-2.ensures, extension_small a.option.len)

pub overflow_add-result-3 : goal.overflow_add-result-3
overflow_add-result-3 c = let a = c.args in omega (arith, c.extension_size.ensures, extension_small (a.option.number - a.before), c.extension_size-2.ensures, extension_small a.option.len)

pub returns : goal.returns
unfolding option_size
returns c = rw (c.extension_size.ensures, c.extension_size-2.ensures)
