-- `option_size`: of a short option, and of every other.
use native.Mathlib.Omega.{arith}
use mathlib.Core.Path.{sym, ◌∙◌}
use Rattle.judging.proofs.Good.{extension_small}
use Rattle.laying.proofs.Pieces.{extension_length, both_short, short_size}
use Rattle.laying.proofs.option_size.Goals as goal

pub returns-then-is_short : goal.returns-then-is_short
returns-then-is_short c = let k = both_short c.args.delta c.args.len (sym c.is_short.ensures ∙ c.if-is_short.true) in sym (short_size _ _ k.0 k.1)

pub overflow_add-result-2 : goal.overflow_add-result-2
overflow_add-result-2 c = omega (arith, c.extension_size.ensures, extension_small c.args.delta)

pub overflow_add-result-3 : goal.overflow_add-result-3
overflow_add-result-3 c = omega (arith, c.extension_size-2.ensures, c.extension_size.ensures, extension_small c.args.delta, extension_small c.args.len)

pub overflow_add-result-4 : goal.overflow_add-result-4
overflow_add-result-4 c = omega (arith, c.extension_size-2.ensures, c.extension_size.ensures, extension_small c.args.delta, extension_small c.args.len)

pub returns : goal.returns
returns c = omega (arith, c.extension_size-2.ensures, c.extension_size.ensures, extension_length c.args.delta, extension_length c.args.len)
