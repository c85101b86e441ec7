-- `put_extension`: the two bytes, of which the first are the extension.
use mathlib.Core.Path.{sym, ◌∙◌}
use native.Mathlib.Omega.{arith}
use Rattle.judging.proofs.Good.{extension_small}
use Rattle.laying.proofs.Pieces.{extension_length}
use Rattle.flat_writing.proofs.Pieces.{extension_loosely}
use Rattle.flat_writing.proofs.put_extension.Goals as goal

pub overflow_add-result : goal.overflow_add-result
overflow_add-result c = omega (arith, c.extension_size.ensures, extension_small c.args.n)

pub returns : goal.returns
returns c =
    rw (c.first_byte.ensures, c.second_byte.ensures, c.extension_size.ensures ∙ sym (extension_length c.args.n))
    (extension_loosely c.args.out.now c.args.at c.args.n c.requires.1)
