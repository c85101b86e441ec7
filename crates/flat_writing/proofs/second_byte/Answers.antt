-- `second_byte`: by the size of the number.
use Rattle.flat_writing.proofs.Pieces.{no_second}
use Rattle.rfc.proofs.Message.{extension_two}
use Rattle.flat_writing.proofs.second_byte.Goals as goal

pub returns-then-n-lt269 : goal.returns-then-n-lt269
returns-then-n-lt269 c = no_second _ c.if-n-lt269.true

pub returns : goal.returns
returns c = rw (extension_two _ c.if-n-lt269.false)
