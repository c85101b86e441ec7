-- `first_byte`: by the size of the number.
use Rattle.rfc.proofs.Message.{extension_none, extension_one, extension_two}
use Rattle.flat_writing.proofs.first_byte.Goals as goal

pub returns-then-n-lt13 : goal.returns-then-n-lt13
returns-then-n-lt13 c = rw (extension_none _ c.if-n-lt13.true)

pub returns-then-n-lt269 : goal.returns-then-n-lt269
returns-then-n-lt269 c = rw (extension_one _ c.if-n-lt13.false c.if-n-lt269.true)

pub returns : goal.returns
returns c = rw (extension_two _ c.if-n-lt269.false)
