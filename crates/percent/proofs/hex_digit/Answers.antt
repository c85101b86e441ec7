-- `hex_digit` meets its contract.
use mathlib.Core.Path.{refl}
use borrow.Author.Tests.{lt-ltb, le-ltb}
use Rattle.rfc.specs.Percent.{hex_digit}
use Rattle.percent.proofs.hex_digit.Goals as goal

pub returns-then-n-lt10 : goal.returns-then-n-lt10
unfolding hex_digit
returns-then-n-lt10 c = rw (lt-ltb c.args.n 10 c.if-n-lt10.true) refl

pub returns : goal.returns
unfolding hex_digit
returns c = rw (le-ltb c.args.n 10 c.if-n-lt10.false) refl
