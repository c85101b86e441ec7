-- `put_extension`: no byte, one or two, by the size of the number.
use mathlib.Core.Path.{ap}
use native.Mathlib.Omega.{arith}
use lib.ListN.{length, length-set}
use Rattle.rfc.proofs.Message.{extension_none, extension_one, extension_two}
use Rattle.placing.proofs.Puts.{put_none, put_one, put_two}
use Rattle.laying.proofs.put_extension.Goals as goal

pub returns-then-n-lt13 : goal.returns-then-n-lt13
returns-then-n-lt13 c = rw (extension_none _ c.if-n-lt13.true) (put_none _ _)

pub bounds-out-at : goal.bounds-out-at
bounds-out-at c = omega (arith, ap length (extension_one c.args.n c.if-n-lt13.false c.if-n-lt269.true))

pub returns-then-n-lt269 : goal.returns-then-n-lt269
returns-then-n-lt269 c = rw (extension_one _ c.if-n-lt13.false c.if-n-lt269.true) (put_one _ _ _)

pub bounds-out-at-2 : goal.bounds-out-at-2
bounds-out-at-2 c = omega (arith, ap length (extension_two c.args.n c.if-n-lt269.false))

pub bounds-out-at-3 : goal.bounds-out-at-3
bounds-out-at-3 c = simp length-set (omega (arith, ap length (extension_two c.args.n c.if-n-lt269.false)))

pub returns : goal.returns
returns c = rw (extension_two _ c.if-n-lt269.false) (put_two _ _ _ _)
