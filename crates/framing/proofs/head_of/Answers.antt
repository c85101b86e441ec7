-- `head_of`: by the class of the length.
use mathlib.Core.Path.{refl, sym}
use native.Mathlib.Omega.{arith}
use Rattle.framing.proofs.Heads.{head_none, head_one, head_two, head_four}
use Rattle.framing.proofs.head_of.Goals as goal

pub returns-then-length-lt13 : goal.returns-then-length-lt13
returns-then-length-lt13 c = record { is = sym (head_none _ _ _ c.if-length-lt13.true); short = omega arith; array = refl }

pub returns-then-length-lt269 : goal.returns-then-length-lt269
returns-then-length-lt269 c = record { is = sym (head_one _ _ _ c.if-length-lt13.false c.if-length-lt269.true); short = omega arith; array = refl }

pub returns-then-length-lt65805 : goal.returns-then-length-lt65805
returns-then-length-lt65805 c = record { is = sym (head_two _ _ _ c.if-length-lt269.false c.if-length-lt65805.true); short = omega arith; array = refl }

pub returns : goal.returns
returns c = record { is = sym (head_four _ _ _ c.if-length-lt65805.false); short = omega arith; array = refl }
