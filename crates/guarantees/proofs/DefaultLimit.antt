-- The default limit is 1,152: opened up, the two promises are the same equations.
use Rattle.measuring.specs.Measuring.{limited}
use Rattle.writing.specs.Writing.{writing}
use Rattle.guarantees.specs.DefaultLimit.{DefaultLimit}

pub default_limit : DefaultLimit
unfolding writing limited
default_limit strict p s old r new = (
  λ t. record { answer = t.answer; output = t.output },
  λ t. record { answer = t.answer; output = t.output },
)
