-- `into_bytes` writes the number of what is kept, which has two bytes.
use native.Mathlib.Omega.{arith}
use Rattle.block_value.specs.Answers.{meant}
use Rattle.block_value.specs.Plain.{plain_bytes}
use Rattle.block_value.proofs.PlainLaws.{kept_below}
use Rattle.block_value.proofs.BlockValue.into_bytes.Goals as goal

pub overflow_cast-scalar : goal.overflow_cast-scalar
overflow_cast-scalar c = rw c.scalar.ensures (omega (arith, kept_below (meant c.args.self)))

pub returns : goal.returns
unfolding plain_bytes
returns c =
    record {
      result_value = rw c.scalar.ensures at c.into_bytes.ensures.result_value;
      out_after = rw c.scalar.ensures at c.into_bytes.ensures.out_after;
    }
