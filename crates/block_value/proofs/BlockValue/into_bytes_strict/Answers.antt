-- `into_bytes_strict` judges in the definition's order, then writes the block's number, which has three bytes.
use mathlib.Core.Path.{refl}
use borrow.Author.Tests.{lt-ltb, le-ltb}
use Rattle.rfc.specs.Block.{block_number, block_bytes}
use Rattle.rfc.proofs.Uint.{uint_enough}
use Rattle.rfc.proofs.Block.{block_below}
use Rattle.block_value.specs.Answers.{meant}
use Rattle.block_value.specs.Strict.{strict_writing}
use Rattle.block_value.proofs.BlockValue.into_bytes_strict.Goals as goal

pub returns-then-self-gt6 : goal.returns-then-self-gt6
unfolding strict_writing
returns-then-self-gt6 c =
    let e = lt-ltb 6 c.args.self.size_exponent c.if-self-gt6.true in
    record { result_value = rw e refl; out_after = rw e refl }

pub returns-then-self-gt1048575 : goal.returns-then-self-gt1048575
unfolding strict_writing
returns-then-self-gt1048575 c =
    let e = le-ltb 6 c.args.self.size_exponent c.if-self-gt6.false in
    let f = lt-ltb 1048575 c.args.self.num c.if-self-gt1048575.true in
    record { result_value = rw (e, f) refl; out_after = rw (e, f) refl }

pub returns : goal.returns
unfolding strict_writing block_bytes
returns c =
    let szx = c.if-self-gt6.false in
    let num = c.if-self-gt1048575.false in
    let b = meant c.args.self in
    let e = le-ltb 6 b.szx szx in
    let f = le-ltb 1048575 b.num num in
    let g = uint_enough 3 5 (block_number b) (block_below b (record { num = num; szx = szx })) in
    record {
      result_value = rw (e, f) (rw (c.scalar.ensures, g) at c.option_from_uint.ensures.result_value);
      out_after = rw (e, f) (rw (c.scalar.ensures, g) at c.option_from_uint.ensures.out_after);
    }
