-- `option_to_uint` meets its contract: the bytes read and those left make the number (`Reading`).
use Prim.Native.Nat.{◌-◌}
use mathlib.Core.Path.{sym, ap, ◌∙◌}
use native.Mathlib.Omega.{arith}
use Rattle.ground.proofs.Part.{bytes_of}
use Rattle.refusal.specs.Answer.{given}
use Rattle.option_value.proofs.Reading.{reading_room, Done, reading_end}
use Rattle.option_value.proofs.Uints.{read_over, read_long, read_within}
use Rattle.option_value.proofs.option_to_uint.Goals.{After-uint_length}
use Rattle.option_value.proofs.option_to_uint.Goals as goal

-- The number is read, and what isn't its shortest bytes is zeros.
done : (c : After-uint_length) → Done c.args.encoded.now c.loop-byte.value c.uint_length.result
done c =
    reading_end (bytes_of c.args.encoded.now (λ i. (c.type_inv.encoded i).fits)) (omega arith) (omega arith) c.loop-byte.invariant c.uint_length.ensures

pub returns-then-value_size-encoded : goal.returns-then-value_size-encoded
returns-then-value_size-encoded c = sym (read_over _ _ c.if-value_size-encoded.true)

pub returns-then-encoded-gt8 : goal.returns-then-encoded-gt8
returns-then-encoded-gt8 c = sym (read_long _ _ c.if-encoded-gt8.true)

pub overflow_mul-value : goal.overflow_mul-value
overflow_mul-value c = omega (arith, reading_room (omega arith) (omega arith) c.loop-byte.invariant)

pub overflow_sub-zeros : goal.overflow_sub-zeros
overflow_sub-zeros c = omega (arith, (done (goal.at.overflow_sub-zeros c).After-uint_length).fits)

pub returns : goal.returns
returns c = ap given (done (goal.at.returns c).After-uint_length).read ∙ sym (read_within _ _ (omega arith) (omega arith))
