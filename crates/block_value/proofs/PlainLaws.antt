-- Laws of plain block values: what is written is read back as what was kept, and what is read is the value's.
use Prim.Native.Nat.{ℕ, ◌^◌, ◌<◌}
use mathlib.Core.Path.{◌≡◌, sym}
use mathlib.Core.List.{List}
use native.Mathlib.Omega.{arith}
use Rattle.ground.specs.Part.{Bytes}
use Rattle.rfc.specs.Block.{Block, block_number}
use Rattle.rfc.proofs.Block.{bit_small, block_number_lem}
use Rattle.refusal.specs.Answer.{given}
use Rattle.refusal.proofs.Answers.{same_given, onward_given}
use Rattle.option_value.specs.Uint.{Padded, with_zeros, read_uint, Pads}
use Rattle.option_value.proofs.Uints.{read_pads, written_then_read}
use Rattle.block_value.specs.Answers.{block_in, uint_in}
use Rattle.block_value.specs.Plain.{kept, plain_bytes, plain_reading}
use Rattle.block_value.proofs.Padding.{uint_pads}

-- What is kept has a number of two bytes.
pub kept_below : (b : Block) → block_number (kept b) < 256 ^ 2
unfolding block_number
kept_below b = omega (arith, bit_small b.more)

-- From a block to its bytes and back to what they keep of it, with no zero before it.
pub kept_read : (b : Block) → plain_reading (plain_bytes b) ≡ given (with_zeros 0 (kept b))
unfolding plain_bytes plain_reading
kept_read b =
    rw (
      written_then_read 2 (block_number (kept b)) (omega arith) (kept_below b),
      block_number_lem (kept b) (omega arith),
    )

-- The value of a block that was read is its zeros and then the shortest bytes of its number.
pub plain_pads : (bs : List ℕ) (p : Padded Block) → Bytes bs → plain_reading bs ≡ given p → Pads 2 bs (uint_in p)
unfolding plain_reading
plain_pads bs p t e =
    let o = onward_given (read_uint 2 bs) (λ q. given (block_in q)) p e in
    rw (sym (same_given o.2)) (uint_pads 2 bs o.0 (read_pads 2 o.0 bs t o.1))
