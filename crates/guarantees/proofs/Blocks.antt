-- Strict block values, from the laws of their definitions.
use Prim.Native.Nat.{ℕ}
use mathlib.Core.Path.{◌≡◌, sym, ap, ◌∙◌}
use mathlib.Core.List.{List}
use lib.ListN.{length, take}
use Rattle.ground.proofs.Choice.{on_lt}
use Rattle.rfc.specs.Block.{Block, block_bytes, size}
use Rattle.rfc.proofs.Block.{block_below}
use Rattle.refusal.specs.Answer.{Answer, given, written}
use Rattle.refusal.proofs.Answers.{same_given, not_refused}
use Rattle.option_value.specs.Uint.{Padded}
use Rattle.block_value.specs.Size.{size_up_to}
use Rattle.block_value.specs.Strict.{strict_reading}
use Rattle.block_value.proofs.Distinct.{one_built, one_block_read, one_sized}
use Rattle.block_value.proofs.StrictLaws.{Read, read, only_read, one_read, sent, written_back, made}
use Rattle.guarantees.specs.Blocks.{IsValueOf, BlocksRead, BlocksWritten, BlocksBuilt, ToldApart}

-- The rule of padded uints, and the value of a block.
to_value : (value : List ℕ) (b : Padded Block) → Read value b → IsValueOf value b
unfolding block_bytes
to_value value b r = record { valid = r.valid; short = r.pads.short; bytes = r.pads.bytes }

from_value : (value : List ℕ) (b : Padded Block) → IsValueOf value b → Read value b
unfolding block_bytes
from_value value b v =
    record { valid = v.valid; pads = record { short = v.short; room = block_below b.value v.valid; bytes = v.bytes } }

pub blocks_read : BlocksRead
blocks_read value t r promise = (
  λ b. (
    λ e. to_value value b (read value b t (sym promise ∙ e)),
    λ v. promise ∙ only_read value b t (from_value value b v),
  ),
  λ b c v w. one_read value b c t (from_value value b v) (from_value value c w),
)

pub blocks_written : BlocksWritten
blocks_written b old w new n r answer output is promise =
    let e = sym answer ∙ ap written is in
    let back = written_back b old n e in
    ((sent b (length old) n e).valid, promise ∙ (ap (λ (l : List ℕ). strict_reading (take n l)) output ∙ back))

sized : (szx asked : ℕ) → size_up_to 6 szx ≡ given asked → size szx ≡ asked
unfolding size_up_to
sized szx asked e = on_lt (λ (a : Answer ℕ). a ≡ given asked → size szx ≡ asked) 6 szx (λ _ q. not_refused (sym q)) (λ _ q. same_given q) e

pub blocks_built : BlocksBuilt
blocks_built num more asked r b answer is =
    let m = made num more asked b (sym answer ∙ is) in
    record { valid = m.valid; num = m.num; more = m.more; exact = sized b.szx asked m.size }

pub told_apart : ToldApart
told_apart =
    record {
      blocks = one_built;
      blocks_read = one_block_read;
      block_sizes = one_sized;
    }
