-- Strict block values: what RFC 7959, section 2.2, says of a Block option's value is what is read, written and built.
use Rattle.std.specs.Prelude.{ℕ, ◌≤◌, ◌≡◌, Bool, List, ◌++◌, ◌↔◌, length, take, replicate, Result, Ok}
use Rattle.ground.specs.Part.{Bytes}
use Rattle.rfc.specs.Block.{Block, Valid, block_bytes, size}
use Rattle.refusal.specs.Answer.{given, written, after}
use Rattle.refusal.specs.declared.Refusal.{Refusal}
use Rattle.option_value.specs.Uint.{Padded, with_zeros}
use Rattle.block_value.specs.Answers.{built, block_read, sized}
use Rattle.block_value.specs.Strict.{strict_new, strict_writing, ReadsStrict}
use Rattle.block_value.specs.declared.BlockRead.{BlockRead}
use Rattle.block_value.specs.declared.BlockValue.{BlockValue}
use Rattle.guarantees.specs.Apart.{TellsApart}

-- The value of a valid block: at most 3 bytes, some zeros and then the block's own bytes.
pub record IsValueOf (value : List ℕ) (b : Padded Block) : Type 0 where
  pub valid : Valid b.value
  pub short : length value ≤ 3
  pub bytes : value ≡ replicate b.zeros 0 ++ block_bytes b.value

-- A value is read as a block exactly when it is that block's, and it is one block's only.
abbrev pub BlocksRead : Type 0
BlocksRead =
    (value : List ℕ) → Bytes value → (r : Result BlockRead Refusal) → ReadsStrict value r
    → ((b : Padded Block) → (block_read r ≡ given b) ↔ IsValueOf value b) × ((b c : Padded Block) → IsValueOf value b → IsValueOf value c → b ≡ c)

-- What is written is valid, and read back as itself with no zero before it.
abbrev pub BlocksWritten : Type 0
BlocksWritten =
    (b : Block) (old : List ℕ) (w : Result ℕ Refusal) (new : List ℕ) (n : ℕ) (r : Result BlockRead Refusal)
    → written w ≡ strict_writing (length old) b → new ≡ after (strict_writing (length old) b) 0 (block_bytes b) old → w ≡ Ok n
    → ReadsStrict (take n new) r → Valid b × (block_read r ≡ given (with_zeros 0 b))

-- What is built is valid, with the number and the flag that were asked for, and of exactly the size.
pub record Built (number : ℕ) (flag : Bool) (asked : ℕ) (b : Block) : Type 0 where
  pub valid : Valid b
  pub num : b.num ≡ number
  pub more : b.more ≡ flag
  pub exact : size b.szx ≡ asked

abbrev pub BlocksBuilt : Type 0
BlocksBuilt = (num : ℕ) (more : Bool) (asked : ℕ) (r : Result BlockValue Refusal) (b : Block) → built r ≡ strict_new num more asked → built r ≡ given b → Built num more asked b

-- Every definition that a promise of blocks, plain and strict, tells its answer by tells answers apart.
pub record ToldApart : Type 0 where
  pub blocks : TellsApart built
  pub blocks_read : TellsApart block_read
  pub block_sizes : TellsApart sized
