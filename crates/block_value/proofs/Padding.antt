-- The block of a uint has the uint's padding: it stands for the number again.
use Prim.Native.Nat.{ℕ}
use mathlib.Core.List.{List}
use Rattle.rfc.proofs.Block.{number_block}
use Rattle.option_value.specs.Uint.{Padded, Pads}
use Rattle.block_value.specs.Answers.{block_in, uint_in}

pub uint_pads : (width : ℕ) (bs : List ℕ) (p : Padded ℕ) → Pads width bs p → Pads width bs (uint_in (block_in p))
uint_pads width bs p h = rw (number_block p.value) h
