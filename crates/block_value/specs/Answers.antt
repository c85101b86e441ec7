-- What the operations on block values answer, in the words of the promises.
use Rattle.std.specs.Prelude.{ℕ, Result, Ok, Err}
use Rattle.rfc.specs.Block.{Block, block_number, block_of}
use Rattle.refusal.specs.Answer.{Answer, given, refused}
use Rattle.refusal.specs.Number.{number_of}
use Rattle.refusal.specs.declared.Refusal.{Refusal}
use Rattle.option_value.specs.Uint.{Padded, with_zeros}
use Rattle.block_value.specs.declared.BlockValue.{BlockValue}
use Rattle.block_value.specs.declared.BlockRead.{BlockRead}

-- The block that a block value stands for.
abbrev pub meant : BlockValue → Block
meant b = record { num = b.num; more = b.more; szx = b.size_exponent }

-- The block of a uint that was read, and the uint of a block, each after as many zeros.
abbrev pub block_in : Padded ℕ → Padded Block
block_in p = with_zeros p.zeros (block_of p.value)

abbrev pub uint_in : Padded Block → Padded ℕ
uint_in p = with_zeros p.zeros (block_number p.value)

-- The answer of building a block.
abbrev pub built : Result BlockValue Refusal → Answer Block
built (Ok b) = given (meant b)
built (Err e) = refused (number_of e)

-- The answer of reading a block.
abbrev pub block_read : Result BlockRead Refusal → Answer (Padded Block)
block_read (Ok r) = given (with_zeros r.zeros (meant r.block))
block_read (Err e) = refused (number_of e)

-- The answer of an operation that gives a size.
abbrev pub sized : Result ℕ Refusal → Answer ℕ
sized (Ok n) = given n
sized (Err e) = refused (number_of e)
