-- Plain block values (docs/RULES.md, Blocks).
use Rattle.std.specs.Prelude.{ℕ, ◌%◌, ◌≡◌, Bool, List, eqb, ltb, Result}
use Rattle.ground.specs.Choice.{pick, either}
use Rattle.rfc.specs.Uint.{uint}
use Rattle.rfc.specs.Block.{Block, block_number}
use Rattle.refusal.specs.Answer.{Answer, given, refused, onward, fitted}
use Rattle.option_value.specs.Uint.{Padded, read_uint}
use Rattle.block_value.specs.Answers.{block_in, block_read}
use Rattle.refusal.specs.declared.Refusal.{Refusal}
use Rattle.block_value.specs.declared.BlockRead.{BlockRead}
use Rattle.block_value.specs.Size.{exponent_of}

-- Building: size 0, or 4096 and over, is BadBlockSize (14); then a number over 65535 is BlockNumber (17).
unfoldable pub plain_new : ℕ → Bool → ℕ → Answer Block
plain_new num more size =
    pick (either (eqb size 0) (ltb 4095 size)) (refused 14)
    (pick (ltb 65535 num) (refused 17) (given (record { num = num; more = more; szx = exponent_of size })))

-- What writing keeps of a block: 12 bits of the number and 3 of the exponent.
abbrev pub kept : Block → Block
kept b = record { num = b.num % 4096; more = b.more; szx = b.szx % 8 }

-- The bytes of a block: the number of what is kept, as a uint of at most 2 bytes.
unfoldable pub plain_bytes : Block → List ℕ
plain_bytes b = uint 2 (block_number (kept b))

-- Writing: nothing is refused but for room, NoRoom (12).
abbrev pub plain_writing : ℕ → Block → Answer ℕ
plain_writing room b = fitted room (plain_bytes b)

-- Reading: a uint of at most 2 bytes, else BadUint (13), and the block of its number.
unfoldable pub plain_reading : List ℕ → Answer (Padded Block)
plain_reading bytes = onward (read_uint 2 bytes) (λ p. given (block_in p))

-- The promise of the plain reader.
abbrev pub ReadsPlain : List ℕ → Result BlockRead Refusal → Type 0
ReadsPlain bytes r = block_read r ≡ plain_reading bytes
