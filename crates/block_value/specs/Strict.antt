-- Strict block values: RFC 7959, section 2.2.
use Rattle.std.specs.Prelude.{ℕ, ◌≡◌, Bool, List, [], ◌∷◌, eqb, ltb, Result}
use Rattle.ground.specs.Choice.{pick}
use Rattle.ground.specs.Table.{listed}
use Rattle.rfc.specs.Block.{Block, block_bytes}
use Rattle.refusal.specs.Answer.{Answer, given, refused, onward, fitted}
use Rattle.option_value.specs.Uint.{Padded, read_uint}
use Rattle.block_value.specs.Answers.{block_in, block_read}
use Rattle.refusal.specs.declared.Refusal.{Refusal}
use Rattle.block_value.specs.declared.BlockRead.{BlockRead}
use Rattle.block_value.specs.Size.{exponent_of}

-- The sizes of a block: those of SZX 0 to 6.
abbrev pub strict_sizes : List ℕ
strict_sizes = 16 ∷ 32 ∷ 64 ∷ 128 ∷ 256 ∷ 512 ∷ 1024 ∷ []

-- Building: any other size is BadBlockSize (14); then a number of more than 20 bits is BlockNumber (17).
unfoldable pub strict_new : ℕ → Bool → ℕ → Answer Block
strict_new num more size =
    pick (listed size strict_sizes)
    (pick (ltb 1048575 num) (refused 17) (given (record { num = num; more = more; szx = exponent_of size })))
    (refused 14)

-- Writing: SZX over 6 is BadBlockSize (14); then a number of more than 20 bits is BlockNumber (17); then NoRoom (12).
unfoldable pub strict_writing : ℕ → Block → Answer ℕ
strict_writing room b =
    pick (ltb 6 b.szx) (refused 14)
    (pick (ltb 1048575 b.num) (refused 17) (fitted room (block_bytes b)))

-- SZX 7 is reserved: BadBlockSize (14).
abbrev pub unreserved : Padded Block → Answer (Padded Block)
unreserved p = pick (eqb p.value.szx 7) (refused 14) (given p)

-- Reading: a uint of at most 3 bytes, else BadUint (13), and the block of its number, unless its SZX is reserved.
unfoldable pub strict_reading : List ℕ → Answer (Padded Block)
strict_reading bytes = onward (read_uint 3 bytes) (λ p. unreserved (block_in p))

-- The promise of the strict reader.
abbrev pub ReadsStrict : List ℕ → Result BlockRead Refusal → Type 0
ReadsStrict bytes r = block_read r ≡ strict_reading bytes
