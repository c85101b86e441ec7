-- The value of a Block option: RFC 7959, section 2.2.
use Rattle.std.specs.Prelude.{ℕ, ◌+◌, ◌*◌, ◌/◌, ◌%◌, ◌^◌, ◌≤◌, Bool, true, false, List, eqb}
use Rattle.rfc.specs.Uint.{uint}

-- NUM, the block's number; M, whether more blocks follow; SZX, the size exponent.
pub record Block : Type 0 where
  pub num : ℕ
  pub more : Bool
  pub szx : ℕ

-- NUM has up to 20 bits; SZX is 0 to 6, and 7 is reserved.
pub record Valid (b : Block) : Type 0 where
  pub num : b.num ≤ 1048575
  pub szx : b.szx ≤ 6

-- The size of a block: 2 ** (SZX + 4).
abbrev pub size : ℕ → ℕ
size szx = 2 ^ (szx + 4)

-- M as a bit.
abbrev pub bit : Bool → ℕ
bit true = 1
bit false = 0

-- The option's value as a number: NUM above four bits, then M, then SZX (figure 1).
unfoldable pub block_number : Block → ℕ
block_number b = b.num * 16 + bit b.more * 8 + b.szx

-- The block that a number stands for: NUM is the number / 16, M the bit of value 8, SZX the number mod 8.
unfoldable pub block_of : ℕ → Block
block_of n = record { num = n / 16; more = eqb (n / 8 % 2) 1; szx = n % 8 }

-- The option's bytes: a uint of 0 to 3 bytes.
unfoldable pub block_bytes : Block → List ℕ
block_bytes b = uint 3 (block_number b)
