-- Values of Block options (RFC 7959, section 2.2): its examples, and the edges of NUM, M and SZX.
use Prim.Native.Nat.{ℕ}
use mathlib.Core.Path.{◌≡◌, refl}
use mathlib.Core.Bool.{Bool, true, false}
use mathlib.Core.List.{List, [], ◌∷◌, map}
use native.Mathlib.Omega.{arith}
use lib.Dec.{lit≤}
use Rattle.rfc.specs.Uint.{uint}
use Rattle.rfc.specs.Block.{Block, Valid, size, block_number, block_of, block_bytes}

abbrev block : ℕ → Bool → ℕ → Block
block num more szx = record { num = num; more = more; szx = szx }

-- The examples of section 3.1 have 2:1/0/128 and 2:0/1/128; then the block of value zero, and NUM across the bytes.
blocks : List Block
blocks =
    block 1 false 3
    ∷ block 0 true 3
    ∷ block 0 false 0
    ∷ block 15 false 6
    ∷ block 16 false 0
    ∷ block 4096 true 6
    ∷ block 1048575 true 6
    ∷ []

written : map block_bytes blocks ≡ ((0x13 ∷ []) ∷ (0x0B ∷ []) ∷ [] ∷ (0xF6 ∷ []) ∷ (0x01 ∷ 0x00 ∷ []) ∷ (0x01 ∷ 0x00 ∷ 0x0E ∷ []) ∷ (0xFF ∷ 0xFF ∷ 0xFE ∷ []) ∷ [])
unfolding blocks block_bytes block_number uint
written = refl

-- The same from their numbers.
read : map block_of (0x13 ∷ 0x0B ∷ 0 ∷ 0xF6 ∷ 0x100 ∷ 0x1000E ∷ 0xFFFFFE ∷ []) ≡ blocks
unfolding blocks block_of
read = refl

-- A size exponent of 0 is 16 bytes, one of 6 is 1024.
sizes : map size (0 ∷ 3 ∷ 6 ∷ []) ≡ (16 ∷ 128 ∷ 1024 ∷ [])
sizes = refl

-- The highest block is valid; a number of 21 bits and the reserved exponent aren't.
highest : Valid (block 1048575 true 6)
highest = record { num = lit≤ tt; szx = lit≤ tt }

number_past : Valid (block 1048576 false 6) → ⊥
number_past v = omega (arith, v.num)

reserved : Valid (block 0 false 7) → ⊥
reserved v = omega (arith, v.szx)
