-- Laws of block values: a block and its number lead to each other, and a valid block's bytes read as its number.
use Prim.Native.Nat.{ℕ, zero, suc, ◌+◌, ◌*◌, ◌/◌, ◌%◌, ◌^◌, ◌<◌, ◌≤◌}
use mathlib.Core.Path.{◌≡◌, refl, ap, ◌∙◌}
use mathlib.Core.Bool.{Bool, true, false}
use native.Mathlib.Omega.{arith}
use lib.Dec.{eqb, lit≤}
use Rattle.rfc.specs.Uint.{number}
use Rattle.rfc.specs.Block.{Block, Valid, bit, block_number, block_of, block_bytes}
use Rattle.rfc.proofs.Uint.{written_read}

-- M is one bit.
pub bit_small : (more : Bool) → bit more ≤ 1
bit_small true = lit≤ tt
bit_small false = lit≤ tt

bit_back : (more : Bool) → eqb (bit more) 1 ≡ more
bit_back true = refl
bit_back false = refl

-- From a block to its number and back, where SZX has three bits.
pub block_number_lem : (b : Block) → b.szx ≤ 7 → block_of (block_number b) ≡ b
unfolding block_of block_number
block_number_lem b h =
    let n : ℕ = b.num * 16 + bit b.more * 8 + b.szx in
    let num : n / 16 ≡ b.num = omega (arith, bit_small b.more) in
    let more : n / 8 % 2 ≡ bit b.more = omega (arith, bit_small b.more) in
    let szx : n % 8 ≡ b.szx = omega (arith, bit_small b.more) in
    λ i. record { num = num i; more = (ap (λ (k : ℕ). eqb k 1) more ∙ bit_back b.more) i; szx = szx i }

on_bit : (k : ℕ) → k ≤ 1 → bit (eqb k 1) ≡ k
on_bit zero h = refl
on_bit (suc zero) h = refl
on_bit (suc (suc k)) h = absurd (omega arith)

-- From a number to its block and back.
pub number_block : (n : ℕ) → block_number (block_of n) ≡ n
unfolding block_of block_number
number_block n =
    let m : bit (eqb (n / 8 % 2) 1) ≡ n / 8 % 2 = on_bit (n / 8 % 2) (omega arith) in
    omega (arith, m)

-- A valid block's number has three bytes.
pub block_below : (b : Block) → Valid b → block_number b < 256 ^ 3
unfolding block_number
block_below b v = omega (arith, bit_small b.more)

-- A valid block's bytes read as its number.
pub block_read : (b : Block) → Valid b → number (block_bytes b) ≡ block_number b
unfolding block_bytes
block_read b v = written_read 3 (block_number b) (block_below b v)
