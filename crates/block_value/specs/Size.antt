-- Sizes of blocks and their exponents.
use Rattle.std.specs.Prelude.{ℕ, zero, suc, ◌+◌, ◌-◌, ◌^◌, ◌<◌, ◌≤◌, leb, ltb}
use Rattle.ground.specs.Choice.{pick}
use Rattle.rfc.specs.Block.{size}
use Rattle.refusal.specs.Answer.{Answer, given, refused}

-- The power of 2 that is the largest not above a number.
pub record Floor (n power : ℕ) : Type 0 where
  pub low : 2 ^ power ≤ n
  pub high : n < 2 ^ (power + 1)

-- The largest power up to a bound, of which 2 to it is not above a number.
unfoldable pub power_up_to : ℕ → ℕ → ℕ
power_up_to zero n = 0
power_up_to (suc k) n = pick (leb (2 ^ suc k) n) (suc k) (power_up_to k n)

-- The exponent of a size below 4096: floor of log2, minus 4, and 0 for sizes of 1 to 15.
unfoldable pub exponent_of : ℕ → ℕ
exponent_of n = power_up_to 11 n - 4

-- The size of an exponent, 2 ^ (exponent + 4); above the largest exponent BadBlockSize (14).
unfoldable pub size_up_to : ℕ → ℕ → Answer ℕ
size_up_to largest exponent = pick (ltb largest exponent) (refused 14) (given (size exponent))
