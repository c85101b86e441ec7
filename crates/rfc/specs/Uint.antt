-- Option values of format uint: RFC 7252, section 3.2.
use Rattle.std.specs.Prelude.{ℕ, zero, suc, ◌+◌, ◌*◌, ◌/◌, ◌%◌, List, [], ◌∷◌, ◌++◌, eqb}
use Rattle.ground.specs.Choice.{pick}

-- The number that bytes in network order stand for after a number already read; leading zero bytes add nothing.
abbrev pub number_from : ℕ → List ℕ → ℕ
number_from n [] = n
number_from n (b ∷ bs) = number_from (n * 256 + b) bs

-- The number that a value stands for.
abbrev pub number : List ℕ → ℕ
number bs = number_from 0 bs

-- The shortest bytes of a number below 256 ^ width, high byte first: zero is no bytes.
unfoldable pub uint : ℕ → ℕ → List ℕ
uint zero n = []
uint (suc width) n = pick (eqb n 0) [] (uint width (n / 256) ++ ((n % 256) ∷ []))

-- A value without its leading zero bytes.
abbrev pub without_zeros : List ℕ → List ℕ
without_zeros [] = []
without_zeros (b ∷ bs) = pick (eqb b 0) (without_zeros bs) (b ∷ bs)
