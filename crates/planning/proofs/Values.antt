-- The value of a block that starts at a unit, as the code adds it up.
use Prim.Native.Nat.{ℕ, ◌+◌, ◌*◌, ◌/◌, ◌^◌, ◌<◌, ◌≤◌}
use mathlib.Core.Path.{◌≡◌, ap}
use native.Mathlib.Omega.{arith}
use borrow.Author.Tests.{lt-ltb, le-ltb}
use Rattle.rfc.specs.Block.{block_number}
use Rattle.plan_checking.specs.Steps.{Width}
use Rattle.planning.specs.Planner.{block_at}

pub value_more : (size unit w e : ℕ) → Width e w → (unit + w) * 16 < size → unit / w * 16 + 8 + e ≡ block_number (block_at size unit e)
unfolding block_number
value_more size unit w e p h =
    let q : unit / w ≡ unit / 2 ^ e = ap (λ (n : ℕ). unit / n) p.is in
    rw (lt-ltb ((unit + 2 ^ e) * 16) size (omega (arith, p.is))) (omega (arith, q))

pub value_last : (size unit w e : ℕ) → Width e w → size ≤ (unit + w) * 16 → unit / w * 16 + e ≡ block_number (block_at size unit e)
unfolding block_number
value_last size unit w e p h =
    let q : unit / w ≡ unit / 2 ^ e = ap (λ (n : ℕ). unit / n) p.is in
    rw (le-ltb ((unit + 2 ^ e) * 16) size (omega (arith, p.is))) (omega (arith, q))
