-- `size_up_to` reads the size from the table, whose rule is a test at each of its eight entries.
use Prim.Native.Nat.{ℕ}
use mathlib.Core.Path.{ap}
use mathlib.Core.Bool.{Bool}
use mathlib.Core.List.{List, [], ◌∷◌}
use lib.Dec.{eqb, eqb→eq}
use lib.ListN.{get_or}
use borrow.Author.Tests.{lt-ltb, le-ltb}
use Rattle.rfc.specs.Block.{size}
use Rattle.ground.proofs.Table.{at}
use Rattle.refusal.specs.Answer.{given}
use Rattle.block_value.specs.Size.{size_up_to}
use borrow.Author.Rules.{rules}
use Rattle.block_value.proofs.size_up_to.Goals as goal

sizes : List ℕ
sizes = 16 ∷ 32 ∷ 64 ∷ 128 ∷ 256 ∷ 512 ∷ 1024 ∷ 2048 ∷ []

right : ℕ → ℕ → Bool
right k x = eqb x (size k)

pub returns-then-largest-exponent : goal.returns-then-largest-exponent
unfolding size_up_to
returns-then-largest-exponent c = rw (lt-ltb _ _ c.if-largest-exponent.true)

pub returns : goal.returns
unfolding size_up_to sizes right
returns c =
    let e = c.args.exponent in
    rw (le-ltb _ _ c.if-largest-exponent.false) (ap (λ (n : ℕ). given n) (eqb→eq (get_or sizes e 0) (size e) (at right sizes tt e (search rules))))
