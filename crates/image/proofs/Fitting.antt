-- What it says that size and held list fit.
use Prim.Native.Nat.{ℕ, ◌≤◌}
use mathlib.Core.Path.{◌≡◌}
use mathlib.Core.Bool.{true}
use mathlib.Core.List.{List}
use native.Mathlib.Omega.{arith}
use lib.Dec.{eqb, leb}
use lib.ListN.{length}
use borrow.Author.Tests.{leb-true, eqb-true}
use Rattle.ground.specs.Choice.{within}
use Rattle.image.specs.Image.{units, fits}
use Rattle.ground.proofs.Choice.{both_true}

pub record Fitting (size : ℕ) (held : List ℕ) : Type 0 where
  pub least : 1 ≤ size
  pub most : size ≤ 1048576
  pub whole : length held ≡ units size

pub fitting : (size : ℕ) (held : List ℕ) → fits size held ≡ true → Fitting size held
unfolding fits
fitting size held e =
    let b = both_true (within 1 1048576 size) (eqb (length held) (units size)) e in
    let w = both_true (leb 1 size) (leb size 1048576) b.0 in
    record { least = leb-true 1 size w.0; most = leb-true size 1048576 w.1; whole = eqb-true (length held) (units size) b.1 }

-- It has at most 65,536 units.
pub few_units : (size : ℕ) (held : List ℕ) → fits size held ≡ true → length held ≤ 65536
few_units size held e = let f : Fitting size held = fitting size held e in omega (arith, f.most, f.whole)
