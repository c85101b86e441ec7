-- `is_known`: a walk over the places; what is left of them decides.
use Prim.Native.Nat.{◌+◌, ◌*◌}
use mathlib.Core.Path.{◌≡◌, sym, ◌∙◌}
use native.Mathlib.Omega.{arith}
use Rattle.hearing.proofs.Places.{known_found, known_turn, known_end}
use Rattle.hearing.proofs.is_known.Goals as goal

pub returns-then-is_same : goal.returns-then-is_same
returns-then-is_same c = known_found _ _ _ _ c.loop-place.invariant (omega arith) (sym c.if-is_same.true ∙ c.is_same.ensures)

pub loop-place-preserved : goal.loop-place-preserved
loop-place-preserved c =
    let n : (c.loop-place.place + 1) * 25 ≡ c.loop-place.place * 25 + 25 = omega arith in
    rw n (known_turn _ _ _ _ c.loop-place.invariant (omega arith) (sym c.if-is_same.false ∙ c.is_same.ensures))

pub returns : goal.returns
returns c = known_end _ _ _ _ c.loop-place.invariant (omega arith)
