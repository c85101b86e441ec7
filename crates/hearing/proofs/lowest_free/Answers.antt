-- `lowest_free`: a walk over the places; the lowest free one from here on is the lowest of all.
use Prim.Native.Nat.{◌+◌, ◌*◌}
use mathlib.Core.Path.{◌≡◌, sym, ◌∙◌}
use native.Mathlib.Omega.{arith}
use Rattle.hearing.proofs.Places.{low_found, low_turn, low_end}
use Rattle.hearing.proofs.lowest_free.Goals as goal

pub returns-then-is_free : goal.returns-then-is_free
returns-then-is_free c = low_found _ _ _ c.loop-place.invariant (omega arith) (sym c.if-is_free.true ∙ c.is_free.ensures)

pub loop-place-preserved : goal.loop-place-preserved
loop-place-preserved c =
    let n : (c.loop-place.place + 1) * 25 ≡ c.loop-place.place * 25 + 25 = omega arith in
    rw n (low_turn _ _ _ c.loop-place.invariant (omega arith) (sym c.if-is_free.false ∙ c.is_free.ensures))

pub returns : goal.returns
returns c = low_end _ _ _ c.loop-place.invariant (omega arith)
