-- `part_end` meets its contract: the end is as far from here as from the start (`Seeking`).
use mathlib.Core.Path.{◌≡◌, ◌∙◌}
use native.Mathlib.Omega.{arith}
use Rattle.uri_text.proofs.Tallying.{seek_found, seek_turn, seek_end}
use Rattle.uri_text.proofs.part_end.Goals as goal

pub returns-then-text-end : goal.returns-then-text-end
returns-then-text-end c = seek_found _ _ _ _ c.loop-end.invariant.1 c.loop-end-test.true c.if-text-end.true

pub loop-end-preserved : goal.loop-end-preserved
loop-end-preserved c = (omega arith, seek_turn _ _ _ _ c.loop-end.invariant.1 c.loop-end-test.true c.if-text-end.false)

pub returns : goal.returns
returns c =
    let e : c.max.result ≡ c.loop-end.end = omega (arith, c.max.ensures, c.loop-end.invariant.0) in
    e ∙ seek_end _ _ _ _ c.loop-end.invariant.1 c.loop-end-test.false
