-- `put_parts` meets its contract: what is owed is what the parts from here on say (`Filling`).
use native.Mathlib.Omega.{arith}
use Rattle.target_reading.proofs.Placing.{end_inside, places_here, count_here, next_inside, filling_turn, filling_end, filled_all}
use Rattle.target_reading.proofs.put_parts.Goals as goal

pub slice_bounds-put_part-end : goal.slice_bounds-put_part-end
slice_bounds-put_part-end c = let h = end_inside _ _ _ _ _ _ _ _ _ _ _ _ c.loop-kind.invariant.1 _ c.part_end-end.ensures in omega (arith, h)

pub put_part-next-requires : goal.put_part-next-requires
put_part-next-requires c = places_here _ _ _ _ _ _ _ _ _ _ _ _ c.loop-kind.invariant.1 _ c.part_end-end.ensures

pub overflow_cast-options-in-loop-kind : goal.overflow_cast-options-in-loop-kind
overflow_cast-options-in-loop-kind c = let k = next_inside _ _ _ _ _ _ _ _ _ _ _ _ c.loop-kind.invariant.1 _ c.part_end-end.ensures _ _ c.put_part-next.ensures in omega (arith, k.1, c.loop-kind.invariant.1.owing.kept, c.loop-kind.invariant.0)

pub bounds-options-count : goal.bounds-options-count
bounds-options-count c = let k = count_here _ _ _ _ _ _ _ _ _ _ _ _ c.loop-kind.invariant.1 _ c.part_end-end.ensures in omega (arith, k, c.loop-kind.invariant.1.owing.array)

pub returns-then-end-text : goal.returns-then-end-text
returns-then-end-text c = filled_all _ _ _ _ _ _ _ _ _ _ (filling_end _ _ _ _ _ _ _ _ _ _ _ _ c.loop-kind.invariant.1 _ c.part_end-end.ensures _ _ c.put_part-next.ensures c.if-end-text.true)

pub loop-kind-preserved : goal.loop-kind-preserved
loop-kind-preserved c = (c.loop-kind.invariant.0, filling_turn _ _ _ _ _ _ _ _ _ _ _ _ c.loop-kind.invariant.1 _ c.part_end-end.ensures _ _ c.put_part-next.ensures c.if-end-text.false)
