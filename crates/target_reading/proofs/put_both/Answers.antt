-- `put_both` meets its contract: the path, then the query after it.
use native.Mathlib.Omega.{arith}
use Rattle.packet.specs.Packet.{new_packet}
use Rattle.uri_text.proofs.Tallying.{mark_inside}
use Rattle.target_reading.proofs.Answers.{path_placeable, query_placeable, both_filled}
use Rattle.target_reading.proofs.put_both.Goals as goal

pub between-requires : goal.between-requires
between-requires c = mark_inside c.args.text.now _ c.part_end-mark.ensures

pub put_parts-path-requires : goal.put_parts-path-requires
unfolding new_packet
put_parts-path-requires c = path_placeable c.args.text.now c.args.edits.now c.args.at c.requires _ c.part_end-mark.ensures _ c.between.ensures

pub overflow_add-mark : goal.overflow_add-mark
overflow_add-mark c = let h = mark_inside c.args.text.now _ c.part_end-mark.ensures in omega (arith, h)

pub put_parts-requires : goal.put_parts-requires
unfolding new_packet
put_parts-requires c = query_placeable c.args.text.now c.args.edits.now c.args.at c.requires _ c.part_end-mark.ensures _ c.between.ensures _ _ c.put_parts-path.ensures _ c.between-2.ensures

pub returns : goal.returns
unfolding new_packet
returns c = both_filled c.args.text.now c.args.edits.now c.args.at c.requires _ c.part_end-mark.ensures _ c.between.ensures _ _ c.put_parts-path.ensures _ c.between-2.ensures _ _ c.put_parts.ensures
