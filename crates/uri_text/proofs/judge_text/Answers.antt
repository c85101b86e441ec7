-- `judge_text` meets its contract: the path, then the query after it.
use Prim.Native.Nat.{◌+◌}
use mathlib.Core.Path.{sym, ap, ◌∙◌}
use native.Mathlib.Omega.{arith}
use lib.ListN.{length, length-drop}
use Rattle.std.proofs.lemmas.Result.{err_from_is_err_and}
use Rattle.uri_text.specs.Tally.{tallied}
use Rattle.uri_text.proofs.Tallying.{rest_all, mark_inside, text_bad, few_segments, text_turn, text_end}
use Rattle.uri_text.proofs.judge_text.Goals as goal

pub slice_bounds-judge_path-end : goal.slice_bounds-judge_path-end
slice_bounds-judge_path-end c = let h = mark_inside c.args.text.now _ c.part_end-mark.ensures in omega (arith, h)

pub returns-in_err-path : goal.returns-in_err-path
returns-in_err-path c =
    let p = err_from_is_err_and c.from_residual.result c.from_residual.ensures.1 in
    rw (p.1, p.2)
    (text_bad c.args.text.now _ c.part_end-mark.ensures c.in_err-path.field-0.0 (sym (ap tallied c.in_err-path.was) ∙ c.judge_path.ensures))

pub returns-then-mark-text : goal.returns-then-mark-text
returns-then-mark-text c = text_end c.args.text.now _ c.part_end-mark.ensures _ _ (sym (ap tallied c.in_ok-path.was) ∙ c.judge_path.ensures) c.if-mark-text.true

pub judge_parts-requires : goal.judge_parts-requires
judge_parts-requires c =
    let h = mark_inside c.args.text.now _ c.part_end-mark.ensures in
    let k = few_segments c.args.text.now _ c.part_end-mark.ensures _ _ (sym (ap tallied c.in_ok-path.was) ∙ c.judge_path.ensures) in
    let m = c.part_end-mark.result + 1 in
    let n = ap length (rest_all m c.args.text.now) ∙ length-drop m c.args.text.now in
    (omega (arith, k.0, n, h, c.if-mark-text.false), omega (arith, k.1, n, h, c.if-mark-text.false))

pub returns : goal.returns
returns c = rw (rest_all _ c.args.text.now) at c.judge_parts.ensures ∙ text_turn c.args.text.now _ c.part_end-mark.ensures _ _ (sym (ap tallied c.in_ok-path.was) ∙ c.judge_path.ensures)
