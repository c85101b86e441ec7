-- `end_of`: 10 and 11 first, then the sum is held to both buffers.
use mathlib.Core.Path.{◌≡◌, refl, sym, ◌∙◌}
use mathlib.Core.Bool.{false}
use Rattle.std.specs.Prelude.{Ok}
use Rattle.std.proofs.lemmas.Result.{err_from_is_err_and}
use Rattle.judging.specs.Judge.{is_too_long, bad_packet}
use Rattle.judging.proofs.Good.{good, is_good}
use Rattle.compacting.proofs.Answers.{too_long, bad_record, full_edits, full_second, ends}
use Rattle.compacting.proofs.end_of.Goals as goal
use Rattle.compacting.proofs.end_of.Goals.{Else-too_long, In_ok-judge}

short_at : (c : Else-too_long) → is_too_long c.args.lengths ≡ false
short_at c = sym c.too_long.ensures ∙ c.if-too_long.false

good_at : (c : In_ok-judge) → bad_packet c.args.lengths c.args.packet ≡ false
good_at c = (is_good _ _ (Ok c.in_ok-judge.field-0) c.in_ok-judge.ensures _ refl).0

pub returns-then-too_long : goal.returns-then-too_long
returns-then-too_long c = too_long _ _ _ (sym c.too_long.ensures ∙ c.if-too_long.true)

pub returns-in_err-judge : goal.returns-in_err-judge
returns-in_err-judge c =
    let p = err_from_is_err_and c.from_residual.result c.from_residual.ensures.1 in
    rw (p.1, p.2) (bad_record _ _ _ (short_at (goal.at.returns-in_err-judge c).Else-too_long) _ c.in_err-judge.ensures)

pub live_length-end-requires : goal.live_length-end-requires
live_length-end-requires c = (good _ _ (good_at (goal.at.live_length-end-requires c).In_ok-judge)).count

pub returns-then-lengths-end : goal.returns-then-lengths-end
returns-then-lengths-end c = full_edits _ _ _ (short_at (goal.at.returns-then-lengths-end c).Else-too_long) (good_at (goal.at.returns-then-lengths-end c).In_ok-judge) _ c.live_length-end.ensures c.if-lengths-end.true

pub returns-then-room-end : goal.returns-then-room-end
returns-then-room-end c = full_second _ _ _ (short_at (goal.at.returns-then-room-end c).Else-too_long) (good_at (goal.at.returns-then-room-end c).In_ok-judge) _ c.live_length-end.ensures c.if-room-end.true

pub returns : goal.returns
returns c = ends _ _ _ (short_at (goal.at.returns c).Else-too_long) (good_at (goal.at.returns c).In_ok-judge) _ c.live_length-end.ensures c.if-lengths-end.false c.if-room-end.false
