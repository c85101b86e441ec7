-- `put_target` meets its contract: 6, then 12, then what is put.
use native.Mathlib.Omega.{arith}
use Rattle.target_reading.proofs.Answers.{tally_good, refusal_shown, reply_many, reply_room, reply_passes, passes_shown}
use Rattle.target_reading.proofs.put_target.Goals as goal

pub returns-then-tally-gt-MAX_OPTIONS : goal.returns-then-tally-gt-MAX_OPTIONS
returns-then-tally-gt-MAX_OPTIONS c = refusal_shown _ _ _ _ (reply_many _ c.args.start c.args.text.now c.requires.short _ _ (tally_good _ _ _ c.requires.tallied) c.if-tally-gt-MAX_OPTIONS.true)

pub returns-then-edits-at : goal.returns-then-edits-at
returns-then-edits-at c = refusal_shown _ _ _ _ (reply_room _ c.args.start c.args.text.now c.requires.short _ _ (tally_good _ _ _ c.requires.tallied) c.if-tally-gt-MAX_OPTIONS.false (omega (arith, c.if-edits-at.true)))

pub returns-then-edits-at-2 : goal.returns-then-edits-at-2
returns-then-edits-at-2 c = refusal_shown _ _ _ _ (reply_room _ c.args.start c.args.text.now c.requires.short _ _ (tally_good _ _ _ c.requires.tallied) c.if-tally-gt-MAX_OPTIONS.false (omega (arith, c.if-edits-at-2.true, c.if-edits-at.false)))

pub put_both-requires : goal.put_both-requires
put_both-requires c =
    let t = (tally_good _ _ _ c.requires.tallied) in
    record {
      good = t.good;
      few = omega (arith, t.count, c.if-tally-gt-MAX_OPTIONS.false);
      room = omega (arith, t.bytes, c.if-edits-at.false, c.if-edits-at-2.false);
      short = c.requires.short;
    }

pub returns : goal.returns
returns c =
    passes_shown _ c.args.start c.args.text.now _ _ _ _ (reply_passes _ c.args.start c.args.text.now c.requires.short _ _ (tally_good _ _ _ c.requires.tallied) c.if-tally-gt-MAX_OPTIONS.false (omega (arith, c.if-edits-at.false, c.if-edits-at-2.false))) c.put_both.ensures c.packet_with.ensures
