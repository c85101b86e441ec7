-- `judge`: one walk over the records judges and counts them.
use Prim.Native.Nat.{ℕ, ◌+◌, ◌<◌, ◌≤◌}
use mathlib.Core.Path.{◌≡◌, sym, ◌∙◌}
use mathlib.Core.Bool.{Bool, false}
use mathlib.Core.List.{List, ◌∷◌}
use native.Mathlib.Numerals.{add-one}
use native.Mathlib.Omega.{arith}
use lib.Dec.{ltb}
use lib.ListN.{length, drop, get_or, length-take}
use lib.Seq.{drop-cons}
use borrow.Author.Tests.{lt-ltb, le-ltb}
use Rattle.std.specs.Prelude.{Ok}
use Rattle.ground.specs.Choice.{either}
use Rattle.packet.specs.Limits.{max_options}
use Rattle.packet.specs.Packet.{none, records_of}
use Rattle.packet.specs.declared.OptionRecord.{OptionRecord}
use Rattle.packet.specs.declared.Packet.{Packet}
use Rattle.judging.specs.Judge.{bad_value, bad_ranges, bad_packet, option_size, judged, judging}
use Rattle.judging.specs.declared.Lengths.{Lengths}
use Rattle.judging.proofs.Judging.{Judging, start, follows, turn, finds, no_fall, no_value, whole, bad_ranges_lem, bad_records, judged_bad, judged_good}
use Rattle.judging.proofs.judge.Goals as goal

ends : (lengths : Lengths) (p : Packet) → p.header.version ≤ 3 → p.count ≤ max_options
    → bad_ranges lengths p.token p.payload ≡ false → (before size i : ℕ) → Judging lengths (records_of p) before size i
    → length (records_of p) ≤ i → judged (Ok size) ≡ judging lengths p
unfolding bad_packet
ends lengths p version few ranges before size i w past =
    judged_good _ _ _
    (rw (le-ltb _ _ version, le-ltb _ _ few, no_fall _ _ _ _ _ w past, ranges, no_value _ _ _ _ _ w past))
    (whole _ _ _ _ _ w past)

-- A record begins those that are left at its index.
here : (rs : List OptionRecord) (i : ℕ) → i < length rs → drop i rs ≡ get_or rs i none ∷ drop (i + 1) rs
here rs i h = rw (add-one, drop-cons rs i none h)

again : (lengths : Lengths) (rs : List OptionRecord) (before size i t : ℕ) (bad : Bool) → Judging lengths rs before size i → i < length rs
    → bad ≡ either (ltb (get_or rs i none).number before) (bad_value lengths (get_or rs i none)) → bad ≡ false
    → t ≡ option_size before (get_or rs i none)
    → Judging lengths rs (get_or rs i none).number (size + t) (i + 1)
again lengths rs before size i t bad w h b e s = rw s (turn _ _ _ _ _ w _ (here rs i h) (follows _ _ _ (sym b ∙ e)) h)

pub returns-then-packet-gt3 : goal.returns-then-packet-gt3
unfolding bad_packet
returns-then-packet-gt3 c = judged_bad _ _ (rw (lt-ltb _ _ c.if-packet-gt3.true))

pub returns-then-count-gt-MAX_OPTIONS : goal.returns-then-count-gt-MAX_OPTIONS
unfolding bad_packet
returns-then-count-gt-MAX_OPTIONS c = judged_bad _ _ (rw (le-ltb _ _ c.if-packet-gt3.false, lt-ltb _ _ c.if-count-gt-MAX_OPTIONS.true))

pub returns-then-bad_ranges : goal.returns-then-bad_ranges
returns-then-bad_ranges c = judged_bad _ _ (bad_ranges_lem _ _ (sym c.bad_ranges.ensures ∙ c.if-bad_ranges.true))

pub returns-then-count-eq0 : goal.returns-then-count-eq0
returns-then-count-eq0 c =
    let p = c.args.packet in
    ends _ p c.if-packet-gt3.false c.if-count-gt-MAX_OPTIONS.false (sym c.bad_ranges.ensures ∙ c.if-bad_ranges.false)
    _ _ _ (start _ _) (omega (arith, length-take p.count p.options))

pub returns-then-bad_record : goal.returns-then-bad_record
returns-then-bad_record c =
    let rs = records_of c.args.packet in
    judged_bad _ _ (bad_records _ _ (finds _ _ _ _ _ c.loop-option.invariant _ (here rs c.loop-option.option-index (omega arith)) (sym c.bad_record.ensures ∙ c.if-bad_record.true)))

pub overflow_add-size : goal.overflow_add-size
overflow_add-size c =
    let p = c.args.packet in
    let more = again c.args.lengths (records_of p) _ _ _ _ _ c.loop-option.invariant (omega arith) c.bad_record.ensures c.if-bad_record.false c.size_after-size.ensures in
    omega (arith, more.small, length-take p.count p.options)

pub loop-option-preserved : goal.loop-option-preserved
loop-option-preserved c =
    again c.args.lengths (records_of c.args.packet) _ _ _ _ _ c.loop-option.invariant (omega arith) c.bad_record.ensures c.if-bad_record.false c.size_after-size.ensures

pub returns : goal.returns
returns c =
    ends _ c.args.packet c.if-packet-gt3.false c.if-count-gt-MAX_OPTIONS.false (sym c.bad_ranges.ensures ∙ c.if-bad_ranges.false)
    _ _ _ c.loop-option.invariant (omega arith)
