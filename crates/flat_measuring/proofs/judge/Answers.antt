-- `judge`: one walk over the records judges and counts them.
use Prim.Native.Nat.{◌≤◌}
use mathlib.Core.Path.{◌≡◌, refl, sym, ap, ◌∙◌}
use native.Mathlib.Omega.{arith}
use lib.ListN.{length, get_or}
use Rattle.packet.specs.Packet.{records_of}
use Rattle.judging.proofs.Judging.{start, turn, no_fall, no_value, whole}
use Rattle.unflat.specs.Unflat.{bad_numbers, packet_in}
use Rattle.unflat.proofs.Unflat.{good_more}
use Rattle.flat_measuring.proofs.Records.{used, here}
use Rattle.flat_measuring.proofs.Judged.{long_enough, short_bad, frame_bad, start_bad, next_bad, next_good, sound, counts}
use Rattle.flat_measuring.proofs.judge.Goals as goal

pub returns-then-cut_short : goal.returns-then-cut_short
returns-then-cut_short c = short_bad _ _ (sym c.if-cut_short.ensures)

pub bounds-numbers-10 : goal.bounds-numbers-10
bounds-numbers-10 c = omega (arith, long_enough _ (sym c.if-cut_short.ensures))

pub loop-i-init : goal.loop-i-init
loop-i-init c = let e = long_enough _ (sym c.if-cut_short.ensures) in ((e.1, e.2, refl), refl, start _ _)

pub returns-then-bad_next : goal.returns-then-bad_next
returns-then-bad_next c = next_bad _ _ _ _ _ c.loop-i.invariant.2 c.loop-i-test.true (sym c.if-bad_next.ensures)

pub size_after-size-requires : goal.size_after-size-requires
size_after-size-requires c = (omega arith, (next_good _ _ _ _ (sym c.if-bad_next.ensures)).1.up)

pub overflow_add-size : goal.overflow_add-size
overflow_add-size c =
    let l = c.args.numbers.now in
    let f = next_good _ _ _ _ (sym c.if-bad_next.ensures) in
    let t = turn _ _ _ _ _ c.loop-i.invariant.2 _ (here l _ c.loop-i-test.true) f.1 (omega (arith, used l)) in
    omega (arith, t.small, c.size_after-size.ensures)

pub loop-i-preserved : goal.loop-i-preserved
loop-i-preserved c =
    let k = c.loop-i in
    let l = c.args.numbers.now in
    let f = next_good _ _ _ _ (sym c.if-bad_next.ensures) in (
      k.invariant.0,
      good_more _ k.i k.invariant.1 f.0,
      rw c.size_after-size.ensures (turn _ _ _ _ _ k.invariant.2 _ (here l _ c.loop-i-test.true) f.1 (omega (arith, used l))),
    )

pub returns-then-bad_frame : goal.returns-then-bad_frame
returns-then-bad_frame c = frame_bad _ _ (sym c.if-bad_frame.ensures)

pub returns-then-bad_start : goal.returns-then-bad_start
returns-then-bad_start c = start_bad _ _ (sym c.if-bad_start.ensures)

pub returns : goal.returns
returns c =
    let k = c.loop-i in
    let l = c.args.numbers.now in
    let past : length (records_of (packet_in l)) ≤ k.i = omega (arith, used l) in
    let all : k.i ≡ get_or l 10 0 = omega arith in
    counts _ _ _
    (sound _ _ (sym c.if-bad_frame.ensures) (sym c.if-bad_start.ensures) (ap (bad_numbers l) (sym all) ∙ k.invariant.1) (no_fall _ _ _ _ _ k.invariant.2 past) (no_value _ _ _ _ _ k.invariant.2 past))
    (whole _ _ _ _ _ k.invariant.2 past)
