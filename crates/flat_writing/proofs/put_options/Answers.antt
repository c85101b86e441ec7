-- `put_options`: what is left is put, and then all is.
use mathlib.Core.Path.{refl}
use native.Mathlib.Omega.{arith}
use Rattle.packet.specs.Packet.{records_of}
use Rattle.packet.proofs.Records.{none_left}
use Rattle.judging.proofs.Good.{good}
use Rattle.unflat.specs.Unflat.{packet_in}
use Rattle.flat_measuring.proofs.Records.{used, here}
use Rattle.flat_measuring.proofs.Places.{places, number_held}
use Rattle.flat_writing.proofs.Options.{start, rises, option_fits, turn, all}
use Rattle.flat_writing.proofs.put_options.Goals as goal

pub bounds-numbers-10 : goal.bounds-numbers-10
bounds-numbers-10 c = omega (arith, (places _ _ c.requires.0).head)

pub loop-i-init : goal.loop-i-init
loop-i-init c =
    let p = places _ _ c.requires.0 in
    let g = good _ _ c.requires.0.packet in
    ((p.count, p.records, refl), start _ _ _ _ _ c.requires.1 c.requires.2 g.ordered g.values)

pub overflow_sub-delta : goal.overflow_sub-delta
overflow_sub-delta c =
    rises _ _ _ _ _ c.requires.1 c.requires.2 _ _ _ _ c.loop-i.invariant.1 _ (here _ _ c.loop-i-test.true)

pub put_option_in-next-requires : goal.put_option_in-next-requires
put_option_in-next-requires c =
    let l = c.loop-i in
    let t = c.loop-i-test.true in
    let f = option_fits _ _ _ _ _ c.requires.1 c.requires.2 _ _ _ _ l.invariant.1 _ (here _ _ t) _ c.store_of-store.ensures in
    (omega (arith, number_held _ _ c.requires.0 l.i t), f.0, f.1, f.2, omega (arith, l.invariant.1.kept, c.requires.2))

pub loop-i-preserved : goal.loop-i-preserved
loop-i-preserved c =
    let l = c.loop-i in
    let t = c.loop-i-test.true in
    (l.invariant.0, turn _ _ _ _ _ c.requires.1 c.requires.2 _ _ _ _ l.invariant.1 _ (here _ _ t) _ c.store_of-store.ensures _ _ c.put_option_in-next.ensures)

pub returns : goal.returns
returns c =
    let l = c.args.numbers.now in
    all _ _ _ _ _ c.requires.1 c.requires.2 _ _ _ _ c.loop-i.invariant.1 (none_left (records_of (packet_in l)) c.loop-i.i (omega (arith, used l)))
