-- `good_packet`: the records passed stand in the array's first places.
use mathlib.Core.Path.{◌≡◌, refl, ap, ◌∙◌}
use native.Mathlib.Omega.{arith}
use lib.ListN.{get_or}
use Rattle.unflat.specs.Unflat.{packet_in}
use Rattle.unflat.proofs.Unflat.{good, small, good_record, up_to, one_more}
use Rattle.unflat.proofs.good_packet.Goals as goal

pub header_in-header-requires : goal.header_in-header-requires
header_in-header-requires c = let g = good _ c.requires in (g.head, g.fields)

pub range_in-token-requires : goal.range_in-token-requires
range_in-token-requires c = omega (arith, (good _ c.requires).head)

pub range_in-payload-requires : goal.range_in-payload-requires
range_in-payload-requires c = omega (arith, (good _ c.requires).head)

pub bounds-numbers-10 : goal.bounds-numbers-10
bounds-numbers-10 c = omega (arith, (good _ c.requires).head)

pub loop-i-init : goal.loop-i-init
loop-i-init c = ((small _ (good _ c.requires).fields).count, refl)

pub record_in-requires : goal.record_in-requires
record_in-requires c =
    let g = good _ c.requires in
    (omega (arith, g.records, c.loop-i-test.true), good_record _ _ _ g.numbers c.loop-i-test.true)

pub loop-i-preserved : goal.loop-i-preserved
loop-i-preserved c =
    (c.loop-i.invariant.0, rw c.record_in.ensures (one_more _ _ c.loop-i.i (omega arith) c.loop-i.invariant.1))

pub returns : goal.returns
unfolding packet_in
returns c =
    let l = c.args.numbers.now in
    let past : c.loop-i.i ≡ get_or l 10 0 = omega arith in
    let options = c.loop-i.invariant.1 ∙ ap (up_to l) past in
    λ j.
    record {
      header = c.header_in-header.ensures j;
      token = c.range_in-token.ensures j;
      count = get_or l 10 0;
      options = options j;
      payload = c.range_in-payload.ensures j;
    }
