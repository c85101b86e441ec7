-- `put_message`: the parts of the message, one after the other.
use mathlib.Core.Path.{ap, ◌∙◌}
use native.Mathlib.Omega.{arith}
use Rattle.refusal.specs.Answer.{written}
use Rattle.packet.specs.Packet.{held}
use Rattle.laying.proofs.Laid.{is_laid}
use Rattle.flat_measuring.proofs.Places.{places}
use Rattle.flat_writing.proofs.Message.{head_fits, options_fit, payload_fits, message_put}
use Rattle.flat_writing.proofs.put_message.Goals as goal

pub bounds-numbers-4 : goal.bounds-numbers-4
bounds-numbers-4 c = omega (arith, (places _ _ c.requires.0).head)

pub bounds-numbers-5 : goal.bounds-numbers-5
bounds-numbers-5 c = omega (arith, (places _ _ c.requires.0).head)

pub bounds-numbers-6 : goal.bounds-numbers-6
bounds-numbers-6 c = omega (arith, (places _ _ c.requires.0).head)

pub part-token-requires : goal.part-token-requires
part-token-requires c = (places _ _ c.requires.0).token

pub put_head-first-requires : goal.put_head-first-requires
put_head-first-requires c = let a = c.args in head_fits a.strict (held a.stores) a.numbers.now a.out.now c.requires.0 c.requires.1 _ c.part-token.ensures

pub put_options-next-requires : goal.put_options-next-requires
put_options-next-requires c = let a = c.args in
    let f = options_fit a.strict (held a.stores) a.numbers.now a.out.now c.requires.0 c.requires.1 _ c.part-token.ensures _ _ c.put_head-first.ensures in
    (c.requires.0, omega (arith, f.0, c.requires.2), omega (arith, f.1, c.requires.2))

pub unwrap-requires : goal.unwrap-requires
unwrap-requires c =
    let a = c.args in
    is_laid _ _ (c.put_payload.ensures.answer ∙ payload_fits a.strict (held a.stores) a.numbers.now a.out.now c.requires.0 c.requires.1 _ c.part-token.ensures _ _ c.put_head-first.ensures _ _ (rw c.requires.2 at c.put_options-next.ensures) _ c.sent_payload-payload.ensures)

pub returns : goal.returns
returns c =
    let a = c.args in
    message_put a.strict (held a.stores) a.numbers.now a.out.now c.requires.0 c.requires.1 _ c.part-token.ensures _ _ c.put_head-first.ensures _ _ (rw c.requires.2 at c.put_options-next.ensures) _ c.sent_payload-payload.ensures _ _ _ c.put_payload.ensures (ap written c.unwrap.ensures)
