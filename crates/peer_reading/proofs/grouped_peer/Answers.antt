-- `grouped_peer`: the address up to the bracket, and the port after it.
use mathlib.Core.Path.{sym, ap, ◌∙◌}
use Rattle.decimal.specs.Decimal.{decimal_of}
use Rattle.peer_reading.specs.Reading.{port_in}
use Rattle.peer_reading.proofs.Numbered.{rest_is}
use Rattle.peer_reading.proofs.Putting.{same, refuses, unclosed, portless, ported}
use Rattle.peer_reading.proofs.grouped_peer.Goals as goal

pub returns-then-text-end : goal.returns-then-text-end
returns-then-text-end c = refuses _ (unclosed c.args.text.now _ c.part_end-end.ensures c.if-text-end.true)

pub returns-in_default : goal.returns-in_default
returns-in_default c =
    refuses _
    (portless c.args.text.now _ c.part_end-end.ensures c.if-text-end.false
    (sym (ap decimal_of c.in_default.is) ∙ (c.port_in.ensures ∙ ap port_in (rest_is c.args.text.now _))))

pub returns : goal.returns
returns c =
    same _ _ c.peer_at.result
    (ported c.args.text.now _ c.part_end-end.ensures c.if-text-end.false _
    (sym (ap decimal_of c.in-Some.is) ∙ (c.port_in.ensures ∙ ap port_in (rest_is c.args.text.now _)))) c.peer_at.ensures
