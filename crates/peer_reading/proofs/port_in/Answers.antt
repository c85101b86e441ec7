-- `port_in`: each return by its tests.
use mathlib.Core.Path.{ap, ◌∙◌}
use Rattle.peer_reading.specs.Reading.{numeral}
use Rattle.peer_reading.proofs.Numbered.{rest_is, port_none, port_other, port_is}
use Rattle.peer_reading.proofs.port_in.Goals as goal

pub returns-then-text-eq0 : goal.returns-then-text-eq0
returns-then-text-eq0 c = port_none _ c.if-text-eq0.true

pub returns-then-text-ne58 : goal.returns-then-text-ne58
returns-then-text-ne58 c = port_other _ c.if-text-ne58.true

pub returns : goal.returns
returns c = port_is _ _ c.if-text-ne58.false (c.number_in.ensures ∙ ap (numeral 65535) (rest_is c.args.text.now 1))
