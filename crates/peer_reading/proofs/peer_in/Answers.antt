-- `peer_in`: in brackets, or with dots.
use mathlib.Core.Path.{ap, sym, ◌∙◌}
use Rattle.peer_reading.specs.Reading.{grouped_peer}
use Rattle.peer_reading.proofs.Numbered.{rest_is}
use Rattle.peer_reading.proofs.Putting.{same, peer_empty, peer_grouped, peer_dotted}
use Rattle.peer_reading.proofs.peer_in.Goals as goal

pub returns-then-text-eq0 : goal.returns-then-text-eq0
returns-then-text-eq0 c = same _ _ c.dotted_peer.result (peer_empty _ c.if-text-eq0.true) c.dotted_peer.ensures

pub returns-then-text-eq91 : goal.returns-then-text-eq91
returns-then-text-eq91 c = same _ _ c.grouped_peer.result (peer_grouped c.args.text.now c.if-text-eq91.true ∙ ap grouped_peer (sym (rest_is c.args.text.now 1))) c.grouped_peer.ensures

pub returns : goal.returns
returns c = same _ _ c.dotted_peer-2.result (peer_dotted _ c.if-text-eq91.false) c.dotted_peer-2.ensures
