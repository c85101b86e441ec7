-- `Packet::new` is the new packet, its header being the new one.
use Rattle.packet.specs.Packet.{new_packet}
use Rattle.packet.proofs.Packet.new.Goals as goal

pub returns : goal.returns
unfolding new_packet
returns c = rw c.new.ensures
