-- `Packet::count_of` counts the records of the number.
use Rattle.std.proofs.lemmas.Grind.{common_steps}
use native.Mathlib.Omega.{arith}
use Rattle.packet.specs.Packet.{records_of}
use Rattle.packet.proofs.Records.{counted}
use Rattle.packet.proofs.Packet.count_of.Goals as goal

pub returns : goal.returns
returns c = rw (counted c.args.number (records_of c.args.self)) (grind (arith, common_steps))
