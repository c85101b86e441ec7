-- `put_message`: header and token, options and payload one after the other are the layout of the message; of the options one is
-- put a turn, until none is left.
use Prim.Native.Nat.{◌≤◌}
use mathlib.Core.Path.{◌≡◌}
use lib.ListN.{length, take}
use Rattle.packet.specs.Packet.{held}
use Rattle.writing.proofs.Options.{Putting}
use Rattle.writing.proofs.put_message.Given as goal

abbrev pub invariant-loop-i : goal.invariant-loop-i
invariant-loop-i l = ((l.count ≤ 128) × (length l.options ≡ 128)) × Putting (held l.stores) (take l.count l.options) l.initial.out l.initial.next l.out l.before l.next l.i
