-- `text_length` meets its contract: what is counted and the text of what is left are the whole (`Counting`).
use Prim.Native.Nat.{◌≤◌}
use mathlib.Core.Path.{◌≡◌}
use lib.ListN.{length, take}
use Rattle.packet.specs.Limits.{max_options}
use Rattle.packet.specs.Packet.{held}
use Rattle.percent.specs.Step.{kind_of}
use Rattle.target_writing.proofs.Texts.{Counting}
use Rattle.target_writing.proofs.text_length.Given as goal

abbrev pub invariant-loop-i : goal.invariant-loop-i
invariant-loop-i l = (length l.options ≡ max_options) × ((l.count ≤ max_options) × Counting (held l.stores) (kind_of l.kind) l.number (take l.count l.options) l.total l.i)
