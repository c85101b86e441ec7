-- `put_options` meets its contract: once the lines of the options that are left are put, all are.
use Prim.Native.Nat.{ℕ, ◌≤◌}
use mathlib.Core.Path.{◌≡◌}
use mathlib.Core.List.{List, map}
use lib.ListN.{length, drop}
use Rattle.packet.specs.Packet.{stores, records_of}
use Rattle.packet.specs.Meaning.{option_of}
use Rattle.packet.specs.declared.OptionRecord.{OptionRecord}
use Rattle.lines.specs.Lines.{option_lines}
use Rattle.placing.proofs.Puts.{Putting}
use Rattle.lines.proofs.put_options.Given as goal

-- The lines of some records.
abbrev lines : ℕ → List ℕ → List ℕ → List OptionRecord → List ℕ
lines end datagram edits rs = option_lines end (map (option_of (stores datagram edits)) rs)

abbrev pub invariant-loop-i : goal.invariant-loop-i
invariant-loop-i l =
    (l.count ≤ 128) × ((l.count ≡ length (records_of l.packet)) × Putting l.initial.out l.at (lines l.end l.stores.datagram.now l.stores.edits.now (records_of l.packet)) l.out l.next (lines l.end l.stores.datagram.now l.stores.edits.now (drop l.i (records_of l.packet))))
