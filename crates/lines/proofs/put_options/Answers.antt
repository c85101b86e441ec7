-- `put_options` meets its contract: once the lines of the options that are left are put, all are.
use Prim.Native.Nat.{ℕ}
use mathlib.Core.Path.{ap}
use mathlib.Core.List.{List, map}
use native.Mathlib.Omega.{arith}
use Rattle.packet.specs.Packet.{stores}
use Rattle.packet.specs.Meaning.{option_of}
use Rattle.packet.specs.declared.OptionRecord.{OptionRecord}
use Rattle.packet.proofs.Records.{left, none_left}
use Rattle.lines.specs.Lines.{option_lines}
use Rattle.placing.proofs.Puts.{putting_turn, putting_end}
use Rattle.lines.proofs.put_options.Goals as goal

-- The lines of some records.
abbrev lines : ℕ → List ℕ → List ℕ → List OptionRecord → List ℕ
lines end datagram edits rs = option_lines end (map (option_of (stores datagram edits)) rs)

pub loop-i-preserved : goal.loop-i-preserved
loop-i-preserved c =
    let a = c.args in
    let rest = left a.packet.options a.packet.count c.loop-i.i (omega arith) in (
      c.loop-i.invariant.0,
      (
        c.loop-i.invariant.1.0,
        putting_turn c.loop-i.invariant.1.1 (ap (lines a.end a.stores.datagram.now a.stores.edits.now) rest)
            (rw c.value.ensures.result_value at c.put_option-next.ensures),
      ),
    )

pub returns : goal.returns
returns c = putting_end c.loop-i.invariant.1.1 (ap (lines _ _ _) (none_left _ c.loop-i.i (omega arith)))
