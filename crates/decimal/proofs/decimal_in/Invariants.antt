-- `decimal_in` meets its contract: the text means what its rest means after the number read so far, which is at most the limit.
use Prim.Native.Nat.{◌≤◌}
use mathlib.Core.Path.{◌≡◌}
use Rattle.decimal.specs.Decimal.{decimal_at}
use Rattle.decimal.proofs.Reading.{from}
use Rattle.decimal.proofs.decimal_in.Given as goal

abbrev pub invariant-loop-byte : goal.invariant-loop-byte
invariant-loop-byte l = (l.value ≤ l.most) × (decimal_at l.most l.text ≡ from l.most l.text l.value l.byte-index)
