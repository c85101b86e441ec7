-- `is_known`: a walk over the places; what is left of them decides.
use Prim.Native.Nat.{◌*◌}
use mathlib.Core.List.{List}
use Rattle.rfc.specs.Duplicates.{stands}
use Rattle.hearing.specs.Table.{Place, entries}
use Rattle.hearing.specs.Bytes.{places}
use Rattle.hearing.proofs.Places.{Left}
use Rattle.hearing.proofs.is_known.Given as goal

abbrev pub invariant-loop-place : goal.invariant-loop-place
invariant-loop-place l = Left (λ (qs : List Place). stands l.message (entries qs)) l.table (l.place * 25) (stands l.message (entries (places l.table)))
