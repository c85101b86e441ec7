-- `lowest_free`: a walk over the places; the lowest free one from here on is the lowest of all.
use Prim.Native.Nat.{◌+◌, ◌*◌}
use mathlib.Core.List.{List}
use Rattle.hearing.specs.Table.{Place, lowest}
use Rattle.hearing.specs.Bytes.{places}
use Rattle.hearing.proofs.Places.{Left}
use Rattle.hearing.proofs.lowest_free.Given as goal

abbrev pub invariant-loop-place : goal.invariant-loop-place
invariant-loop-place l = Left (λ (qs : List Place). l.place * 25 + lowest l.time qs * 25) l.table (l.place * 25) (lowest l.time (places l.table) * 25)
