-- The live bytes of a good packet: as many as the sum of the lengths.
use mathlib.Core.Path.{◌≡◌, refl}
use mathlib.Core.Bool.{false}
use mathlib.Core.List.{List, [], ◌∷◌}
use native.Mathlib.Omega.{arith}
use lib.ListN.{length, length-append}
use Rattle.ground.proofs.Choice.{neither}
use Rattle.packet.specs.Packet.{Stores, records_of}
use Rattle.packet.specs.declared.Packet.{Packet}
use Rattle.packet.specs.declared.OptionRecord.{OptionRecord}
use Rattle.judging.specs.Judge.{lengths_of, bad_value, bad_values}
use Rattle.judging.proofs.Good.{Good}
use Rattle.judging.proofs.Ranges.{range_exactly, value_exactly}
use Rattle.compacting.specs.Compacting.{values_of, live_bytes, values_length, live_length}

-- Good values are as many bytes as their lengths are together.
pub values_exactly : (s : Stores) (rs : List OptionRecord) → bad_values (lengths_of s) rs ≡ false → length (values_of s rs) ≡ values_length rs
values_exactly s [] e = refl
values_exactly s (r ∷ rs) e =
    let both = neither (bad_value (lengths_of s) r) (bad_values (lengths_of s) rs) e in
    rw (length-append, value_exactly s r both.0, values_exactly s rs both.1)

pub live_length_lem : (s : Stores) (p : Packet) → Good (lengths_of s) p → length (live_bytes s p) ≡ live_length p
live_length_lem s p g =
    simp length-append (omega (arith, range_exactly s p.token g.token, values_exactly s (records_of p) g.values, range_exactly s p.payload g.payload))
