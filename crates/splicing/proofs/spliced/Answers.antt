-- `spliced` judges the homes, keeps its places within the records in use, and judges the room before `filled` makes the splice.
use Prim.Native.Nat.{ℕ, ◌+◌, ◌-◌, ◌/◌, min}
use mathlib.Core.Path.{◌≡◌, sym, ◌∙◌, ap}
use mathlib.Core.Bool.{false}
use mathlib.Core.List.{List, map}
use native.Mathlib.Omega.{arith}
use lib.ListN.{length}
use Rattle.refusal.specs.Answer.{Answer, given, beside}
use Rattle.packet.specs.Packet.{records_of}
use Rattle.packet.specs.declared.Packet.{Packet}
use Rattle.packet.specs.declared.OptionRecord.{OptionRecord}
use Rattle.packet.specs.declared.Range.{Range}
use Rattle.splicing.specs.Splice.{roomy, record_of, ranges_in, homeless, homed, spliced}
use Rattle.splicing.proofs.Homes.{at_no_home, at_home}
use Rattle.splicing.proofs.Places.{whole_long, spliced_within, no_room, room}
use Rattle.splicing.proofs.spliced.Goals as goal

abbrev edit : Packet → ℕ → ℕ → ℕ → List Range → Answer Packet
edit p low high number ranges = roomy p (spliced low high (map (record_of number) ranges) (records_of p))

abbrev whole : Packet → ℕ → ℕ → ℕ → List ℕ → List OptionRecord
whole p number from to l = spliced from to (map (record_of number) (ranges_in l)) (records_of p)

-- Places within the records in use: the splice is as long as is counted, and the one that is asked for.
module _ (p : Packet) (number low high : ℕ) (l : List ℕ) (used from to : ℕ) (u : used ≡ length (records_of p)) (f : from ≡ min low used) (t : to ≡ min high used) where
  long : length (whole p number from to l) ≡ from + length l / 3 + (used - to)
  long = whole_long p number from to l (omega arith) ∙ omega arith

  as_asked : homeless l ≡ false → roomy p (whole p number from to l) ≡ homed l (edit p low high number)
  as_asked e =
      ap (roomy p) (spliced_within (map (record_of number) (ranges_in l)) (records_of p) used low high from to u f t)
      ∙ at_home l (edit p low high number) e

pub returns-then-homeless : goal.returns-then-homeless
returns-then-homeless c =
    let a = c.args in
    ap (beside a.packet) (at_no_home a.ranges.now (edit a.packet a.low a.high a.number) (sym c.if-homeless.ensures))

pub returns-then-count-gt-MAX_OPTIONS : goal.returns-then-count-gt-MAX_OPTIONS
returns-then-count-gt-MAX_OPTIONS c =
    let a = c.args in
    let n = long a.packet a.number a.low a.high a.ranges.now _ _ _ c.option_count-used.ensures c.min-from.ensures c.min-to.ensures in
    let e = as_asked a.packet a.number a.low a.high a.ranges.now _ _ _ c.option_count-used.ensures c.min-from.ensures c.min-to.ensures (sym c.if-homeless.ensures) in
    ap (beside a.packet) (no_room a.packet _ (omega (arith, n, c.if-count-gt-MAX_OPTIONS.true)) ∙ e)

pub returns : goal.returns
returns c =
    let a = c.args in
    let n = long a.packet a.number a.low a.high a.ranges.now _ _ _ c.option_count-used.ensures c.min-from.ensures c.min-to.ensures in
    let e = as_asked a.packet a.number a.low a.high a.ranges.now _ _ _ c.option_count-used.ensures c.min-from.ensures c.min-to.ensures (sym c.if-homeless.ensures) in
    ap (λ (q : Packet). beside a.packet (given q)) c.filled.ensures
    ∙ ap (beside a.packet) (room a.packet _ (omega (arith, n, c.if-count-gt-MAX_OPTIONS.false)) ∙ e)
