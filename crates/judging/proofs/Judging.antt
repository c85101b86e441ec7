-- The walk over the records that judges and counts them: what is known before each record, and how a turn goes.
use Prim.Native.Nat.{ℕ, ◌+◌, ◌*◌, ◌<◌, ◌≤◌}
use mathlib.Core.Path.{◌≡◌, refl, sym, ap, ◌∙◌}
use mathlib.Core.Bool.{Bool, true, false}
use mathlib.Core.List.{List, ◌∷◌}
use native.Mathlib.Nat.{add-zero, zero-add, add_assoc}
use native.Mathlib.Omega.{arith}
use lib.ListN.{length, drop, drop_of_length-le}
use lib.Dec.{ltb}
use borrow.Author.Tests.{ltb-false}
use Rattle.ground.specs.Choice.{either}
use Rattle.ground.proofs.Choice.{either_right, neither}
use Rattle.packet.specs.Limits.{max_options, max_value}
use Rattle.packet.specs.Packet.{records_of}
use Rattle.packet.specs.declared.Packet.{Packet}
use Rattle.packet.specs.declared.OptionRecord.{OptionRecord}
use Rattle.judging.specs.Judge.{falling, misordered, bad_value, bad_values, bad_ranges, bad_packet, option_size, options_size, judged, judging}
use Rattle.judging.specs.declared.Lengths.{Lengths}
use Rattle.std.specs.Prelude.{Ok, Err}
use Rattle.refusal.specs.declared.Refusal.TheVariants.{BadRecord}
use Rattle.judging.proofs.Order.{Ordered, ordered_none, ordered_more, sound}
use Rattle.judging.proofs.Good.{option_small, value_length}

-- One bad thing makes the packet bad, whatever the rest is.
module _ (lengths : Lengths) (p : Packet) where
  pub bad_ranges_lem : bad_ranges lengths p.token p.payload ≡ true → bad_packet lengths p ≡ true
  unfolding bad_packet
  bad_ranges_lem e = either_right (ltb 3 p.header.version) _ (either_right (misordered p) _ (rw e))

  pub bad_records : either (falling 0 (records_of p)) (bad_values lengths (records_of p)) ≡ true → bad_packet lengths p ≡ true
  unfolding bad_packet
  bad_records e =
      either_right (ltb 3 p.header.version) _
      (go (ltb max_options p.count) (falling 0 (records_of p)) (bad_ranges lengths p.token p.payload) (bad_values lengths (records_of p)) e)
    where
      go : (a b c d : Bool) → either b d ≡ true → either (either a b) (either c d) ≡ true
      go true b c d t = refl
      go false true c d t = refl
      go false false c d t = either_right c d t

  -- The answer from the test.
  pub judged_bad : bad_packet lengths p ≡ true → judged (Err BadRecord) ≡ judging lengths p
  unfolding judging
  judged_bad e = rw e

  pub judged_good : (size : ℕ) → bad_packet lengths p ≡ false → size ≡ options_size 0 (records_of p) → judged (Ok size) ≡ judging lengths p
  unfolding judging
  judged_good size e s = rw (e, s)

-- Before the record at an index: nothing bad was found, what is left decides the rest, and no sum is near its limit.
pub record Judging (lengths : Lengths) (rs : List OptionRecord) (before size i : ℕ) : Type 0 where
  pub ordered : Ordered rs i before
  pub values : bad_values lengths rs ≡ bad_values lengths (drop i rs)
  pub sized : size + options_size before (drop i rs) ≡ options_size 0 rs
  pub small : size ≤ i * (max_value + 5)

pub start : (lengths : Lengths) (rs : List OptionRecord) → Judging lengths rs 0 0 0
start lengths rs = record { ordered = ordered_none rs; values = refl; sized = zero-add (options_size 0 rs); small = omega arith }

-- A record that does not fall from the one before, and whose value is good.
pub record Follows (lengths : Lengths) (before : ℕ) (r : OptionRecord) : Type 0 where
  pub up : before ≤ r.number
  pub value : bad_value lengths r ≡ false

pub follows : (lengths : Lengths) (before : ℕ) (r : OptionRecord) → either (ltb r.number before) (bad_value lengths r) ≡ false → Follows lengths before r
follows lengths before r e =
    let parts = neither (ltb r.number before) (bad_value lengths r) e in
    record { up = ltb-false r.number before parts.0; value = parts.1 }

module _ (lengths : Lengths) (rs : List OptionRecord) (before size i : ℕ) (w : Judging lengths rs before size i) where
  module _ (r : OptionRecord) (e : drop i rs ≡ r ∷ drop (i + 1) rs) where
    pub turn : Follows lengths before r → i < length rs → Judging lengths rs r.number (size + option_size before r) (i + 1)
    turn f more =
        record {
          ordered = ordered_more rs i before w.ordered r e f.up more;
          values = w.values ∙ (ap (bad_values lengths) e ∙ rw f.value);
          sized = add_assoc size (option_size before r) (options_size r.number (drop (i + 1) rs))
              ∙ (ap (λ (l : List OptionRecord). size + options_size before l) (sym e) ∙ w.sized);
          small = omega (arith, w.small, option_small before r (value_length lengths r f.value));
        }

    -- The other records make the whole bad.
    pub finds : either (ltb r.number before) (bad_value lengths r) ≡ true → either (falling 0 rs) (bad_values lengths rs) ≡ true
    finds bad =
        rw (w.ordered.order ∙ ap (falling before) e, w.values ∙ ap (bad_values lengths) e)
        (go (ltb r.number before) (falling r.number (drop (i + 1) rs)) (bad_value lengths r) (bad_values lengths (drop (i + 1) rs)) bad)
      where
        go : (a b c d : Bool) → either a c ≡ true → either (either a b) (either c d) ≡ true
        go true b c d t = refl
        go false b true d t = either_right b true refl
        go false b false d t = cc

  -- At the end nothing is left that is bad or to be counted.
  module _ (h : length rs ≤ i) where
    pub no_fall : falling 0 rs ≡ false
    no_fall = sound rs i before w.ordered h

    pub no_value : bad_values lengths rs ≡ false
    no_value = w.values ∙ ap (bad_values lengths) (drop_of_length-le rs h)

    pub whole : size ≡ options_size 0 rs
    whole = sym (add-zero size) ∙ (ap (λ (l : List OptionRecord). size + options_size before l) (sym (drop_of_length-le rs h)) ∙ w.sized)
