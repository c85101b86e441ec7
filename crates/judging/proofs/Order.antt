-- The walk over the records in use that judges their order, and what a packet keeps to whose records stand in order.
use Prim.Native.Nat.{ℕ, ◌+◌, ◌<◌, ◌≤◌}
use mathlib.Core.Path.{◌≡◌, refl, ap, ◌∙◌}
use mathlib.Core.Bool.{true, false}
use mathlib.Core.List.{List, ◌∷◌}
use native.Mathlib.Omega.{arith}
use lib.ListN.{length, drop, length-take, drop_of_length-le}
use lib.Dec.{ltb}
use borrow.Author.Tests.{lt-ltb, le-ltb, ltb-false}
use Rattle.ground.proofs.Choice.{neither}
use Rattle.packet.specs.Limits.{max_options}
use Rattle.packet.specs.Packet.{records_of}
use Rattle.packet.specs.declared.Packet.{Packet}
use Rattle.packet.specs.declared.OptionRecord.{OptionRecord}
use Rattle.judging.specs.Judge.{falling, misordered}

-- The first record's number falls, or does not and the others decide.
module _ (before : ℕ) (l : List OptionRecord) (r : OptionRecord) (rest : List OptionRecord) (e : l ≡ r ∷ rest) where
  pub falls_here : r.number < before → falling before l ≡ true
  falls_here h = ap (falling before) e ∙ rw (lt-ltb r.number before h)

  pub falls_later : before ≤ r.number → falling before l ≡ falling r.number rest
  falls_later h = ap (falling before) e ∙ rw (le-ltb r.number before h)

-- Before the record at `i` of `rs`, after one of the number `before`: the numbers fall exactly if those that are left do.
pub record Ordered (rs : List OptionRecord) (i before : ℕ) : Type 0 where
  pub place : i ≤ length rs
  pub order : falling 0 rs ≡ falling before (drop i rs)

pub ordered_none : (rs : List OptionRecord) → Ordered rs 0 0
ordered_none rs = record { place = omega arith; order = refl }

module _ (rs : List OptionRecord) (i before : ℕ) (w : Ordered rs i before) where
  -- At the end nothing is left that falls.
  pub none_falls : length rs ≤ i → falling before (drop i rs) ≡ false
  none_falls h = ap (falling before) (drop_of_length-le rs h)

  pub sound : length rs ≤ i → falling 0 rs ≡ false
  sound h = w.order ∙ none_falls h

  module _ (x : OptionRecord) (e : drop i rs ≡ x ∷ drop (i + 1) rs) where
    -- A lower number falls.
    pub falls : x.number < before → falling 0 rs ≡ true
    falls h = w.order ∙ falls_here before (drop i rs) x (drop (i + 1) rs) e h

    -- After any other, those that are left decide.
    pub onwards : before ≤ x.number → falling before (drop i rs) ≡ falling x.number (drop (i + 1) rs)
    onwards up = falls_later before (drop i rs) x (drop (i + 1) rs) e up

    pub ordered_more : before ≤ x.number → i < length rs → Ordered rs (i + 1) x.number
    ordered_more up more = record { place = omega arith; order = w.order ∙ onwards up }

-- How the walk shows which it is.
module _ (p : Packet) where
  pub over_full : max_options < p.count → misordered p ≡ true
  over_full h = rw (lt-ltb max_options p.count h) refl

  module _ (few : p.count ≤ max_options) where
    pub unsound : falling 0 (records_of p) ≡ true → misordered p ≡ true
    unsound e = rw (le-ltb max_options p.count few) e

    pub well : falling 0 (records_of p) ≡ false → misordered p ≡ false
    well e = rw (le-ltb max_options p.count few) e

-- A packet that is not over-full has as many records in use as it counts.
pub in_use : (p : Packet) → length p.options ≡ max_options → p.count ≤ max_options → length (records_of p) ≡ p.count
in_use p all few = omega (arith, length-take p.count p.options)

-- What a packet that an edit takes keeps to.
pub record InOrder (p : Packet) : Type 0 where
  pub few : p.count ≤ max_options
  pub rising : falling 0 (records_of p) ≡ false

pub in_order : (p : Packet) → misordered p ≡ false → InOrder p
in_order p e =
    let parts = neither (ltb max_options p.count) (falling 0 (records_of p)) e in
    record { few = ltb-false max_options p.count parts.0; rising = parts.1 }
