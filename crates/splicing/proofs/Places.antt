-- A splice of records: what stands at each of its places, and how long it is.
use Prim.Native.Nat.{ℕ, zero, suc, ◌+◌, ◌-◌, ◌*◌, ◌/◌, ◌<◌, ◌≤◌, min}
use mathlib.Core.Path.{◌≡◌, refl, sym, ap, ◌∙◌}
use mathlib.Core.List.{List, [], ◌∷◌, ◌++◌, map}
use native.Mathlib.Omega.{arith}
use lib.ListN.{length, get_or, take, drop, length-append, length-drop, length-take, length-map, drop_of_length-le, get_or-append}
use lib.Seq.{take_all, take-length, get_or-take, get_or-drop, get_or-append-add, length-take-le}
use borrow.Author.Tests.{lt-ltb, le-ltb}
use Rattle.ground.proofs.Choice.{by_lt}
use Rattle.refusal.specs.Answer.{given, refused}
use Rattle.packet.specs.Limits.{max_options}
use Rattle.packet.specs.Packet.{none, records_of}
use Rattle.packet.specs.declared.Packet.{Packet}
use Rattle.packet.specs.declared.OptionRecord.{OptionRecord}
use Rattle.splicing.specs.Splice.{with_records, roomy, record_of, home_of, ranges_in, spliced}

-- What stands at each place of a splice.
module _ (low high : ℕ) (new rs : List OptionRecord) (l : low ≤ length rs) where
  before_is : length (take low rs) ≡ low
  before_is = length-take-le low rs l

  pub length_spliced : length (spliced low high new rs) ≡ low + (length new + (length rs - high))
  length_spliced = simp (length-append, length-drop) (omega (arith, before_is))

  pub at_lower : (i : ℕ) → i < low → get_or (spliced low high new rs) i none ≡ get_or rs i none
  at_lower i h =
      let inside : i < length (take low rs) = omega (arith, before_is) in
      get_or-append (take low rs) (new ++ drop high rs) none i inside ∙ get_or-take low rs i none h

  past : (k : ℕ) → get_or (spliced low high new rs) (low + k) none ≡ get_or (new ++ drop high rs) k none
  past k =
      ap (λ (m : ℕ). get_or (spliced low high new rs) (m + k) none) (sym before_is)
      ∙ get_or-append-add (take low rs) (new ++ drop high rs) k none

  pub at_new : (i : ℕ) → low ≤ i → i < low + length new → get_or (spliced low high new rs) i none ≡ get_or new (i - low) none
  at_new i h k =
      let e : i ≡ low + (i - low) = omega arith in
      ap (λ (m : ℕ). get_or (spliced low high new rs) m none) e
      ∙ (past (i - low) ∙ get_or-append new (drop high rs) none (i - low) (omega arith))

  pub at_higher : (i : ℕ) → low + length new ≤ i → get_or (spliced low high new rs) i none ≡ get_or rs (high + (i - low - length new)) none
  at_higher i h =
      let e : i ≡ low + (length new + (i - low - length new)) = omega arith in
      ap (λ (m : ℕ). get_or (spliced low high new rs) m none) e
      ∙ (past (length new + (i - low - length new))
      ∙ (get_or-append-add new (drop high rs) (i - low - length new) none ∙ get_or-drop high rs (i - low - length new) none))

-- Numbers in threes: a third as many ranges, each from its three.
pub length_ranges : (l : List ℕ) → length (ranges_in l) ≡ length l / 3
length_ranges [] = refl
length_ranges (a ∷ []) = refl
length_ranges (a ∷ b ∷ []) = refl
length_ranges (a ∷ b ∷ c ∷ l) = omega (arith, length_ranges l)

-- The record of a number and three others.
abbrev pub record_at : ℕ → ℕ → ℕ → ℕ → OptionRecord
record_at n home start len = record { number = n; home = home_of home; spare = 0; start = start; len = len }

pub range_at : (n : ℕ) (l : List ℕ) (k : ℕ) → k < length (ranges_in l)
    → get_or (map (record_of n) (ranges_in l)) k none ≡ record_at n (get_or l (k * 3) 0) (get_or l (k * 3 + 1) 0) (get_or l (k * 3 + 2) 0)
range_at n [] k h = absurd (omega arith)
range_at n (a ∷ []) k h = absurd (omega arith)
range_at n (a ∷ b ∷ []) k h = absurd (omega arith)
range_at n (a ∷ b ∷ c ∷ l) zero h = refl
range_at n (a ∷ b ∷ c ∷ l) (suc k) h =
    let e : suc k * 3 ≡ suc (suc (suc (k * 3))) = omega arith in
    let f : suc (suc (suc (k * 3))) + 1 ≡ suc (suc (suc (k * 3 + 1))) = omega arith in
    let g : suc (suc (suc (k * 3))) + 2 ≡ suc (suc (suc (k * 3 + 2))) = omega arith in
    rw (e, f, g) (range_at n l k (omega arith))

-- The splice of a packet's records with the records of ranges: its length, and where each of its records comes from.
module _ (p : Packet) (n low high : ℕ) (l : List ℕ) (low_in : low ≤ length (records_of p)) where
  abbrev new : List OptionRecord
  new = map (record_of n) (ranges_in l)

  abbrev whole : List OptionRecord
  whole = spliced low high new (records_of p)

  new_long : length new ≡ length l / 3
  new_long = length-map (ranges_in l) (record_of n) ∙ length_ranges l

  pub whole_long : length whole ≡ low + length l / 3 + (length (records_of p) - high)
  whole_long = omega (arith, length_spliced low high new (records_of p) low_in, new_long)

  -- A record in use stands in the array at its place.
  in_array : (i : ℕ) → i < length (records_of p) → get_or (records_of p) i none ≡ get_or p.options i none
  in_array i h = get_or-take p.count p.options i none (omega (arith, length-take p.count p.options))

  pub from_lower : (i : ℕ) → i < low → get_or p.options i none ≡ get_or whole i none
  from_lower i h = sym (at_lower low high new (records_of p) low_in i h ∙ in_array i (omega arith))

  pub from_new : (i : ℕ) → low ≤ i → i < low + length l / 3
      → record_at n (get_or l ((i - low) * 3) 0) (get_or l ((i - low) * 3 + 1) 0) (get_or l ((i - low) * 3 + 2) 0) ≡ get_or whole i none
  from_new i h k =
      sym (at_new low high new (records_of p) low_in i h (omega (arith, new_long)) ∙ range_at n l (i - low) (omega (arith, length_ranges l)))

  pub from_higher : (i : ℕ) → low + length l / 3 ≤ i → i < low + length l / 3 + (length (records_of p) - high)
      → get_or p.options (high + (i - (low + length l / 3))) none ≡ get_or whole i none
  from_higher i h k =
      let at : i - low - length new ≡ i - (low + length l / 3) = omega (arith, new_long) in
      sym (at_higher low high new (records_of p) low_in i (omega (arith, new_long))
      ∙ (ap (λ (m : ℕ). get_or (records_of p) (high + m) none) at ∙ in_array (high + (i - (low + length l / 3))) (omega arith)))

-- A place past the end is the end.
module _ (rs : List OptionRecord) (used low : ℕ) (u : used ≡ length rs) where
  before_within : (n : ℕ) → n ≡ min low used → take n rs ≡ take low rs
  before_within n e =
      by_lt low (length rs) (λ h. let same : n ≡ low = omega arith in rw same)
      (λ h. let end : n ≡ length rs = omega arith in rw end (take-length rs ∙ sym (take_all low rs h)))

  after_within : (n : ℕ) → n ≡ min low used → drop n rs ≡ drop low rs
  after_within n e =
      by_lt low (length rs) (λ h. let same : n ≡ low = omega arith in rw same)
      (λ h. drop_of_length-le rs {i = n} (omega arith) ∙ sym (drop_of_length-le rs h))

pub spliced_within : (new rs : List OptionRecord) (used low high from to : ℕ) → used ≡ length rs → from ≡ min low used → to ≡ min high used → spliced from to new rs ≡ spliced low high new rs
spliced_within new rs used low high from to u f t = rw (before_within rs used low u from f, after_within rs used high u to t) refl

-- Too many records, and records for which there is room.
module _ (p : Packet) (rs : List OptionRecord) where
  pub no_room : max_options < length rs → refused 6 ≡ roomy p rs
  no_room h = rw (lt-ltb max_options (length rs) h) refl

  pub room : length rs ≤ max_options → given (with_records p rs) ≡ roomy p rs
  room h = rw (le-ltb max_options (length rs) h) refl
