-- Laws of groups, a character at a time: judged, put, and looked through for `::`.
use Prim.Native.Nat.{ℕ, suc, ◌+◌, ◌*◌, ◌%◌, ◌<◌, ◌≤◌}
use mathlib.Core.Path.{◌≡◌, refl, sym, ap, ◌∙◌}
use mathlib.Core.Bool.{Bool, true, false, not}
use mathlib.Core.List.{List, [], ◌∷◌, ◌++◌}
use native.Mathlib.Nat.{add-zero}
use native.Mathlib.Numerals.{add-one}
use native.Mathlib.Omega.{arith}
use lib.Dec.{ltb, leb, eqb}
use lib.ListN.{length, get_or, drop, drop_of_length-le, get_or-eq_default}
use lib.Seq.{drop-cons, get_or-drop}
use borrow.Author.Tests.{lt-ltb, le-ltb, eq-eqb, ne_eqb, eqb-true, leb-true}
use Rattle.ground.specs.Choice.{pick, both, within}
use Rattle.ground.proofs.Choice.{on, on_lt, both_true}
use Rattle.rfc.specs.Percent.{hex_value}
use Rattle.std.specs.Prelude.{Option, None, is_some}
use Rattle.percent.specs.Step.{digit_read}
use Rattle.peer_reading.specs.Reading.{pair_bytes, are_groups, group_bytes, is_side, side_bytes, gap_in}

-- The character at a place, first of what is left.
here : (s : List ℕ) (i : ℕ) → i < length s → drop i s ≡ get_or s i 0 ∷ drop (i + 1) s
here s i h = rw (add-one, drop-cons s i 0 h)

-- What a character is told as: a digit, or none.
pub told_none : (n : ℕ) (b : Bool) → is_some (digit_read n) ≡ not b → b ≡ true → 15 < n
told_none n b h e =
    on_lt (λ (o : Option ℕ). is_some o ≡ not b → 15 < n) n 16
    (λ l q. let z : ◌≡◌ {A = Bool} true false = q ∙ ap not e in absurd (let k : ◌≡◌ {A = ℕ} 0 1 = cc in omega arith)) (λ l q. omega arith) h

pub told_digit : (n : ℕ) (b : Bool) → is_some (digit_read n) ≡ not b → b ≡ false → n ≤ 15
told_digit n b h e =
    on_lt (λ (o : Option ℕ). is_some o ≡ not b → n ≤ 15) n 16 (λ l q. omega arith)
    (λ l q. let z : ◌≡◌ {A = Bool} false true = q ∙ ap not e in absurd (let k : ◌≡◌ {A = ℕ} 0 1 = cc in omega arith)) h

-- A character that is no digit has the value 16, and none has more.
pub hex_most : (c : ℕ) → hex_value c ≤ 16
unfolding hex_value
hex_most c =
    on (λ (n : ℕ). n ≤ 16) (within 0x30 0x39 c) (λ t. omega (arith, leb-true c 0x39 (both_true (leb 0x30 c) (leb c 0x39) t).1))
    (λ _. on (λ (n : ℕ). n ≤ 16) (within 0x41 0x46 c) (λ t. omega (arith, leb-true c 0x46 (both_true (leb 0x41 c) (leb c 0x46) t).1))
    (λ _. on (λ (n : ℕ). n ≤ 16) (within 0x61 0x66 c) (λ t. omega (arith, leb-true c 0x66 (both_true (leb 0x61 c) (leb c 0x66) t).1))
    (λ _. omega arith)))

pub no_digit_value : (c : ℕ) → digit_read (hex_value c) ≡ None → 16 ≡ hex_value c
no_digit_value c e = omega (arith, hex_most c, told_none (hex_value c) true (ap is_some e) refl)

-- Judging: the whole is groups exactly when what is left is, after so many digits.
pub record Judging (s : List ℕ) (digits i : ℕ) : Type 0 where
  pub place : i ≤ length s
  pub few : digits ≤ 4
  pub all : are_groups digits (drop i s) ≡ are_groups 0 s

module _ (s : List ℕ) where
  pub no_groups : length s ≡ 0 → true ≡ is_side s
  unfolding is_side
  no_groups e = rw (eq-eqb (length s) 0 e) refl

  pub some_groups : (length s ≡ 0 → ⊥) → (b : Bool) → b ≡ are_groups 0 s → b ≡ is_side s
  unfolding is_side
  some_groups z b e = rw (ne_eqb (length s) 0 z) e

  pub judging_start : Judging s 0 0
  judging_start = record { place = omega arith; few = omega arith; all = refl }

  module _ (digits i : ℕ) (w : Judging s digits i) where
    pub judging_end : length s ≤ i → ltb 0 digits ≡ are_groups 0 s
    unfolding are_groups
    judging_end h = ap (are_groups digits) (sym (drop_of_length-le s h)) ∙ w.all

    module _ (h : i < length s) where
      step : are_groups digits (get_or s i 0 ∷ drop (i + 1) s) ≡ are_groups 0 s
      step = ap (are_groups digits) (sym (here s i h)) ∙ w.all

      pub no_digit_before : get_or s i 0 ≡ 58 → digits ≡ 0 → false ≡ are_groups 0 s
      unfolding are_groups
      no_digit_before c z = rw (eq-eqb (get_or s i 0) 58 c, eq-eqb digits 0 z) at step

      pub colon : get_or s i 0 ≡ 58 → (digits ≡ 0 → ⊥) → Judging s 0 (i + 1)
      unfolding are_groups
      colon c z = record { place = omega arith; few = omega arith; all = rw (eq-eqb (get_or s i 0) 58 c, ne_eqb digits 0 z) at step }

      module _ (c : get_or s i 0 ≡ 58 → ⊥) where
        pub no_digit : 15 < hex_value (get_or s i 0) → false ≡ are_groups 0 s
        unfolding are_groups
        no_digit d = rw (ne_eqb (get_or s i 0) 58 c, lt-ltb 15 (hex_value (get_or s i 0)) d) at step

        pub fifth_digit : hex_value (get_or s i 0) ≤ 15 → 3 < digits → false ≡ are_groups 0 s
        unfolding are_groups
        fifth_digit d m = rw (ne_eqb (get_or s i 0) 58 c, le-ltb 15 (hex_value (get_or s i 0)) d, lt-ltb 3 digits m) at step

        pub digit : hex_value (get_or s i 0) ≤ 15 → digits ≤ 3 → Judging s (digits + 1) (i + 1)
        unfolding are_groups
        digit d m =
            record { place = omega arith; few = omega arith; all = rw (ne_eqb (get_or s i 0) 58 c, le-ltb 15 (hex_value (get_or s i 0)) d, le-ltb 3 digits m) at step }

-- Putting: a colon puts the group before it, a digit is one more of its value, the end puts the last.
module _ (s : List ℕ) where
  pub side_none : length s ≡ 0 → side_bytes s ≡ []
  unfolding side_bytes
  side_none e = rw (eq-eqb (length s) 0 e) refl

  pub side_some : (length s ≡ 0 → ⊥) → side_bytes s ≡ group_bytes 0 s
  unfolding side_bytes
  side_some z = rw (ne_eqb (length s) 0 z) refl

  module _ (value i : ℕ) where
    pub bytes_colon : i < length s → get_or s i 0 ≡ 58 → group_bytes value (drop i s) ≡ pair_bytes value ++ group_bytes 0 (drop (i + 1) s)
    unfolding group_bytes
    bytes_colon h c = rw (here s i h, eq-eqb (get_or s i 0) 58 c) refl

    pub bytes_digit : i < length s → (get_or s i 0 ≡ 58 → ⊥) → group_bytes value (drop i s) ≡ group_bytes (value % 4096 * 16 + hex_value (get_or s i 0)) (drop (i + 1) s)
    unfolding group_bytes
    bytes_digit h c = rw (here s i h, ne_eqb (get_or s i 0) 58 c) refl

    pub bytes_end : length s ≤ i → group_bytes value (drop i s) ≡ pair_bytes value
    unfolding group_bytes
    bytes_end h = rw (drop_of_length-le s h) refl

-- Two colons at a place, by their tests.
module _ (s : List ℕ) (i : ℕ) where
  pub first_other : (get_or s i 0 ≡ 58 → ⊥) → false ≡ both (eqb (get_or s i 0) 58) (eqb (get_or s (i + 1) 0) 58)
  first_other z = rw (ne_eqb (get_or s i 0) 58 z) refl

  pub second_none : get_or s i 0 ≡ 58 → length s ≤ i + 1 → false ≡ both (eqb (get_or s i 0) 58) (eqb (get_or s (i + 1) 0) 58)
  second_none e h = rw (eq-eqb (get_or s i 0) 58 e, get_or-eq_default s 0 h) refl

  pub second_is : get_or s i 0 ≡ 58 → eqb (get_or s (i + 1) 0) 58 ≡ both (eqb (get_or s i 0) 58) (eqb (get_or s (i + 1) 0) 58)
  second_is e = rw (eq-eqb (get_or s i 0) 58 e) refl

-- Looking for `::`.
module _ (s : List ℕ) (i : ℕ) where
  gap_here : i < length s → gap_in (drop i s) ≡ pick (both (eqb (get_or s i 0) 58) (eqb (get_or s (i + 1) 0) 58)) 0 (gap_in (drop (i + 1) s) + 1)
  unfolding gap_in
  gap_here h =
      let e : get_or (drop (i + 1) s) 0 0 ≡ get_or s (i + 1) 0 = get_or-drop (i + 1) s 0 0 ∙ ap (λ (n : ℕ). get_or s n 0) (add-zero (i + 1)) in
      rw (here s i h, e) refl

  pub gap_found : i < length s → both (eqb (get_or s i 0) 58) (eqb (get_or s (i + 1) 0) 58) ≡ true → gap_in (drop i s) ≡ 0
  gap_found h e = gap_here h ∙ (rw e refl)

  pub gap_later : i < length s → both (eqb (get_or s i 0) 58) (eqb (get_or s (i + 1) 0) 58) ≡ false → gap_in (drop i s) ≡ gap_in (drop (i + 1) s) + 1
  gap_later h e = gap_here h ∙ (rw e refl)

  pub gap_end : length s ≤ i → gap_in (drop i s) ≡ 0
  unfolding gap_in
  gap_end h = rw (drop_of_length-le s h) refl

-- A `::` is two characters.
two_colons : (c : ℕ) (s : List ℕ) → both (eqb c 58) (eqb (get_or s 0 0) 58) ≡ true → 1 ≤ length s
two_colons c s =
    on (λ (t : Bool). t ≡ true → 1 ≤ length s) (eqb c 58) (λ _ e. some s (eqb-true (get_or s 0 0) 58 e)) (λ _ e. absurd (let z : ◌≡◌ {A = ℕ} 0 1 = cc in omega arith))
  where
    some : (s : List ℕ) → get_or s 0 0 ≡ 58 → 1 ≤ length s
    some [] e = omega arith
    some (d ∷ t) e = omega arith

pub gap_inside : (s : List ℕ) → gap_in s < length s → gap_in s + 2 ≤ length s
unfolding gap_in
gap_inside [] = λ h. omega arith
gap_inside (c ∷ s) =
    on (λ (n : ℕ). n < suc (length s) → n + 2 ≤ suc (length s)) (both (eqb c 58) (eqb (get_or s 0 0) 58))
    (λ e h. omega (arith, two_colons c s e)) (λ e h. omega (arith, gap_inside s (omega arith)))

pub gap_within : (s : List ℕ) → gap_in s ≤ length s
unfolding gap_in
gap_within [] = omega arith
gap_within (c ∷ s) = on (λ (n : ℕ). n ≤ suc (length s)) (both (eqb c 58) (eqb (get_or s 0 0) 58)) (λ e. omega arith) (λ e. omega (arith, gap_within s))
