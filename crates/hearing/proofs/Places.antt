-- The place at a position, as the code reads it; and walks over the places.
use Prim.Native.Nat.{ℕ, suc, ◌+◌, ◌-◌, ◌*◌, ◌<◌, ◌≤◌}
use mathlib.Core.Path.{◌≡◌, refl, sym, ap, ◌∙◌}
use mathlib.Core.Bool.{Bool, true, false, not}
use mathlib.Core.List.{List, ◌∷◌}
use native.Mathlib.Omega.{arith}
use lib.Dec.{eqb, ltb, leb}
use lib.ListN.{get_or}
use borrow.Author.Tests.{lt-ltb, le-ltb, le-leb, lt-leb, eq-eqb, ne_eqb, not-true, not-false}
use Rattle.ground.specs.Choice.{pick, both, either}
use Rattle.ground.specs.Part.{part}
use Rattle.ground.proofs.Choice.{by_lt, by_eq}
use Rattle.rfc.specs.Uint.{number}
use Rattle.rfc.specs.Duplicates.{Arrival, unexpired, alike, same, stands}
use Rattle.hearing.specs.Table.{Place, unused, holds, entries, free, lowest}
use Rattle.hearing.specs.Bytes.{entry_at, place_at, places_from, places}
use Rattle.std.specs.Prelude.{Some, None}
use Rattle.hearing.specs.Steps.{stands_at, Lowest}

not_less : (a b : ℕ) → leb b a ≡ not (ltb a b)
not_less a b = by_lt a b (λ h. lt-leb b a h ∙ sym (ap not (lt-ltb a b h))) (λ h. le-leb b a h ∙ sym (ap not (le-ltb a b h)))

-- What the first byte of a place says.
module _ (s : List ℕ) (at : ℕ) where
  confirmable : get_or s at 0 ≡ 1 → place_at s at ≡ holds (entry_at 0 s at)
  unfolding place_at
  confirmable e = rw (eq-eqb (get_or s at 0) 1 e)

  non_confirmable : get_or s at 0 ≡ 2 → place_at s at ≡ holds (entry_at 1 s at)
  unfolding place_at
  non_confirmable e = rw (ne_eqb (get_or s at 0) 1 (omega arith), eq-eqb (get_or s at 0) 2 e)

  pub not_used : (get_or s at 0 ≡ 1 → ⊥) → (get_or s at 0 ≡ 2 → ⊥) → place_at s at ≡ unused
  unfolding place_at
  not_used f g = rw (ne_eqb (get_or s at 0) 1 f, ne_eqb (get_or s at 0) 2 g)

  -- Whether the place is free.
  pub free_confirmable : (now t : ℕ) → get_or s at 0 ≡ 1 → t ≡ number (part s (at + 21) 4) → leb (t + 247) now ≡ free now (place_at s at)
  free_confirmable now t e i = rw (confirmable e, i) (not_less now (number (part s (at + 21) 4) + 247))

  pub free_non : (now t : ℕ) → get_or s at 0 ≡ 2 → t ≡ number (part s (at + 21) 4) → leb (t + 145) now ≡ free now (place_at s at)
  free_non now t e i = rw (non_confirmable e, i) (not_less now (number (part s (at + 21) 4) + 145))

  pub free_unused : (now : ℕ) → (get_or s at 0 ≡ 1 → ⊥) → (get_or s at 0 ≡ 2 → ⊥) → true ≡ free now (place_at s at)
  free_unused now f g = rw (not_used f g)

  -- Whether the same message stands there: not where the type is another, or the place is free.
  module _ (m : Arrival) where
    and_false : (a b : Bool) → b ≡ false → both a b ≡ false
    and_false true b e = e
    and_false false b e = refl

    and_swap : (a b : Bool) → both a b ≡ both b a
    and_swap true true = refl
    and_swap true false = refl
    and_swap false true = refl
    and_swap false false = refl

    other_type : (k now : ℕ) → (k ≡ m.type → ⊥) → both (unexpired now (entry_at k s at)) (same m (entry_at k s at)) ≡ false
    other_type k now f = and_false (unexpired now (entry_at k s at)) (same m (entry_at k s at)) (rw (ne_eqb k m.type f))

    pub other : (get_or s at 0 ≡ m.type + 1 → ⊥) → stands_at m (place_at s at) ≡ false
    other f =
        by_eq (get_or s at 0) 1
        (λ e. rw (confirmable e) (other_type 0 m.time (λ k. f (omega arith))))
        (λ e. by_eq (get_or s at 0) 2 (λ d. rw (non_confirmable d) (other_type 1 m.time (λ k. f (omega arith)))) (λ d. rw (not_used e d)))

    free_not : (q : Place) → free m.time q ≡ true → stands_at m q ≡ false
    free_not unused f = refl
    free_not (holds e) f = rw (not-true (unexpired m.time e) f)

    pub free_other : free m.time (place_at s at) ≡ true → stands_at m (place_at s at) ≡ false
    free_other f = free_not (place_at s at) f

    -- Else id and peer are compared.
    live_is : (k : ℕ) → k ≡ m.type → not (unexpired m.time (entry_at k s at)) ≡ false
        → both (unexpired m.time (entry_at k s at)) (same m (entry_at k s at)) ≡ both (eqb (number (part s (at + 19) 2)) m.id) (alike (part s (at + 1) 18) m.peer)
    live_is k e f =
        rw (not-false (unexpired m.time (entry_at k s at)) f, eq-eqb k m.type e)
        (and_swap (alike (part s (at + 1) 18) m.peer) (eqb (number (part s (at + 19) 2)) m.id))

    module _ (h : m.type ≤ 1) (e : get_or s at 0 ≡ m.type + 1) (f : free m.time (place_at s at) ≡ false) where
      compared : stands_at m (place_at s at) ≡ both (eqb (number (part s (at + 19) 2)) m.id) (alike (part s (at + 1) 18) m.peer)
      compared =
          by_eq m.type 0
          (λ z. let o = confirmable (omega arith) in rw o (live_is 0 (sym z) (rw o at f)))
          (λ z. let o = non_confirmable (omega arith) in rw o (live_is 1 (omega arith) (rw o at f)))

      pub other_id : (number (part s (at + 19) 2) ≡ m.id → ⊥) → stands_at m (place_at s at) ≡ false
      other_id d = compared ∙ rw (ne_eqb (number (part s (at + 19) 2)) m.id d)

      pub by_peer : number (part s (at + 19) 2) ≡ m.id → stands_at m (place_at s at) ≡ alike (part s (at + 1) 18) m.peer
      by_peer d = compared ∙ rw (eq-eqb (number (part s (at + 19) 2)) m.id d)

-- A walk over the places: what is left of the table from a position on decides.
pub record Left {A : Type 0} (f : List Place → A) (s : List ℕ) (at : ℕ) (a : A) : Type 0 where
  pub left : ℕ
  pub sum : at + left * 25 ≡ 1600
  pub is : f (places_from left s at) ≡ a

-- The walk that looks for the same message.
pub known_begin : (m : Arrival) (s : List ℕ) → Left (λ (qs : List Place). stands m (entries qs)) s 0 (stands m (entries (places s)))
known_begin m s = record { left = 64; sum = omega arith; is = refl }

stands_place : (m : Arrival) (q : Place) (qs : List Place) → stands m (entries (q ∷ qs)) ≡ either (stands_at m q) (stands m (entries qs))
unfolding stands
stands_place m unused qs = refl
stands_place m (holds e) qs = refl

module _ (m : Arrival) (s : List ℕ) (at : ℕ) (a : Bool) (w : Left (λ (qs : List Place). stands m (entries qs)) s at a) where
  known_first : (n : ℕ) → w.left ≡ suc n → either (stands_at m (place_at s at)) (stands m (entries (places_from n s (at + 25)))) ≡ a
  unfolding places_from
  known_first n e = sym (stands_place m (place_at s at) (places_from n s (at + 25))) ∙ (rw e at w.is)

  pub known_found : at < 1600 → true ≡ stands_at m (place_at s at) → true ≡ a
  known_found h e =
      let n : w.left ≡ suc (w.left - 1) = omega (arith, w.sum) in
      rw (sym e) at (known_first (w.left - 1) n)

  pub known_turn : at < 1600 → false ≡ stands_at m (place_at s at) → Left (λ (qs : List Place). stands m (entries qs)) s (at + 25) a
  known_turn h e =
      let n : w.left ≡ suc (w.left - 1) = omega (arith, w.sum) in
      record { left = w.left - 1; sum = omega (arith, w.sum); is = rw (sym e) at (known_first (w.left - 1) n) }

  pub known_end : 1600 ≤ at → false ≡ a
  unfolding places_from stands
  known_end h =
      let n : w.left ≡ 0 = omega (arith, w.sum) in
      rw n at w.is

-- The walk that looks for the lowest free place.
pub low_begin : (now : ℕ) (s : List ℕ) → Left (λ (qs : List Place). 0 + lowest now qs * 25) s 0 (lowest now (places s) * 25)
low_begin now s = record { left = 64; sum = omega arith; is = omega arith }

module _ (now : ℕ) (s : List ℕ) (at : ℕ) (w : Left (λ (qs : List Place). at + lowest now qs * 25) s at (lowest now (places s) * 25)) where
  low_first : (n : ℕ) → w.left ≡ suc n → at + pick (free now (place_at s at)) 0 (suc (lowest now (places_from n s (at + 25)))) * 25 ≡ lowest now (places s) * 25
  unfolding places_from lowest
  low_first n e = rw e at w.is

  pub low_found : at < 1600 → true ≡ free now (place_at s at) → Lowest now s (Some at)
  low_found h e =
      let n : w.left ≡ suc (w.left - 1) = omega (arith, w.sum) in
      let f = rw (sym e) at (low_first (w.left - 1) n) in
      (omega arith, h)

  pub low_turn : at < 1600 → false ≡ free now (place_at s at) → Left (λ (qs : List Place). (at + 25) + lowest now qs * 25) s (at + 25) (lowest now (places s) * 25)
  low_turn h e =
      let n : w.left ≡ suc (w.left - 1) = omega (arith, w.sum) in
      let f = rw (sym e) at (low_first (w.left - 1) n) in
      record { left = w.left - 1; sum = omega (arith, w.sum); is = omega arith }

  pub low_end : 1600 ≤ at → Lowest now s None
  unfolding places_from lowest
  low_end h =
      let n : w.left ≡ 0 = omega (arith, w.sum) in
      let f = rw n at w.is in
      omega (arith, w.sum)
