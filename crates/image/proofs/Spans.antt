-- Units that are all missing, or all held, as a test of a part of the held list and as a fact of each unit.
use Prim.Native.Nat.{ℕ, zero, suc, ◌+◌, ◌-◌, ◌<◌, ◌≤◌, min}
use mathlib.Core.Path.{◌≡◌, refl, sym, ap, ◌∙◌}
use mathlib.Core.Bool.{Bool, true, false, beq}
use mathlib.Core.List.{List, [], ◌∷◌}
use native.Mathlib.Nat.{le_of_suc-le-suc}
use native.Mathlib.Numerals.{add-one}
use native.Mathlib.Omega.{arith}
use lib.Dec.{eqb}
use lib.ListN.{length, get_or, take, drop, length-take, length-drop}
use lib.Seq.{get_or-take, get_or-drop, drop-cons}
use borrow.Author.Tests.{eq-eqb, ne_eqb, eqb-true, eqb-false}
use Rattle.ground.specs.Choice.{both}
use Rattle.ground.specs.Part.{part}
use Rattle.ground.proofs.Choice.{by_eq, both_true, true_both}
use Rattle.image.specs.Image.{missing, alike, NoneMissing, NoneHeld}
use Rattle.image.proofs.Tests.{same_test, test_same}

-- Units are alike exactly where each of them is so.
alike_from : (w : Bool) (xs : List ℕ) → ((i : ℕ) → i < length xs → missing xs i ≡ w) → alike w xs ≡ true
alike_from w [] f = refl
alike_from w (x ∷ xs) f =
    true_both (beq (eqb x 0) w) (alike w xs) (test_same (eqb x 0) w (f 0 (omega arith)))
    (alike_from w xs (λ i h. f (suc i) (omega arith)))

alike_at : (w : Bool) (xs : List ℕ) → alike w xs ≡ true → (i : ℕ) → i < length xs → missing xs i ≡ w
alike_at w [] e i h = absurd (omega arith)
alike_at w (x ∷ xs) e zero h = same_test (eqb x 0) w (both_true (beq (eqb x 0) w) (alike w xs) e).0
alike_at w (x ∷ xs) e (suc i) h = alike_at w xs (both_true (beq (eqb x 0) w) (alike w xs) e).1 i (le_of_suc-le-suc h)

module _ (held : List ℕ) (from n : ℕ) where
  part_length : length (part held from n) ≡ min n (length held - from)
  part_length = simp (length-take, length-drop)

  part_at : (i : ℕ) → i < n → get_or (part held from n) i 0 ≡ get_or held (from + i) 0
  part_at i h = rw (get_or-take, get_or-drop)

  module _ (w : Bool) where
    -- Those of a part, by their places in the whole.
    span_from : ((unit : ℕ) → from ≤ unit → unit < from + n → unit < length held → missing held unit ≡ w) → alike w (part held from n) ≡ true
    span_from f =
        alike_from w (part held from n)
        (λ i h.
        ap (λ (b : ℕ). eqb b 0) (part_at i (omega (arith, part_length)))
        ∙ f (from + i) (omega arith) (omega (arith, part_length)) (omega (arith, part_length)))

    span_at : alike w (part held from n) ≡ true → (unit : ℕ) → from ≤ unit → unit < from + n → unit < length held → missing held unit ≡ w
    span_at e u l h m =
        let back : from + (u - from) ≡ u = omega arith in
        ap (λ (k : ℕ). missing held k) (sym back)
        ∙ (ap (λ (b : ℕ). eqb b 0) (sym (part_at (u - from) (omega arith)))
        ∙ alike_at w (part held from n) e (u - from) (omega (arith, part_length)))

  pub held_so : alike false (part held from n) ≡ true → NoneMissing held from (from + n)
  held_so e u l h m = eqb-false (get_or held u 0) 0 (span_at false e u l h m.exists) m.zero

  pub so_held : NoneMissing held from (from + n) → alike false (part held from n) ≡ true
  so_held f =
      span_from false
      (λ u l h k. ne_eqb (get_or held u 0) 0 (λ z. f u l h (record { exists = k; zero = z })))

  pub missing_so : alike true (part held from n) ≡ true → NoneHeld held from (from + n)
  missing_so e u l h m = m.other (eqb-true (get_or held u 0) 0 (span_at true e u l h m.exists))

  pub so_missing : NoneHeld held from (from + n) → alike true (part held from n) ≡ true
  so_missing f =
      span_from true
      (λ u l h k.
      by_eq (get_or held u 0) 0 (λ z. eq-eqb (get_or held u 0) 0 z) (λ z. absurd (f u l h (record { exists = k; other = z }))))

-- The same of the units from one to before another.
module _ (held : List ℕ) (from to : ℕ) where
  pub held_to : alike false (part held from (to - from)) ≡ true → NoneMissing held from to
  held_to e u l h m = held_so held from (to - from) e u l (omega arith) m

  pub to_held : NoneMissing held from to → alike false (part held from (to - from)) ≡ true
  to_held f = so_held held from (to - from) (λ u l h m. f u l (omega arith) m)

  pub missing_to : alike true (part held from (to - from)) ≡ true → NoneHeld held from to
  missing_to e u l h m = missing_so held from (to - from) e u l (omega arith) m

  pub to_missing : NoneHeld held from to → alike true (part held from (to - from)) ≡ true
  to_missing f = so_missing held from (to - from) (λ u l h m. f u l (omega arith) m)

-- What is left of the units from one to before another: no unit, or one and the others.
module _ (w : Bool) (held : List ℕ) (u to : ℕ) where
  pub none_left : min to (length held) ≤ u → alike w (part held u (to - u)) ≡ true
  none_left h = span_from held u (to - u) w (λ unit l k m. absurd (omega arith))

  module _ (h : u < to) (k : u < length held) where
    one_left : alike w (part held u (to - u)) ≡ both (beq (missing held u) w) (alike w (part held (u + 1) (to - (u + 1))))
    one_left =
        let n : to - u ≡ suc (to - (u + 1)) = omega arith in
        let d : drop u held ≡ get_or held u 0 ∷ drop (u + 1) held = rw (add-one, drop-cons held u 0) in
        ap (λ (m : ℕ). alike w (take m (drop u held))) n ∙ ap (λ (l : List ℕ). alike w (take (suc (to - (u + 1))) l)) d

    pub other_left : beq (missing held u) w ≡ false → alike w (part held u (to - u)) ≡ false
    other_left e = one_left ∙ ap (λ (t : Bool). both t (alike w (part held (u + 1) (to - (u + 1))))) e

    pub same_left : beq (missing held u) w ≡ true → alike w (part held u (to - u)) ≡ alike w (part held (u + 1) (to - (u + 1)))
    same_left e = one_left ∙ ap (λ (t : Bool). both t (alike w (part held (u + 1) (to - (u + 1))))) e
