-- Laws of places: the entry at the place of a number is that number, and an entry that stands once has the place where it stands.
use Prim.Native.Nat.{ℕ, suc, ◌-◌, ◌<◌, ◌≤◌}
use mathlib.Core.Path.{◌≡◌, refl, sym, ap, subst, ◌∙◌}
use mathlib.Core.Bool.{Bool, true, false}
use mathlib.Core.List.{List, [], ◌∷◌}
use native.Mathlib.Numerals.{add-one}
use native.Mathlib.Omega.{arith}
use lib.Dec.{T, eqb}
use lib.ListN.{length, get_or}
use Rattle.ground.specs.Choice.{pick, either}
use Rattle.ground.specs.Table.{listed, once}
use Rattle.ground.proofs.Choice.{on_eq}
use Rattle.ground.proofs.Table.{entry_listed, one_place}
use Rattle.tables.specs.Place.{place_from, place_of}
use Rattle.std.specs.Prelude.{Option, Some, None, is_some, cond, position, ◌==◌}
use Rattle.std.specs.List.{position_from}
use Rattle.std.proofs.lemmas.Iterator.Adapters.{position_from-zero}

chosen : (t : Bool) (i : ℕ) (p : Option ℕ) {l : Bool} → is_some p ≡ l → is_some (pick t (Some i) p) ≡ either t l
chosen true i p e = refl
chosen false i p e = e

-- A number has a place exactly when it is listed.
pub place_listed : (i n : ℕ) (xs : List ℕ) → is_some (place_from i n xs) ≡ listed n xs
place_listed i n [] = refl
place_listed i n (x ∷ xs) = chosen (eqb n x) i (place_from (suc i) n xs) (place_listed (suc i) n xs)

-- A place of the table with the number as its entry.
pub record Stands (n : ℕ) (xs : List ℕ) (k : ℕ) : Type 0 where
  pub within : k < length xs
  pub entry : get_or xs k 0 ≡ n

-- What a place says of a table whose first entry has the place `i`.
abbrev Says : ℕ → ℕ → List ℕ → Option ℕ → Type 0
Says i n xs (Some m) = (i ≤ m) × Stands n xs (m - i)
Says i n xs None = Unit {0}

later : (i n x : ℕ) (xs : List ℕ) (p : Option ℕ) → Says (suc i) n xs p → Says i n (x ∷ xs) p
later i n x xs (Some m) h =
    let e : m - i ≡ suc (m - suc i) = omega arith in
    (omega arith, rw e (record { within = omega (arith, h.1.within); entry = h.1.entry }))
later i n x xs None h = tt

says : (i n : ℕ) (xs : List ℕ) → Says i n xs (place_from i n xs)
says i n [] = tt
says i n (x ∷ xs) =
    on_eq (Says i n (x ∷ xs)) n x
    (λ e. let z : i - i ≡ 0 = omega arith in (omega arith, rw z (record { within = omega arith; entry = sym e })))
    (λ _. later i n x xs (place_from (suc i) n xs) (says (suc i) n xs))

-- The entry at the place of a number is that number.
pub place_entry : (n : ℕ) (xs : List ℕ) (k : ℕ) → place_of n xs ≡ Some k → Stands n xs k
place_entry n xs k e =
    let z : k - 0 ≡ k = omega arith in
    subst (λ (m : ℕ). Stands n xs m) z (subst (Says 0 n xs) e (says 0 n xs)).1

settled : (xs : List ℕ) → T (once xs) → (k : ℕ) → k < length xs → (p : Option ℕ) → place_of (get_or xs k 0) xs ≡ p → p ≡ Some k
settled xs t k h (Some m) e =
    let s : Stands (get_or xs k 0) xs m = place_entry (get_or xs k 0) xs m e in
    ap Some (one_place xs t m k s.within h s.entry)
settled xs t k h None e =
    absurd (subst T (sym (place_listed 0 (get_or xs k 0) xs) ∙ ap is_some e) (entry_listed xs k h))

-- Where each number stands once, each entry has the place where it stands.
pub entry_place : (xs : List ℕ) → T (once xs) → (k : ℕ) → k < length xs → place_of (get_or xs k 0) xs ≡ Some k
entry_place xs t k h = settled xs t k h (place_of (get_or xs k 0) xs) refl

-- The first place of a number is the first that a test for it finds.
place_at_test : (i n : ℕ) (xs : List ℕ) → place_from i n xs ≡ position_from (λ x. n == x) i xs
place_at_test i n [] = refl
place_at_test i n (x ∷ xs) = by (eqb n x) (place_at_test (suc i) n xs ∙ ap (λ (k : ℕ). position_from (λ x. n == x) k xs) (sym (add-one i)))
  where
    by : (t : Bool) {p q : Option ℕ} → p ≡ q → pick t (Some i) p ≡ cond t (Some i) q
    by true e = refl
    by false e = e

pub place_found : (n : ℕ) (xs : List ℕ) → position (λ x. n == x) xs ≡ place_of n xs
place_found n xs = position_from-zero (λ x. n == x) xs ∙ sym (place_at_test 0 n xs)
