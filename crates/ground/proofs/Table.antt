-- What a computed test over a table says: its rule at every place, and that each number stands in it once.
use mathlib.Core.Path.{◌≡◌, ◌∙◌, refl, ap, subst, sym}
use mathlib.Core.Bool.{Bool, true, false, not}
use mathlib.Core.List.{List, [], ◌∷◌}
use Prim.Native.Nat.{ℕ, zero, suc, ◌+◌, ◌<◌}
use native.Mathlib.Nat.{add-zero, zero-add, add-suc, suc-add, le_of_suc-le-suc, not-suc-le-zero}
use lib.Dec.{T, eqb, eqb_refl, T_not}
use lib.ListN.{length, get_or}
use Rattle.ground.specs.Choice.{both, either}
use Rattle.ground.specs.Table.{every, listed, once}

pub both_left : (a b : Bool) → T (both a b) → T a
both_left true b t = tt
both_left false b t = t

pub both_right : (a b : Bool) → T (both a b) → T b
both_right true b t = t
both_right false b t = absurd t

either_left : (a b : Bool) → T a → T (either a b)
either_left true b t = tt
either_left false b t = absurd t

either_right : (a b : Bool) → T b → T (either a b)
either_right true b t = tt
either_right false b t = t

from : (f : ℕ → ℕ → Bool) (xs : List ℕ) (i : ℕ) → T (every f i xs) → (k : ℕ) → k < length xs → T (f (i + k) (get_or xs k 0))
from f [] i t k h = absurd (not-suc-le-zero h)
from f (x ∷ xs) i t zero h = subst (λ (m : ℕ). T (f m x)) (sym (add-zero i)) (both_left (f i x) (every f (suc i) xs) t)
from f (x ∷ xs) i t (suc k) h =
    subst (λ (m : ℕ). T (f m (get_or xs k 0))) (suc-add i k ∙ sym (add-suc i k))
    (from f xs (suc i) (both_right (f i x) (every f (suc i) xs) t) k (le_of_suc-le-suc h))

-- A test that passes over the whole table holds at each place.
pub at : (f : ℕ → ℕ → Bool) (xs : List ℕ) → T (every f 0 xs) → (k : ℕ) → k < length xs → T (f k (get_or xs k 0))
at f xs t k h = subst (λ (m : ℕ). T (f m (get_or xs k 0))) (zero-add k) (from f xs 0 t k h)

-- The entry at a place is listed.
pub entry_listed : (xs : List ℕ) (k : ℕ) → k < length xs → T (listed (get_or xs k 0) xs)
entry_listed [] k h = absurd (not-suc-le-zero h)
entry_listed (x ∷ xs) zero h = either_left (eqb x x) (listed x xs) (eqb_refl x)
entry_listed (x ∷ xs) (suc k) h =
    either_right (eqb (get_or xs k 0) x) (listed (get_or xs k 0) xs) (entry_listed xs k (le_of_suc-le-suc h))

-- Two places with one number are one place.
pub one_place : (xs : List ℕ) → T (once xs) → (i j : ℕ) → i < length xs → j < length xs → get_or xs i 0 ≡ get_or xs j 0 → i ≡ j
one_place [] t i j hi hj e = absurd (not-suc-le-zero hi)
one_place (x ∷ xs) t zero zero hi hj e = refl
one_place (x ∷ xs) t zero (suc j) hi hj e =
    absurd
    (T_not (listed x xs) (both_left (not (listed x xs)) (once xs) t)
    (subst (λ (n : ℕ). T (listed n xs)) (sym e) (entry_listed xs j (le_of_suc-le-suc hj))))
one_place (x ∷ xs) t (suc i) zero hi hj e =
    absurd
    (T_not (listed x xs) (both_left (not (listed x xs)) (once xs) t)
    (subst (λ (n : ℕ). T (listed n xs)) e (entry_listed xs i (le_of_suc-le-suc hi))))
one_place (x ∷ xs) t (suc i) (suc j) hi hj e =
    ap suc (one_place xs (both_right (not (listed x xs)) (once xs) t) i j (le_of_suc-le-suc hi) (le_of_suc-le-suc hj) e)
