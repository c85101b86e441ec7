-- Laws of the register's rows: the row of a number is one of that number, and each row is that of its number.
use Prim.Native.Nat.{ℕ, zero, suc, ◌+◌, ◌<◌, ◌≤◌}
use mathlib.Core.Path.{◌≡◌, refl, subst}
use mathlib.Core.Bool.{Bool, false, not}
use mathlib.Core.List.{List, [], ◌∷◌, map}
use native.Mathlib.Nat.{le_of_suc-le-suc, not-suc-le-zero}
use native.Mathlib.Numerals.{add-one}
use lib.Dec.{T, T_not}
use lib.ListN.{length, drop, get_or, length-map, drop_of_length-le, get_or-map}
use lib.Seq.{drop-cons}
use borrow.Author.Tests.{eq-eqb, ne_eqb}
use Rattle.ground.specs.Table.{listed, once}
use Rattle.ground.proofs.Choice.{on_eq}
use Rattle.ground.proofs.Table.{both_left, both_right, entry_listed}
use Rattle.packet.specs.declared.OptionRecord.{OptionRecord}
use Rattle.register.specs.Register.{register, no_row, row_in, is_recognised}
use Rattle.register.specs.declared.row.Row.{Row}
use Rattle.std.specs.Prelude.{Option, Some, None}

-- What is left of the rows from a place on: the first of them is the number's; it is not; nothing is left.
module _ (n i : ℕ) (rs : List Row) where
  pub row_here : i < length rs → (get_or rs i no_row).number ≡ n → row_in n (drop i rs) ≡ Some (get_or rs i no_row)
  row_here h e = rw (drop-cons rs i no_row, eq-eqb (get_or rs i no_row).number n e)

  pub row_on : i < length rs → ((get_or rs i no_row).number ≡ n → ⊥) → row_in n (drop i rs) ≡ row_in n (drop (i + 1) rs)
  row_on h z = rw (add-one, drop-cons rs i no_row, ne_eqb (get_or rs i no_row).number n z)

  pub row_past : length rs ≤ i → row_in n (drop i rs) ≡ None
  row_past h = rw (drop_of_length-le rs h)

-- The numbers of rows.
abbrev pub numbers_in : List Row → List ℕ
numbers_in rs = map (λ (r : Row). r.number) rs

-- The row of a number is one of that number.
abbrev Of : ℕ → Option Row → Type 0
Of n (Some r) = r.number ≡ n
Of n None = Unit {0}

of_number : (n : ℕ) (rs : List Row) → Of n (row_in n rs)
of_number n [] = tt
of_number n (r ∷ rs) = on_eq (Of n) r.number n (λ e. e) (λ _. of_number n rs)

pub row_number : (n : ℕ) (r : Row) → row_in n register ≡ Some r → r.number ≡ n
row_number n r e = subst (Of n) e (of_number n register)

-- Where each number stands once, each row is that of its number.
own_row : (rs : List Row) → T (once (numbers_in rs)) → (k : ℕ) → k < length rs → row_in (get_or rs k no_row).number rs ≡ Some (get_or rs k no_row)
own_row [] t k h = absurd (not-suc-le-zero h)
own_row (r ∷ rs) t zero h = rw (eq-eqb r.number r.number refl)
own_row (r ∷ rs) t (suc k) h =
    let inside : k < length rs = le_of_suc-le-suc h in
    let later : T (listed (get_or rs k no_row).number (numbers_in rs)) =
    subst (λ (n : ℕ). T (listed n (numbers_in rs))) (get_or-map (λ (q : Row). q.number) rs k no_row)
    (entry_listed (numbers_in rs) k (rw (length-map rs (λ (q : Row). q.number)) inside)) in
    let other : (r.number ≡ (get_or rs k no_row).number → ⊥) =
    λ e. T_not (listed r.number (numbers_in rs)) (both_left (not (listed r.number (numbers_in rs))) (once (numbers_in rs)) t) (rw e later) in
    rw (ne_eqb r.number (get_or rs k no_row).number other) (own_row rs (both_right (not (listed r.number (numbers_in rs))) (once (numbers_in rs)) t) k inside)

-- There are 18 rows, each number once.
pub row_count : length register ≡ 18
unfolding register
row_count = refl

pub each_once : T (once (numbers_in register))
unfolding register
each_once = tt

pub row_of_each : (k : ℕ) → k < length register → row_in (get_or register k no_row).number register ≡ Some (get_or register k no_row)
row_of_each = own_row register each_once

-- 0 is in no row; 9, 28 and 258 have names and no rows. So none of them is recognised: 9 is refused, the others are passed over.
module _ (before : Bool) (r : OptionRecord) where
  pub zero_unknown : r.number ≡ 0 → is_recognised before r ≡ false
  unfolding is_recognised register
  zero_unknown e = rw e

  pub nine_unknown : r.number ≡ 9 → is_recognised before r ≡ false
  unfolding is_recognised register
  nine_unknown e = rw e

  pub size2_unknown : r.number ≡ 28 → is_recognised before r ≡ false
  unfolding is_recognised register
  size2_unknown e = rw e

  pub no_response_unknown : r.number ≡ 258 → is_recognised before r ≡ false
  unfolding is_recognised register
  no_response_unknown e = rw e
