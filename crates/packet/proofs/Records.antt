-- Laws of the records in use: how a walk over them goes on, and what it has left of the records of a number.
use Prim.Native.Nat.{ℕ, suc, ◌+◌, ◌-◌, ◌<◌, ◌≤◌}
use mathlib.Core.Path.{◌≡◌, refl, ap, ◌∙◌}
use mathlib.Core.List.{List, [], ◌∷◌}
use native.Mathlib.Numerals.{add-one}
use native.Mathlib.Omega.{arith}
use lib.ListN.{length, take, drop, get_or, length-take, drop_of_length-le}
use lib.Seq.{drop-cons, get_or-take}
use borrow.Author.Tests.{eq-eqb, ne_eqb}
use Rattle.packet.specs.Packet.{none, of_number}
use Rattle.packet.specs.declared.OptionRecord.{OptionRecord}
use Rattle.std.specs.Prelude.{◌==◌, count_by}
use Rattle.std.proofs.lemmas.List.Recursion.{is_count_by}
use Rattle.ground.proofs.Choice.{by_eq}

-- The first record is one of the number, or is not.
pub first_of : (n : ℕ) (r : OptionRecord) (rs : List OptionRecord) → r.number ≡ n → of_number n (r ∷ rs) ≡ r ∷ of_number n rs
first_of n r rs e = rw (eq-eqb r.number n e)

pub first_not : (n : ℕ) (r : OptionRecord) (rs : List OptionRecord) → (r.number ≡ n → ⊥) → of_number n (r ∷ rs) ≡ of_number n rs
first_not n r rs e = rw (ne_eqb r.number n e)

pub passes : (n : ℕ) (l : List OptionRecord) (r : OptionRecord) (rest : List OptionRecord) → l ≡ r ∷ rest → (r.number ≡ n → ⊥)
    → of_number n l ≡ of_number n rest
passes n l r rest e h = ap (of_number n) e ∙ first_not n r rest h

module _ (os : List OptionRecord) (count i : ℕ) (h : i < length (take count os)) where
  -- The records that are left at an index begin with the array's element there.
  pub left : drop i (take count os) ≡ get_or os i none ∷ drop (i + 1) (take count os)
  left =
      let inside : i < count = omega (arith, h, length-take count os) in
      rw (add-one, drop-cons (take count os) i none h, get_or-take count os i none inside)

  -- Those of a number begin with it where it is one of them, and else are those that are left after it.
  pub left_of : (n : ℕ) → (get_or os i none).number ≡ n
      → of_number n (drop i (take count os)) ≡ get_or os i none ∷ of_number n (drop (i + 1) (take count os))
  left_of n e = ap (of_number n) left ∙ first_of n (get_or os i none) (drop (i + 1) (take count os)) e

  pub left_not : (n : ℕ) → ((get_or os i none).number ≡ n → ⊥)
      → of_number n (drop i (take count os)) ≡ of_number n (drop (i + 1) (take count os))
  left_not n z = passes n (drop i (take count os)) (get_or os i none) (drop (i + 1) (take count os)) left z

-- Past the last record none is left.
pub none_left : (rs : List OptionRecord) (i : ℕ) → length rs ≤ i → drop i rs ≡ []
none_left rs i h = drop_of_length-le rs h

-- The element at an index from 1 is the one at the index before, without the first.
pub later : (l : List OptionRecord) (r : OptionRecord) (rs : List OptionRecord) → l ≡ r ∷ rs → (k : ℕ) → 0 < k
    → get_or l k none ≡ get_or rs (k - 1) none
later l r rs e k above =
    let past : k ≡ suc (k - 1) = omega arith in
    ap (λ (m : List OptionRecord). get_or m k none) e ∙ ap (λ (j : ℕ). get_or (r ∷ rs) j none) past

-- The records of a number are as many as a count of them says.
pub counted : (n : ℕ) (rs : List OptionRecord) → length (of_number n rs) ≡ count_by (λ r. r.number == n) rs
counted n =
    is_count_by (λ rs. length (of_number n rs)) (λ r. r.number == n) refl
    (λ r rs. by_eq r.number n (λ e. rw (eq-eqb r.number n e) (omega arith)) (λ z. rw (ne_eqb r.number n z) refl))
