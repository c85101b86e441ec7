-- The records of a number after an edit of the list: what was put is there, what was removed is not, and other numbers stay.
use Prim.Native.Nat.{ℕ, ◌<◌}
use mathlib.Core.Path.{◌≡◌, refl, sym, ap, ◌∙◌}
use mathlib.Core.Bool.{Bool, true, false}
use mathlib.Core.List.{List, [], ◌∷◌, ◌++◌, append-nil}
use native.Mathlib.Omega.{arith}
use lib.Dec.{leb, eqb}
use borrow.Author.Tests.{eq-eqb, ne_eqb, leb-false}
use Rattle.ground.specs.Choice.{pick, either}
use Rattle.ground.proofs.Choice.{on, on_eq}
use Rattle.packet.specs.Packet.{of_number}
use Rattle.packet.specs.declared.OptionRecord.{OptionRecord}
use Rattle.packet.proofs.Records.{first_of, first_not}
use Rattle.editing.specs.Edit.{up_to, inserted, removed}
use Rattle.editing.proofs.Records.{AllOf}

-- The records of a number of two lists, one after the other.
pub of_append : (m : ℕ) (rs ts : List OptionRecord) → of_number m (rs ++ ts) ≡ of_number m rs ++ of_number m ts
of_append m [] ts = refl
of_append m (r ∷ rs) ts =
    on_eq (λ (l : List OptionRecord). pick (eqb r.number m) (r ∷ of_number m (rs ++ ts)) (of_number m (rs ++ ts)) ≡ l ++ of_number m ts) r.number m
    (λ e. rw (eq-eqb r.number m e) (ap (λ (l : List OptionRecord). r ∷ l) (of_append m rs ts)))
    (λ e. rw (ne_eqb r.number m e) (of_append m rs ts))

-- Records that all have one number.
pub of_all : (n : ℕ) (rs : List OptionRecord) → AllOf n rs → of_number n rs ≡ rs
of_all n [] a = refl
of_all n (r ∷ rs) a = first_of n r rs a.0 ∙ ap (λ (l : List OptionRecord). r ∷ l) (of_all n rs a.1)

pub other_all : (m n : ℕ) (rs : List OptionRecord) → AllOf n rs → (m ≡ n → ⊥) → of_number m rs ≡ []
other_all m n [] a z = refl
other_all m n (r ∷ rs) a z = first_not m r rs (λ e. z (sym e ∙ a.0)) ∙ other_all m n rs a.1 z

-- Where no record has the number or a lower one, none has the number.
none_of : (n : ℕ) (rs : List OptionRecord) → up_to n rs ≡ false → of_number n rs ≡ []
none_of n [] e = refl
none_of n (r ∷ rs) e = go (leb r.number n) refl (none_of n rs) e
  where
    go : (t : Bool) → leb r.number n ≡ t → (up_to n rs ≡ false → of_number n rs ≡ []) → either t (up_to n rs) ≡ false → of_number n (r ∷ rs) ≡ []
    go true l ih i = absurd (let z : ◌≡◌ {A = ℕ} 0 1 = cc in omega arith)
    go false l ih i = let above : n < r.number = leb-false r.number n l in first_not n r rs (λ z. omega arith) ∙ ih i

module _ (n : ℕ) (new : List OptionRecord) (a : AllOf n new) where
  -- New records of a number are its last.
  pub of_inserted : (rs : List OptionRecord) → of_number n (inserted n new rs) ≡ of_number n rs ++ new
  of_inserted [] = of_all n new a
  of_inserted (r ∷ rs) =
      on (λ (l : List OptionRecord). of_number n l ≡ of_number n (r ∷ rs) ++ new) (up_to n (r ∷ rs))
      (λ _.
      on_eq (λ (l : List OptionRecord). of_number n (r ∷ inserted n new rs) ≡ l ++ new) r.number n
      (λ e. first_of n r (inserted n new rs) e ∙ ap (λ (l : List OptionRecord). r ∷ l) (of_inserted rs))
      (λ e. first_not n r (inserted n new rs) e ∙ of_inserted rs))
      (λ e.
      let none = none_of n (r ∷ rs) e in
      of_append n new (r ∷ rs) ∙ (rw (none, of_all n new a) (append-nil new)))

  -- Records of other numbers are as they were.
  module _ (m : ℕ) (z : m ≡ n → ⊥) where
    pub other_inserted : (rs : List OptionRecord) → of_number m (inserted n new rs) ≡ of_number m rs
    other_inserted [] = other_all m n new a z
    other_inserted (r ∷ rs) =
        on (λ (l : List OptionRecord). of_number m l ≡ of_number m (r ∷ rs)) (up_to n (r ∷ rs))
        (λ _.
        on_eq (λ (l : List OptionRecord). of_number m (r ∷ inserted n new rs) ≡ l) r.number m
        (λ e. first_of m r (inserted n new rs) e ∙ ap (λ (l : List OptionRecord). r ∷ l) (other_inserted rs))
        (λ e. first_not m r (inserted n new rs) e ∙ other_inserted rs))
        (λ _. of_append m new (r ∷ rs) ∙ ap (λ (l : List OptionRecord). l ++ of_number m (r ∷ rs)) (other_all m n new a z))

-- A removed number is absent.
pub of_removed : (n : ℕ) (rs : List OptionRecord) → of_number n (removed n rs) ≡ []
of_removed n [] = refl
of_removed n (r ∷ rs) =
    on_eq (λ (l : List OptionRecord). of_number n l ≡ []) r.number n (λ _. of_removed n rs) (λ e. first_not n r (removed n rs) e ∙ of_removed n rs)

pub other_removed : (m n : ℕ) (rs : List OptionRecord) → (m ≡ n → ⊥) → of_number m (removed n rs) ≡ of_number m rs
other_removed m n [] z = refl
other_removed m n (r ∷ rs) z =
    on_eq (λ (l : List OptionRecord). of_number m l ≡ of_number m (r ∷ rs)) r.number n
    (λ e. other_removed m n rs z ∙ sym (first_not m r rs (λ i. z (sym i ∙ e))))
    (λ _.
    on_eq (λ (l : List OptionRecord). of_number m (r ∷ removed n rs) ≡ l) r.number m
    (λ e. first_of m r (removed n rs) e ∙ ap (λ (l : List OptionRecord). r ∷ l) (other_removed m n rs z))
    (λ e. first_not m r (removed n rs) e ∙ other_removed m n rs z))
