-- Laws of the lists that edits make: records inserted, removed and replaced.
use Prim.Native.Nat.{ℕ, ◌+◌, ◌<◌, ◌≤◌}
use mathlib.Core.Path.{◌≡◌, refl, sym, ap}
use mathlib.Core.Bool.{Bool, true, false}
use mathlib.Core.List.{List, [], ◌∷◌, ◌++◌, append-nil, map}
use native.Mathlib.Omega.{arith}
use lib.Dec.{ltb}
use borrow.Author.Tests.{le-ltb, le-leb, lt-leb, ltb-false, eq-eqb, ne_eqb}
use Rattle.ground.specs.Choice.{pick}
use Rattle.ground.proofs.Choice.{on, on_eq, by_lt}
use Rattle.packet.specs.declared.OptionRecord.{OptionRecord}
use Rattle.packet.specs.declared.Range.{Range}
use Rattle.judging.specs.Judge.{falling}
use Rattle.splicing.specs.Splice.{record_of}
use Rattle.editing.specs.Edit.{up_to, inserted, removed}

-- Numbers that do not fall from `before` on: the first is no lower, and the rest do not fall from it on.
pub record Rises (before : ℕ) (r : OptionRecord) (rs : List OptionRecord) : Type 0 where
  pub first : before ≤ r.number
  pub rest : falling r.number rs ≡ false

pub rises : (before : ℕ) (r : OptionRecord) (rs : List OptionRecord) → falling before (r ∷ rs) ≡ false → Rises before r rs
rises before r rs = go (ltb r.number before) refl
  where
    go : (t : Bool) → ltb r.number before ≡ t → pick t true (falling r.number rs) ≡ false → Rises before r rs
    go true e h = absurd (let z : ◌≡◌ {A = ℕ} 0 1 = cc in omega arith)
    go false e h = record { first = ltb-false r.number before e; rest = h }

-- Above a number that does not fall any more, no record has it or a lower one.
pub none_up_to : (n before : ℕ) (rs : List OptionRecord) → n < before → falling before rs ≡ false → up_to n rs ≡ false
none_up_to n before [] h e = refl
none_up_to n before (r ∷ rs) h e =
    let up = rises before r rs e in
    let above : n < r.number = omega (arith, up.first) in
    rw (lt-leb r.number n above) (none_up_to n r.number rs above up.rest)

module _ (n : ℕ) (new : List OptionRecord) where
  -- Where no record has the number or a lower one, the new ones come first.
  pub inserted_first : (rs : List OptionRecord) → up_to n rs ≡ false → inserted n new rs ≡ new ++ rs
  inserted_first [] e = sym (append-nil new)
  inserted_first (r ∷ rs) e = rw e refl

  -- They come after a record of the number or a lower one.
  pub inserted_after : (r : OptionRecord) (rs : List OptionRecord) → r.number ≤ n → inserted n new (r ∷ rs) ≡ r ∷ inserted n new rs
  inserted_after r rs h = rw (le-leb r.number n h) refl

-- No new record changes nothing.
pub inserted_nothing : (n : ℕ) (rs : List OptionRecord) → inserted n [] rs ≡ rs
inserted_nothing n [] = refl
inserted_nothing n (r ∷ rs) =
    on (λ (l : List OptionRecord). l ≡ r ∷ rs) (up_to n (r ∷ rs)) (λ _. ap (λ (l : List OptionRecord). r ∷ l) (inserted_nothing n rs)) (λ _. refl)

-- A record of the number is left out, any other stays.
module _ (n : ℕ) (r : OptionRecord) (rs : List OptionRecord) where
  pub removed_one : r.number ≡ n → removed n (r ∷ rs) ≡ removed n rs
  removed_one e = rw (eq-eqb r.number n e) refl

  pub removed_not : (r.number ≡ n → ⊥) → removed n (r ∷ rs) ≡ r ∷ removed n rs
  removed_not e = rw (ne_eqb r.number n e) refl

-- Every record has the number.
abbrev pub AllOf : ℕ → List OptionRecord → Type 0
AllOf n [] = Unit {0}
AllOf n (r ∷ rs) = (r.number ≡ n) × AllOf n rs

pub all_of : (n : ℕ) (ranges : List Range) → AllOf n (map (record_of n) ranges)
all_of n [] = tt
all_of n (r ∷ rs) = (refl, all_of n rs)

-- Numbers that do not fall from a number on do not fall from a lower one on, nor after a record in between.
pub falling_after : (before : ℕ) (r : OptionRecord) (rs : List OptionRecord) → before ≤ r.number → falling r.number rs ≡ false → falling before (r ∷ rs) ≡ false
falling_after before r rs h e = rw (le-ltb r.number before h) e

pub falling_lower : (low before : ℕ) (rs : List OptionRecord) → low ≤ before → falling before rs ≡ false → falling low rs ≡ false
falling_lower low before [] h e = refl
falling_lower low before (r ∷ rs) h e = let up = rises before r rs e in falling_after low r rs (omega (arith, up.first)) up.rest

-- Removing records leaves numbers that do not fall.
pub falling_removed : (n before : ℕ) (rs : List OptionRecord) → falling before rs ≡ false → falling before (removed n rs) ≡ false
falling_removed n before [] e = refl
falling_removed n before (r ∷ rs) e =
    let up = rises before r rs e in
    let rest : falling r.number (removed n rs) ≡ false = falling_removed n r.number rs up.rest in
    on_eq (λ (l : List OptionRecord). falling before l ≡ false) r.number n
    (λ _. falling_lower before r.number (removed n rs) up.first rest) (λ _. falling_after before r (removed n rs) up.first rest)

-- So does putting records of a number before higher ones, and where they belong.
pub falling_put : (n before : ℕ) (new rs : List OptionRecord) → AllOf n new → before ≤ n → falling n rs ≡ false → falling before (new ++ rs) ≡ false
falling_put n before [] rs a h e = falling_lower before n rs h e
falling_put n before (x ∷ new) rs a h e =
    falling_after before x (new ++ rs) (omega (arith, a.0)) (falling_put n x.number new rs a.1 (omega (arith, a.0)) e)

pub falling_inserted : (n before : ℕ) (new rs : List OptionRecord) → AllOf n new → before ≤ n → falling before rs ≡ false → falling before (inserted n new rs) ≡ false
falling_inserted n before new [] a h e = rw (← append-nil new) (falling_put n before new [] a h refl)
falling_inserted n before new (r ∷ rs) a h e =
    let up = rises before r rs e in
    by_lt r.number (n + 1)
    (λ low. rw (le-leb r.number n (omega arith)) (falling_after before r (inserted n new rs) up.first (falling_inserted n r.number new rs a (omega arith) up.rest)))
    (λ high.
    let above : n < r.number = omega arith in
    let none : up_to n (r ∷ rs) ≡ false = rw (lt-leb r.number n above) (none_up_to n r.number rs above up.rest) in
    rw (inserted_first n new (r ∷ rs) none) (falling_put n before new (r ∷ rs) a h (falling_after n r rs (omega arith) up.rest)))
