-- The check beside the severe rule: what that lets pass passes, and its listed records are kept; what is refused here was refused there
-- at the same record or before it.
use Prim.Native.Nat.{ℕ, ◌+◌, ◌<◌, ◌≤◌}
use mathlib.Core.Path.{◌≡◌, refl, sym, ap, ◌∙◌}
use mathlib.Core.Bool.{Bool, true, false}
use mathlib.Core.List.{List, [], ◌∷◌, ◌++◌, map}
use native.Mathlib.Omega.{arith}
use lib.ListN.{length, get_or, length-append, get_or-map}
use lib.Dec.{ltb, eqb}
use borrow.Author.Tests.{ltb-false, le-leb, ne_eqb}
use Rattle.ground.specs.Choice.{pick, either}
use Rattle.ground.specs.Table.{listed}
use Rattle.ground.proofs.Choice.{on, neither}
use Rattle.rfc.specs.Option.{critical}
use Rattle.rfc.specs.Recognised.{recognised, Fate, kept, ignored, rejected, fate}
use Rattle.packet.specs.Packet.{none}
use Rattle.packet.specs.declared.OptionRecord.{OptionRecord}
use Rattle.register.specs.Register.{register, row_in, is_row, registered, definition_of, recognised_by, is_recognised}
use Rattle.register.specs.Check.{Check, passes, refused_at, recognised_after, keeping, fates, first_rejected, is_kept, marks}
use Rattle.register.specs.Severe.{breaks_row, breaks_listing, breaks, first_break}
use Rattle.register.specs.declared.row.Row.{Row}
use Rattle.std.specs.Prelude.{Option, Some, None}
use Rattle.register.proofs.First.{mark_in}
use Rattle.register.proofs.Walk.{listed_more, either_false}

-- A record that doesn't break its row is recognised.
keeps_row : (r : Row) (len : ℕ) (again : Bool) → breaks_row r len again ≡ false → recognised (definition_of r) len again ≡ true
unfolding recognised
keeps_row r len again e =
    let short = neither (ltb len r.shortest) _ e in
    let long = neither (ltb r.longest len) _ short.1 in
    rw (le-leb r.shortest len (ltb-false len r.shortest short.0), le-leb len r.longest (ltb-false r.longest len long.0), long.1)

-- A record that doesn't break the register is kept where it is listed, and else passed over.
spared_by : (l : Option Row) (number len : ℕ) (again before : Bool) → (is_row l ≡ true → before ≡ again) → breaks_listing l number len again ≡ false
    → recognised_by l len before ≡ is_row l
spared_by (Some r) number len again before f e = ap (recognised (definition_of r) len) (f refl) ∙ keeps_row r len again e
spared_by None number len again before f e = refl

elective_by : (l : Option Row) (number len : ℕ) (again : Bool) → breaks_listing l number len again ≡ false → is_row l ≡ false → critical number ≡ false
elective_by (Some r) number len again e z = cc
elective_by None number len again e z = e

-- The kept records and the earlier ones have the same listed numbers.
abbrev Agree : List ℕ → List ℕ → Type 0
Agree before earlier = (m : ℕ) → registered m ≡ true → listed m before ≡ listed m earlier

module _ (before earlier : List ℕ) (agree : Agree before earlier) (r : OptionRecord) (e : breaks (listed r.number earlier) r ≡ false) where
  spared : recognised_after before r ≡ registered r.number
  unfolding breaks is_recognised registered
  spared = spared_by (row_in r.number register) r.number r.len (listed r.number earlier) (listed r.number before) (agree r.number) e

  elective : registered r.number ≡ false → critical r.number ≡ false
  unfolding breaks registered
  elective = elective_by (row_in r.number register) r.number r.len (listed r.number earlier) e

  becomes : fate r.number (recognised_after before r) ≡ pick (registered r.number) kept ignored
  unfolding fate
  becomes = ap (fate r.number) spared ∙ go (registered r.number) elective
    where
      go : (b : Bool) → (b ≡ false → critical r.number ≡ false) → fate r.number b ≡ pick b kept ignored
      go true f = refl
      go false f = rw (f refl)

  agree_on : Agree (keeping before r) (earlier ++ (r.number ∷ []))
  agree_on m h = rw spared (go (registered r.number) refl)
    where
      go : (b : Bool) → registered r.number ≡ b → listed m (pick b (before ++ (r.number ∷ [])) before) ≡ listed m (earlier ++ (r.number ∷ []))
      go true t = listed_more m before r.number ∙ (ap (λ (x : Bool). either x (eqb m r.number)) (agree m h) ∙ sym (listed_more m earlier r.number))
      go false t =
          let apart : (m ≡ r.number → ⊥) = λ q. let z : true ≡ false = sym h ∙ (ap registered q ∙ t) in let no : ◌≡◌ {A = ℕ} 0 1 = cc in omega arith in
          agree m h ∙ sym (listed_more m earlier r.number ∙ (ap (either (listed m earlier)) (ne_eqb m r.number apart) ∙ either_false (listed m earlier)))

-- A record that is kept or passed over leaves the answer to those after it, and its mark says which.
goes_on : (k : ℕ) (b : Bool) (fs : List Fate) → first_rejected k (pick b kept ignored ∷ fs) ≡ first_rejected (k + 1) fs
goes_on k true fs = refl
goes_on k false fs = refl

mark : (b : Bool) → is_kept (pick b kept ignored) ≡ b
mark true = refl
mark false = refl

-- Records pass, the first of which has the index `k`, and the listed ones of them are kept.
pub record Spared (k : ℕ) (before : List ℕ) (rs : List OptionRecord) : Type 0 where
  pub pass : first_rejected k (fates before rs) ≡ passes
  pub marked : map is_kept (fates before rs) ≡ map (λ (r : OptionRecord). registered r.number) rs

one_more : (k : ℕ) (before : List ℕ) (r : OptionRecord) (rs : List OptionRecord)
    → fate r.number (recognised_after before r) ≡ pick (registered r.number) kept ignored
    → Spared (k + 1) (keeping before r) rs → Spared k before (r ∷ rs)
one_more k before r rs is s =
    record {
      pass = rw is (goes_on k (registered r.number) (fates (keeping before r) rs) ∙ s.pass);
      marked = rw (is, mark (registered r.number), s.marked);
    }

-- What the severe rule lets pass.
spares : (k : ℕ) (before earlier : List ℕ) (rs : List OptionRecord) → Agree before earlier → first_break earlier rs ≡ passes → Spared k before rs
spares k before earlier [] agree e = record { pass = refl; marked = refl }
spares k before earlier (r ∷ rs) agree e =
    on (λ (a : Check). a ≡ passes → Spared k before (r ∷ rs)) (breaks (listed r.number earlier) r)
    (λ t q. let no : ◌≡◌ {A = ℕ} 0 1 = cc in absurd (omega arith))
    (λ t q. one_more k before r rs (becomes before earlier agree r t) (spares (k + 1) (keeping before r) (earlier ++ (r.number ∷ [])) rs (agree_on before earlier agree r t) q))
    e

pub spared_all : (rs : List OptionRecord) → first_break [] rs ≡ passes → Spared 0 [] rs
spared_all rs = spares 0 [] [] rs (λ m h. refl)

-- The marks of records that are spared so.
zero_unlisted : registered 0 ≡ false
unfolding registered register
zero_unlisted = refl

pub listed_at : (rs : List OptionRecord) → Spared 0 [] rs → (i : ℕ) → i < length rs → get_or (marks (fates [] rs)) i false ≡ registered (get_or rs i none).number
listed_at rs s i h =
    mark_in rs i h
    ∙ (ap (λ (l : List Bool). get_or l i false) s.marked
    ∙ (ap (get_or (map (λ (r : OptionRecord). registered r.number) rs) i) (sym zero_unlisted) ∙ get_or-map (λ (r : OptionRecord). registered r.number) rs i none))

-- The index of a refusal is not below that of the first record.
from_on : (k : ℕ) (fs : List Fate) (m i : ℕ) → first_rejected k fs ≡ refused_at m i → k ≤ i
from_on k [] m i e = let no : ◌≡◌ {A = ℕ} 0 1 = cc in absurd (omega arith)
from_on k (kept ∷ fs) m i e = omega (arith, from_on (k + 1) fs m i e)
from_on k (ignored ∷ fs) m i e = omega (arith, from_on (k + 1) fs m i e)
from_on k (rejected ∷ fs) m i e = let same : k ≡ i = cc in omega arith

-- What is refused is refused by the severe rule at the same record or before it.
refuses : (before earlier : List ℕ) (rs : List OptionRecord) (m i : ℕ) → Agree before earlier
    → first_rejected (length earlier) (fates before rs) ≡ refused_at m i → (j : ℕ) × (j ≤ i) × (first_break earlier rs ≡ refused_at 16 j)
refuses before earlier [] m i agree e = let no : ◌≡◌ {A = ℕ} 0 1 = cc in absurd (omega arith)
refuses before earlier (r ∷ rs) m i agree e =
    on (λ (a : Check). (j : ℕ) × (j ≤ i) × (a ≡ refused_at 16 j)) (breaks (listed r.number earlier) r)
    (λ t. (length earlier, from_on (length earlier) (fates before (r ∷ rs)) m i e, refl))
    (λ t.
    let next : length (earlier ++ (r.number ∷ [])) ≡ length earlier + 1 = simp length-append (omega arith) in
    let later : first_rejected (length earlier + 1) (fates (keeping before r) rs) ≡ refused_at m i =
    sym (goes_on (length earlier) (registered r.number) (fates (keeping before r) rs)) ∙ (ap (λ (f : Fate). first_rejected (length earlier) (f ∷ fates (keeping before r) rs)) (sym (becomes before earlier agree r t)) ∙ e) in
    refuses (keeping before r) (earlier ++ (r.number ∷ [])) rs m i (agree_on before earlier agree r t) (rw next later))

pub refused_before : (rs : List OptionRecord) (m i : ℕ) → first_rejected 0 (fates [] rs) ≡ refused_at m i
    → (j : ℕ) × (j ≤ i) × (first_break [] rs ≡ refused_at 16 j)
refused_before rs m i = refuses [] [] rs m i (λ m h. refl)
