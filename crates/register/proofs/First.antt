-- What the marks and the index of a refusal say: a record is marked exactly when it is recognised after the kept ones before it, and
-- the record that is named is the first critical one that isn't.
use Prim.Native.Nat.{ℕ, zero, suc, ◌+◌, ◌-◌, ◌<◌, ◌≤◌}
use mathlib.Core.Path.{◌≡◌, refl, sym, ap, subst, ◌∙◌}
use mathlib.Core.Bool.{Bool, true, false, not}
use mathlib.Core.List.{List, [], ◌∷◌, ◌++◌, map}
use native.Mathlib.Nat.{le_of_suc-le-suc, not-suc-le-zero}
use native.Mathlib.Omega.{arith}
use lib.ListN.{length, take, get_or, replicate, length-map, get_or-append}
use Rattle.ground.specs.Choice.{pick, both}
use Rattle.ground.proofs.Choice.{by_lt}
use Rattle.rfc.specs.Option.{critical}
use Rattle.rfc.specs.Recognised.{Fate, kept, ignored, rejected, fate}
use Rattle.packet.specs.Limits.{max_options}
use Rattle.packet.specs.Packet.{none}
use Rattle.packet.specs.declared.OptionRecord.{OptionRecord}
use Rattle.register.specs.Check.{Check, passes, refused, refused_at, recognised_after, keeping, fates, first_rejected, is_kept, marks}
use Rattle.register.specs.First.{kept_after, recognised_at, rejected_at, NoneRejected, First}

-- A fate says whether its record is recognised, and whether it is critical and isn't.
abbrev is_rejected : Fate → Bool
is_rejected kept = false
is_rejected ignored = false
is_rejected rejected = true

kept_so : (known needed : Bool) → is_kept (pick known kept (pick needed rejected ignored)) ≡ known
kept_so true needed = refl
kept_so false true = refl
kept_so false false = refl

rejected_so : (known needed : Bool) → both needed (not known) ≡ is_rejected (pick known kept (pick needed rejected ignored))
rejected_so true true = refl
rejected_so true false = refl
rejected_so false true = refl
rejected_so false false = refl

fates_length : (before : List ℕ) (rs : List OptionRecord) → length (fates before rs) ≡ length rs
fates_length before [] = refl
fates_length before (r ∷ rs) = ap suc (fates_length (keeping before r) rs)

-- The mark of a record.
mark_at : (before : List ℕ) (rs : List OptionRecord) (i : ℕ) → i < length rs
    → get_or (map is_kept (fates before rs)) i false ≡ recognised_after (kept_after before (take i rs)) (get_or rs i none)
unfolding fate
mark_at before [] i h = absurd (not-suc-le-zero h)
mark_at before (r ∷ rs) zero h = kept_so (recognised_after before r) (critical r.number)
mark_at before (r ∷ rs) (suc i) h = mark_at (keeping before r) rs i (le_of_suc-le-suc h)

all_false : (n i : ℕ) → get_or (replicate n false) i false ≡ false
all_false zero i = refl
all_false (suc n) zero = refl
all_false (suc n) (suc i) = all_false n i

past_all : (xs : List Bool) (n i : ℕ) → length xs ≤ i → get_or (xs ++ replicate n false) i false ≡ false
past_all [] n i h = all_false n i
past_all (x ∷ xs) n zero h = absurd (not-suc-le-zero h)
past_all (x ∷ xs) n (suc i) h = past_all xs n i (le_of_suc-le-suc h)

module _ (rs : List OptionRecord) (i : ℕ) where
  marks_length : length (map is_kept (fates [] rs)) ≡ length rs
  marks_length = length-map (fates [] rs) is_kept ∙ fates_length [] rs

  pub mark_in : i < length rs → get_or (marks (fates [] rs)) i false ≡ get_or (map is_kept (fates [] rs)) i false
  mark_in h =
      get_or-append (map is_kept (fates [] rs)) (replicate (max_options - length (fates [] rs)) false) false i (omega (arith, marks_length))

  pub marked_at : i < length rs → get_or (marks (fates [] rs)) i false ≡ recognised_at rs i
  marked_at h = mark_in h ∙ mark_at [] rs i h

  pub unmarked_past : length rs ≤ i → get_or (marks (fates [] rs)) i false ≡ false
  unmarked_past h = past_all (map is_kept (fates [] rs)) (max_options - length (fates [] rs)) i (omega (arith, marks_length))

-- The same of records after kept ones of these numbers.
abbrev rejected_in : List ℕ → List OptionRecord → ℕ → Bool
rejected_in before rs i = both (critical (get_or rs i none).number) (not (recognised_after (kept_after before (take i rs)) (get_or rs i none)))

record FirstIn (before : List ℕ) (rs : List OptionRecord) (i : ℕ) : Type 0 where
  inside : i < length rs
  here : rejected_in before rs i ≡ true
  earlier : (j : ℕ) → j < i → rejected_in before rs j ≡ false

-- The record that an answer names, where the first of them all has the index `k`.
record Named (k : ℕ) (before : List ℕ) (rs : List OptionRecord) (m i : ℕ) : Type 0 where
  number : m ≡ 16
  place : ℕ
  index : i ≡ k + place
  first : FirstIn before rs place

-- What an answer says of the records.
abbrev Says : ℕ → List ℕ → List OptionRecord → Check → Type 0
Says k before rs passes = (j : ℕ) → j < length rs → rejected_in before rs j ≡ false
Says k before rs (refused m) = ⊥
Says k before rs (refused_at m i) = Named k before rs m i

-- What holds at 0 and of each index after one that is below holds of all below.
below_suc : (P : ℕ → Type 0) (n : ℕ) → P 0 → ((j : ℕ) → j < n → P (suc j)) → (j : ℕ) → j < suc n → P j
below_suc P n z f zero h = z
below_suc P n z f (suc j) h = f j (le_of_suc-le-suc h)

module _ (k : ℕ) (before : List ℕ) (r : OptionRecord) (rs : List OptionRecord) where
  -- A record that isn't rejected leaves the answer to those after it.
  goes_on : rejected_in before (r ∷ rs) 0 ≡ false → (a : Check) → Says (k + 1) (keeping before r) rs a → Says k before (r ∷ rs) a
  goes_on z passes s = below_suc (λ (j : ℕ). rejected_in before (r ∷ rs) j ≡ false) (length rs) z s
  goes_on z (refused m) s = absurd s
  goes_on z (refused_at m i) s =
      record {
        number = s.number;
        place = suc s.place;
        index = omega (arith, s.index);
        first = record {
          inside = omega (arith, s.first.inside);
          here = s.first.here;
          earlier = below_suc (λ (j : ℕ). rejected_in before (r ∷ rs) j ≡ false) s.place z s.first.earlier;
        };
      }

  turn : (f : Fate) → rejected_in before (r ∷ rs) 0 ≡ is_rejected f → Says (k + 1) (keeping before r) rs (first_rejected (k + 1) (fates (keeping before r) rs))
      → Says k before (r ∷ rs) (first_rejected k (f ∷ fates (keeping before r) rs))
  turn kept e s = goes_on e (first_rejected (k + 1) (fates (keeping before r) rs)) s
  turn ignored e s = goes_on e (first_rejected (k + 1) (fates (keeping before r) rs)) s
  turn rejected e s =
      record {
        number = refl;
        place = 0;
        index = omega arith;
        first = record { inside = omega arith; here = e; earlier = λ j h. absurd (not-suc-le-zero h) };
      }

says : (k : ℕ) (before : List ℕ) (rs : List OptionRecord) → Says k before rs (first_rejected k (fates before rs))
unfolding fate
says k before [] = λ j h. absurd (not-suc-le-zero h)
says k before (r ∷ rs) =
    turn k before r rs (fate r.number (recognised_after before r)) (rejected_so (recognised_after before r) (critical r.number))
    (says (k + 1) (keeping before r) rs)

-- What is rejected isn't kept and isn't passed over.
clash : {A : Type 0} (t : Bool) → t ≡ true → t ≡ false → A
clash t e d = let z : true ≡ false = sym e ∙ d in let no : ◌≡◌ {A = ℕ} 0 1 = cc in absurd (omega arith)

module _ (rs : List OptionRecord) where
  abbrev answer : Check
  answer = first_rejected 0 (fates [] rs)

  -- A record that is the first, said without those before the records.
  whole : {i : ℕ} → FirstIn [] rs i → First rs i
  whole f = record { inside = f.inside; here = f.here; before = f.earlier }

  -- The first record is one.
  one_first : (i j : ℕ) → First rs i → First rs j → i ≡ j
  one_first i j f g =
      by_lt i j (λ h. clash (rejected_at rs i) f.here (g.before i h))
      (λ h. by_lt j i (λ l. clash (rejected_at rs j) g.here (f.before j l)) (λ l. omega arith))

  -- The records pass exactly when none of them is rejected.
  pub passes_then : answer ≡ passes → NoneRejected rs (length rs)
  passes_then e = subst (Says 0 [] rs) e (says 0 [] rs)

  pub passes_when : NoneRejected rs (length rs) → answer ≡ passes
  passes_when n = go answer (says 0 [] rs)
    where
      go : (a : Check) → Says 0 [] rs a → a ≡ passes
      go passes s = refl
      go (refused k) s = absurd s
      go (refused_at k i) s = clash (rejected_at rs s.place) s.first.here (n s.place s.first.inside)

  -- A record is named exactly when it is the first that is rejected.
  pub named_then : (k i : ℕ) → answer ≡ refused_at k i → First rs i
  named_then k i e =
      let s : Named 0 [] rs k i = subst (Says 0 [] rs) e (says 0 [] rs) in
      let same : s.place ≡ i = omega (arith, s.index) in
      subst (First rs) same (whole s.first)

  pub named_when : (i : ℕ) → First rs i → answer ≡ refused_at 16 i
  named_when i f = go answer (says 0 [] rs)
    where
      go : (a : Check) → Says 0 [] rs a → a ≡ refused_at 16 i
      go passes s = clash (rejected_at rs i) f.here (s i f.inside)
      go (refused k) s = absurd s
      go (refused_at k j) s =
          let same : j ≡ i = omega (arith, s.index, one_first s.place i (whole s.first) f) in
          rw (s.number, same)
