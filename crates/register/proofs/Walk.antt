-- The walk over the records: since numbers never fall, the last number kept tells whether a kept record has a number.
use Prim.Native.Nat.{ℕ, suc, ◌+◌, ◌-◌, ◌<◌, ◌≤◌}
use mathlib.Core.Path.{◌≡◌, refl, sym, ap, ◌∙◌}
use mathlib.Core.Bool.{Bool, true, false}
use mathlib.Core.List.{List, [], ◌∷◌, ◌++◌, append-nil, map, map-append}
use native.Mathlib.Omega.{arith}
use lib.ListN.{length, drop, set, replicate, length-append, length-map}
use lib.Seq.{set_at, append_snoc}
use lib.Dec.{ltb, eqb}
use borrow.Author.Tests.{le-ltb, ltb-false, eq-eqb, ne_eqb}
use Rattle.ground.specs.Choice.{either}
use Rattle.ground.specs.Table.{listed}
use Rattle.ground.proofs.Choice.{by_eq, either_right, neither, none_of}
use Rattle.rfc.specs.Option.{critical}
use Rattle.rfc.specs.Recognised.{Fate, kept, ignored, rejected, fate}
use Rattle.packet.specs.Limits.{max_options}
use Rattle.judging.specs.Judge.{falling}
use Rattle.packet.specs.declared.OptionRecord.{OptionRecord}
use Rattle.register.specs.Register.{is_recognised}
use Rattle.register.specs.Check.{Check, passes, refused_at, recognised_after, fates, first_rejected, is_kept, marks, Report, nothing_kept, reported, sorted}
use Rattle.register.proofs.Rows.{zero_unknown}

pub either_false : (a : Bool) → either a false ≡ a
either_false true = refl
either_false false = refl

either_either : (a b c : Bool) → either a (either b c) ≡ either (either a b) c
either_either true b c = refl
either_either false b c = refl

-- A number is listed with one more entry where it was listed before or is that entry.
pub listed_more : (n : ℕ) (xs : List ℕ) (y : ℕ) → listed n (xs ++ (y ∷ [])) ≡ either (listed n xs) (eqb n y)
listed_more n [] y = either_false (eqb n y)
listed_more n (x ∷ xs) y = ap (either (eqb n x)) (listed_more n xs y) ∙ either_either (eqb n x) (listed n xs) (eqb n y)

-- Numbers that don't fall from one don't fall from a lower one.
falling_from : (low high : ℕ) (rs : List OptionRecord) → low ≤ high → falling high rs ≡ false → falling low rs ≡ false
falling_from low high [] h e = refl
falling_from low high (r ∷ rs) h e =
    let n = neither (ltb r.number high) (falling r.number rs) e in
    let up : high ≤ r.number = ltb-false r.number high n.0 in
    none_of (ltb r.number low) (falling r.number rs) (le-ltb r.number low (omega arith)) n.1

-- Before the record at an index: what became of those passed, none of which is rejected, and the numbers of the kept ones; what is
-- left gives what becomes of all; and the last number kept tells of every number that may follow whether a kept record has it.
pub record Walk (rs : List OptionRecord) (marked : List Bool) (last i : ℕ) : Type 0 where
  pub done : List Fate
  pub before : List ℕ
  pub counted : i ≡ length done
  pub whole : fates [] rs ≡ done ++ fates before (drop i rs)
  pub goes_on : (fs : List Fate) → first_rejected 0 (done ++ fs) ≡ first_rejected i fs
  pub array : marked ≡ map is_kept done ++ replicate (max_options - i) false
  pub ordered : falling last (drop i rs) ≡ false
  pub tells : (n : ℕ) → last ≤ n → 0 < n → listed n before ≡ eqb n last

pub start : (rs : List OptionRecord) → falling 0 rs ≡ false → Walk rs (replicate max_options false) 0 0
start rs e =
    record { done = []; before = []; counted = refl; whole = refl; goes_on = λ fs. refl; array = refl; ordered = e; tells = λ n h above. sym (ne_eqb n 0 (λ z. omega arith)) }

-- After a record that is kept, its number is the one that tells.
tells_next : (before : List ℕ) (last m : ℕ) → last ≤ m
    → ((n : ℕ) → last ≤ n → 0 < n → listed n before ≡ eqb n last)
    → (n : ℕ) → m ≤ n → 0 < n → listed n (before ++ (m ∷ [])) ≡ eqb n m
tells_next before last m h f n l above =
    by_eq n m
    (λ e. let t : eqb n m ≡ true = eq-eqb n m e in
    listed_more n before m ∙ (either_right (listed n before) (eqb n m) t ∙ sym t))
    (λ z.
    let no : listed n before ≡ false = f n (omega arith) above ∙ ne_eqb n last (λ e. z (omega arith)) in
    listed_more n before m ∙ rw no)

-- One more mark in the array, true or as it was.
module _ (done : List Fate) (i : ℕ) (counted : i ≡ length done) (room : i < max_options) where
  left : max_options - i ≡ suc (max_options - (i + 1))
  left = omega arith

  rest : List Bool
  rest = replicate (max_options - (i + 1)) false

  one_more : (f : Fate) → map is_kept done ++ (is_kept f ∷ rest) ≡ map is_kept (done ++ (f ∷ [])) ++ rest
  one_more f = sym (ap (λ (l : List Bool). l ++ rest) (map-append is_kept done (f ∷ [])) ∙ append_snoc (map is_kept done) (is_kept f) rest)

  marks_kept : (marked : List Bool) → marked ≡ map is_kept done ++ replicate (max_options - i) false
      → set marked i true ≡ map is_kept (done ++ (kept ∷ [])) ++ replicate (max_options - (i + 1)) false
  unfolding rest
  marks_kept marked e =
      rw (e, left) (set_at (map is_kept done) false rest true i (length-map done is_kept ∙ sym counted) ∙ one_more kept)

  marks_ignored : (marked : List Bool) → marked ≡ map is_kept done ++ replicate (max_options - i) false
      → marked ≡ map is_kept (done ++ (ignored ∷ [])) ++ replicate (max_options - (i + 1)) false
  unfolding rest
  marks_ignored marked e = rw (e, left) (one_more ignored)

module _ (rs : List OptionRecord) (marked : List Bool) (last i : ℕ) (w : Walk rs marked last i) (r : OptionRecord) (e : drop i rs ≡ r ∷ drop (i + 1) rs) where
  falls_not : either (ltb r.number last) (falling r.number (drop (i + 1) rs)) ≡ false
  falls_not = sym (ap (falling last) e) ∙ w.ordered

  rises : last ≤ r.number
  rises = ltb-false r.number last (neither (ltb r.number last) (falling r.number (drop (i + 1) rs)) falls_not).0

  later : falling r.number (drop (i + 1) rs) ≡ false
  later = (neither (ltb r.number last) (falling r.number (drop (i + 1) rs)) falls_not).1

  -- The record is recognised exactly when it is by the last number kept.
  judged : recognised_after w.before r ≡ is_recognised (eqb r.number last) r
  judged =
      by_eq r.number 0
      (λ z. zero_unknown (listed r.number w.before) r z ∙ sym (zero_unknown (eqb r.number last) r z))
      (λ z. ap (λ (b : Bool). is_recognised b r) (w.tells r.number rises (omega arith)))

  -- What becomes of all, with what becomes of the record.
  turned : (f : Fate) (before : List ℕ) → fates w.before (r ∷ drop (i + 1) rs) ≡ f ∷ fates before (drop (i + 1) rs)
      → fates [] rs ≡ (w.done ++ (f ∷ [])) ++ fates before (drop (i + 1) rs)
  turned f before q =
      w.whole ∙ (ap (λ (l : List Fate). w.done ++ l) (ap (fates w.before) e ∙ q)
      ∙ sym (append_snoc w.done f (fates before (drop (i + 1) rs))))

  more : (f : Fate) → i + 1 ≡ length (w.done ++ (f ∷ []))
  more f = simp length-append (omega (arith, w.counted))

  pub keeps : i < max_options → is_recognised (eqb r.number last) r ≡ true → Walk rs (set marked i true) r.number (i + 1)
  unfolding fate
  keeps room known =
      record {
        done = w.done ++ (kept ∷ []);
        before = w.before ++ (r.number ∷ []);
        counted = more kept;
        whole = turned kept (w.before ++ (r.number ∷ [])) (rw (judged ∙ known));
        goes_on = λ fs. ap (first_rejected 0) (append_snoc w.done kept fs) ∙ w.goes_on (kept ∷ fs);
        array = marks_kept w.done i w.counted room marked w.array;
        ordered = later;
        tells = tells_next w.before last r.number rises w.tells;
      }

  pub passes_over : i < max_options → is_recognised (eqb r.number last) r ≡ false → critical r.number ≡ false → Walk rs marked last (i + 1)
  unfolding fate
  passes_over room unknown elective =
      record {
        done = w.done ++ (ignored ∷ []);
        before = w.before;
        counted = more ignored;
        whole = turned ignored w.before (rw (judged ∙ unknown, elective));
        goes_on = λ fs. ap (first_rejected 0) (append_snoc w.done ignored fs) ∙ w.goes_on (ignored ∷ fs);
        array = marks_ignored w.done i w.counted room marked w.array;
        ordered = falling_from last r.number (drop (i + 1) rs) rises later;
        tells = w.tells;
      }

  pub rejects : is_recognised (eqb r.number last) r ≡ false → critical r.number ≡ true → nothing_kept (refused_at 16 i) ≡ sorted (fates [] rs)
  unfolding fate
  rejects unknown needed =
      let here : fates w.before (r ∷ drop (i + 1) rs) ≡ rejected ∷ fates w.before (drop (i + 1) rs) = rw (judged ∙ unknown, needed) in
      let names : first_rejected 0 (fates [] rs) ≡ refused_at 16 i =
      ap (first_rejected 0) w.whole ∙ (w.goes_on (fates w.before (drop i rs)) ∙ ap (first_rejected i) (ap (fates w.before) e ∙ here)) in
      ap (λ (a : Check). reported a (fates [] rs)) (sym names)

pub ends : (rs : List OptionRecord) (marked : List Bool) (last i : ℕ) → Walk rs marked last i → drop i rs ≡ []
    → ◌≡◌ {A = Report} (record { answer = passes; kept = marked }) (sorted (fates [] rs))
ends rs marked last i w e =
    let all : fates [] rs ≡ w.done = w.whole ∙ (ap (λ (l : List OptionRecord). w.done ++ fates w.before l) e ∙ append-nil w.done) in
    let none : first_rejected 0 w.done ≡ passes = ap (first_rejected 0) (sym (append-nil w.done)) ∙ w.goes_on [] in
    let array : marked ≡ marks w.done = w.array ∙ ap (λ (n : ℕ). map is_kept w.done ++ replicate (max_options - n) false) w.counted in
    ap (λ (l : List Bool). record { answer = passes; kept = l }) array ∙ sym (ap sorted all ∙ ap (λ (a : Check). reported a w.done) none)
