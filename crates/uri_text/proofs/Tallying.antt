-- Laws of the walk over all parts: the first part by its length, and what was passed with what is left.
use Prim.Native.Nat.{ℕ, suc, ◌+◌, ◌-◌, ◌<◌, ◌≤◌}
use mathlib.Core.Path.{◌≡◌, refl, sym, ap, subst, ◌∙◌}
use mathlib.Core.List.{List, [], ◌∷◌}
use native.Mathlib.Nat.{add-zero, zero-add, sub-zero}
use native.Mathlib.Numerals.{add-one}
use native.Mathlib.Omega.{arith}
use lib.Dec.{eqb}
use lib.ListN.{length, take, drop, get_or, length-drop, length-take, drop_of_length-le}
use lib.Seq.{drop-drop, take_all, take-length}
use borrow.Author.Tests.{eq-eqb, ne_eqb}
use Rattle.ground.proofs.Choice.{on, by_eq}
use Rattle.rfc.specs.Uri.{Kind, segment, query}
use Rattle.rfc.specs.Percent.{Read, good, bad_text, bad_option, before, on_good, any, decode}
use Rattle.rfc.specs.Target.{Target, path_of, query_of, onto, split, parts, segments_of}
use Rattle.rfc.proofs.Percent.{no_text, no_option, good_same, on_good_lem, before_good, decoded}
use Rattle.percent.proofs.Stepping.{left_at}
use Rattle.uri_text.specs.Reading.{ruled, value_of, values_of, reading}
use Rattle.std.specs.Prelude.{Err}
use Rattle.uri_text.specs.declared.BadPart.{BadPart}
use Rattle.uri_text.specs.declared.BadPart.TheVariants.{Text, Option as AnOption}
use Rattle.uri_text.specs.Judging.{judged_read, length_of}
use Rattle.uri_text.specs.Tally.{first_length, Tally, total, tally_from, tallied, tally}
use Rattle.uri_text.proofs.Said.{ruled_says}

pub first_small : (sep : ℕ) (s : List ℕ) → first_length sep s ≤ length s
unfolding first_length
first_small sep [] = omega arith
first_small sep (c ∷ s) =
    by_eq c sep (λ e. rw (eq-eqb c sep e) (omega arith)) (λ e. rw (ne_eqb c sep e) (omega (arith, first_small sep s)))

-- The last part, and a part before a separator.
pub split_last : (sep : ℕ) (s : List ℕ) → first_length sep s ≡ length s → split sep s ≡ (s ∷ [])
unfolding first_length split
split_last sep [] h = refl
split_last sep (c ∷ s) h =
    by_eq c sep (λ e. let k : 0 ≡ suc (length s) = rw (eq-eqb c sep e) at h in absurd (omega arith))
    (λ e. let k : suc (first_length sep s) ≡ suc (length s) = rw (ne_eqb c sep e) at h in
    let m : first_length sep s ≡ length s = omega arith in rw (ne_eqb c sep e, split_last sep s m) refl)

pub split_next : (sep : ℕ) (s : List ℕ) → first_length sep s < length s → split sep s ≡ (take (first_length sep s) s ∷ split sep (drop (suc (first_length sep s)) s))
unfolding first_length split
split_next sep [] h = absurd (omega arith)
split_next sep (c ∷ s) h =
    by_eq c sep (λ e. rw (eq-eqb c sep e) refl)
    (λ e. let k : suc (first_length sep s) < suc (length s) = rw (ne_eqb c sep e) at h in
    let m : first_length sep s < length s = omega arith in rw (ne_eqb c sep e, split_next sep s m) refl)

-- Path and query by the place of the first `?`.
pub path_take : (s : List ℕ) → path_of s ≡ take (first_length 0x3F s) s
unfolding first_length path_of
path_take [] = refl
path_take (c ∷ s) = by_eq c 0x3F (λ e. rw (eq-eqb c 0x3F e) refl) (λ e. rw (ne_eqb c 0x3F e, path_take s) refl)

pub query_drop : (s : List ℕ) → query_of s ≡ drop (suc (first_length 0x3F s)) s
unfolding first_length query_of
query_drop [] = refl
query_drop (c ∷ s) = by_eq c 0x3F (λ e. rw (eq-eqb c 0x3F e) refl) (λ e. rw (ne_eqb c 0x3F e, query_drop s) refl)

-- A path's values with those of the text's query.
abbrev pub queried : List ℕ → List (List ℕ) → Read Target
queried s path = on_good (values_of query (length path) (parts 0x26 (query_of s))) (λ query. good (record { path = path; query = query }))

-- The text's answer by its values: those of the path, then those of the query.
in_turn : (s : List ℕ) (r : Read (List (List ℕ))) → on_good r (λ ss. on_good (values_of segment 0 ss) (queried s)) ≡ on_good (on_good r (values_of segment 0)) (queried s)
in_turn s (good ss) = refl
in_turn s bad_text = refl
in_turn s (bad_option i) = refl

pub reading_by : (s : List ℕ) → reading s ≡ on_good (on_good (segments_of (path_of s)) (values_of segment 0)) (queried s)
unfolding reading
reading_by s = in_turn s (segments_of (path_of s))

-- Looking for the end of a part.
abbrev pub Seeking : (sep : ℕ) (s : List ℕ) (from end : ℕ) → Type 0
Seeking sep s from end = end + first_length sep (drop end s) ≡ from + first_length sep (drop from s)

module _ (sep : ℕ) (s : List ℕ) (from end : ℕ) (w : Seeking sep s from end) where
  pub seek_found : end < length s → get_or s end 0 ≡ sep → end ≡ from + first_length sep (drop from s)
  unfolding first_length
  seek_found h e = sym (add-zero end) ∙ (ap (λ (n : ℕ). end + n) (sym (ap (first_length sep) (left_at s end h) ∙ rw (eq-eqb (get_or s end 0) sep e) refl)) ∙ w)

  pub seek_turn : end < length s → (get_or s end 0 ≡ sep → ⊥) → Seeking sep s from (end + 1)
  unfolding first_length
  seek_turn h e =
      let k : first_length sep (drop end s) ≡ suc (first_length sep (drop (end + 1) s)) = ap (first_length sep) (left_at s end h) ∙ rw (ne_eqb (get_or s end 0) sep e) refl in
      omega (arith, k, w)

  pub seek_end : length s ≤ end → end ≡ from + first_length sep (drop from s)
  unfolding first_length
  seek_end h = sym (add-zero end) ∙ (ap (λ (x : List ℕ). end + first_length sep x) (sym (drop_of_length-le s h)) ∙ w)

-- A part's answer, and the tally of it and the rest.
tally_good : (v : List ℕ) (r : Read (List (List ℕ))) (count bytes : ℕ) → tally_from count bytes (before v r) ≡ tally_from (count + 1) (bytes + length v) r
unfolding tally_from
tally_good v (good vs) count bytes =
    let a : count + suc (length vs) ≡ count + 1 + length vs = omega arith in
    let b : bytes + (length v + total vs) ≡ bytes + length v + total vs = omega arith in
    rw (a, b) refl
tally_good v bad_text count bytes = refl
tally_good v (bad_option i) count bytes = refl

pub tally_step : (u : Read (List ℕ)) (r : Read (List (List ℕ))) (count bytes n : ℕ) → good n ≡ length_of u → tally_from count bytes (on_good u (λ v. before v r)) ≡ tally_from (count + 1) (bytes + n) r
tally_step (good v) r count bytes n e = tally_good v r count bytes ∙ ap (λ (m : ℕ). tally_from (count + 1) (bytes + m) r) (sym (good_same n (length v) e))
tally_step bad_text r count bytes n e = absurd (no_text n (sym e))
tally_step (bad_option i) r count bytes n e = absurd (no_option i n (sym e))

pub tally_text : (u : Read (List ℕ)) (r : Read (List (List ℕ))) (count bytes : ℕ) → bad_text ≡ length_of u → bad_text ≡ tally_from count bytes (on_good u (λ v. before v r))
unfolding tally_from
tally_text (good v) r count bytes e = absurd (no_text (length v) e)
tally_text bad_text r count bytes e = refl
tally_text (bad_option i) r count bytes e = let z : ◌≡◌ {A = ℕ} 0 1 = cc in absurd (omega arith)

pub tally_option : (i : ℕ) (u : Read (List ℕ)) (r : Read (List (List ℕ))) (count bytes : ℕ) → bad_option i ≡ length_of u → bad_option i ≡ tally_from count bytes (on_good u (λ v. before v r))
unfolding tally_from
tally_option i (good v) r count bytes e = absurd (no_option i (length v) e)
tally_option i bad_text r count bytes e = let z : ◌≡◌ {A = ℕ} 0 1 = cc in absurd (omega arith)
tally_option i (bad_option j) r count bytes e = let z : i ≡ j = cc in ap bad_option z

-- All that is left from a place on.
pub rest_all : (n : ℕ) (s : List ℕ) → take (length s - n) (drop n s) ≡ drop n s
rest_all n s = take_all (length s - n) (drop n s) (omega (arith, length-drop n s))

-- No text has no part, and any other one more than it has separators.
pub parts_none : (kind : Kind) (sep count bytes : ℕ) (s : List ℕ) → length s ≡ 0 → good (record { count = count; bytes = bytes }) ≡ tally_from count bytes (values_of kind count (parts sep s))
unfolding tally_from
parts_none kind sep count bytes [] h = rw (add-zero count, add-zero bytes) refl
parts_none kind sep count bytes (c ∷ s) h = absurd (omega arith)

pub parts_some : (sep : ℕ) (s : List ℕ) → (length s ≡ 0 → ⊥) → parts sep s ≡ split sep s
parts_some sep [] h = absurd (h refl)
parts_some sep (c ∷ s) h = refl

-- Before a part: those passed and those left come to the whole.
pub record PartsWalk (kind : Kind) (sep passed weight : ℕ) (s : List ℕ) (from count bytes : ℕ) : Type 0 where
  pub place : from ≤ length s
  pub few : count ≤ passed + from
  pub small : bytes ≤ weight + from
  pub all : tally_from count bytes (values_of kind count (split sep (drop from s))) ≡ tally_from passed weight (values_of kind passed (parts sep s))

pub walk_start : (kind : Kind) (sep passed weight : ℕ) (s : List ℕ) → (length s ≡ 0 → ⊥) → PartsWalk kind sep passed weight s 0 passed weight
walk_start kind sep passed weight s h =
    record {
      place = omega arith;
      few = omega arith;
      small = omega arith;
      all = ap (λ (ps : List (List ℕ)). tally_from passed weight (values_of kind passed ps)) (sym (parts_some sep s h));
    }

-- A value is no longer than its part.
pub value_small : (kind : Kind) (index n : ℕ) (s : List ℕ) → good n ≡ length_of (value_of kind index s) → n ≤ length s
value_small kind index n s e =
    on_good_lem (value_of kind index s) (λ v. good (length v)) n (n ≤ length s) (sym e)
    (λ v q r. on_good_lem (decode kind s) (ruled kind index) v (n ≤ length s) q
    (λ x p g.
    let d = decoded kind any s x tt p in
    let f = ruled_says kind index x v d.bytes g in
    omega (arith, d.short, good_same (length v) n r, ap length f.0)))

module _ (kind : Kind) (sep passed weight : ℕ) (s : List ℕ) (from count bytes : ℕ) (w : PartsWalk kind sep passed weight s from count bytes)
    (end : ℕ) (found : end ≡ from + first_length sep (drop from s)) where
  pub end_small : end ≤ length s
  end_small = omega (arith, found, first_small sep (drop from s), length-drop from s, w.place)

  here_last : end ≡ length s → tally_from count bytes (on_good (value_of kind count (take (end - from) (drop from s))) (λ v. before v (good []))) ≡ tally_from passed weight (values_of kind passed (parts sep s))
  here_last e =
      let x : List ℕ = drop from s in
      let k : first_length sep x ≡ length x = omega (arith, found, length-drop from s, w.place) in
      let m : end - from ≡ length x = omega (arith, found, length-drop from s, w.place) in
      let t : take (end - from) x ≡ x = ap (λ (n : ℕ). take n x) m ∙ take-length x in
      ap (λ (p : List ℕ). tally_from count bytes (on_good (value_of kind count p) (λ v. before v (good [])))) t
      ∙ (ap (λ (ps : List (List ℕ)). tally_from count bytes (values_of kind count ps)) (sym (split_last sep x k)) ∙ w.all)

  here_next : (end ≡ length s → ⊥) → tally_from count bytes (on_good (value_of kind count (take (end - from) (drop from s))) (λ v. before v (values_of kind (count + 1) (split sep (drop (end + 1) s))))) ≡ tally_from passed weight (values_of kind passed (parts sep s))
  here_next e =
      let x : List ℕ = drop from s in
      let k : first_length sep x < length x = omega (arith, found, length-drop from s, w.place, end_small) in
      let m : end - from ≡ first_length sep x = omega (arith, found) in
      let n : from + suc (first_length sep x) ≡ end + 1 = omega (arith, found) in
      let t : drop (suc (first_length sep x)) x ≡ drop (end + 1) s = drop-drop (suc (first_length sep x)) from s ∙ ap (λ (n : ℕ). drop n s) n in
      let q : split sep x ≡ (take (end - from) x ∷ split sep (drop (end + 1) s)) =
      split_next sep x k ∙ (ap (λ (n : ℕ). take n x ∷ split sep (drop (suc (first_length sep x)) x)) (sym m) ∙ ap (λ (y : List ℕ). take (end - from) x ∷ split sep y) t) in
      ap (λ (ps : List (List ℕ)). tally_from count bytes (values_of kind count ps)) (sym q) ∙ w.all

  pub walk_text : bad_text ≡ length_of (value_of kind count (take (end - from) (drop from s))) → bad_text ≡ tally_from passed weight (values_of kind passed (parts sep s))
  walk_text q =
      by_eq end (length s)
      (λ e. tally_text (value_of kind count (take (end - from) (drop from s))) (good []) count bytes q ∙ here_last e)
      (λ e. tally_text (value_of kind count (take (end - from) (drop from s))) (values_of kind (count + 1) (split sep (drop (end + 1) s))) count bytes q ∙ here_next e)

  pub walk_option : (i : ℕ) → bad_option i ≡ length_of (value_of kind count (take (end - from) (drop from s))) → bad_option i ≡ tally_from passed weight (values_of kind passed (parts sep s))
  walk_option i q =
      by_eq end (length s)
      (λ e. tally_option i (value_of kind count (take (end - from) (drop from s))) (good []) count bytes q ∙ here_last e)
      (λ e. tally_option i (value_of kind count (take (end - from) (drop from s))) (values_of kind (count + 1) (split sep (drop (end + 1) s))) count bytes q ∙ here_next e)

  pub walk_bad : (b : BadPart) → judged_read (Err b) ≡ length_of (value_of kind count (take (end - from) (drop from s))) → tallied (Err b) ≡ tally_from passed weight (values_of kind passed (parts sep s))
  walk_bad Text q = walk_text q
  walk_bad (AnOption i) q = walk_option i q

  module _ (n : ℕ) (q : good n ≡ length_of (value_of kind count (take (end - from) (drop from s)))) where
    pub part_small : from + n ≤ end
    part_small =
        omega (arith, found, value_small kind count n (take (end - from) (drop from s)) q, length-take (end - from) (drop from s))

    pub walk_end : end ≡ length s → good (record { count = count + 1; bytes = bytes + n }) ≡ tally_from passed weight (values_of kind passed (parts sep s))
    unfolding tally_from
    walk_end e =
        let a : count + 1 ≡ count + 1 + 0 = omega arith in
        let b : bytes + n ≡ bytes + n + 0 = omega arith in
        ap (λ (c : ℕ). good (record { count = c; bytes = bytes + n })) a
        ∙ (ap (λ (c : ℕ). good (record { count = count + 1 + 0; bytes = c })) b
        ∙ (sym (tally_step (value_of kind count (take (end - from) (drop from s))) (good []) count bytes n q) ∙ here_last e))

    pub walk_turn : (end ≡ length s → ⊥) → PartsWalk kind sep passed weight s (end + 1) (count + 1) (bytes + n)
    walk_turn e =
        record {
          place = omega (arith, end_small);
          few = omega (arith, found, w.few);
          small = omega (arith, part_small, w.small);
          all = sym (tally_step (value_of kind count (take (end - from) (drop from s))) (values_of kind (count + 1) (split sep (drop (end + 1) s))) count bytes n q) ∙ here_next e;
        }

-- A text's tally from its path's and its query's.
tally_in_turn : (path : List (List ℕ)) (v : Read (List (List ℕ))) → tally_from (length path) (total path) v ≡ tally (on_good v (λ query. good (record { path = path; query = query })))
unfolding tally tally_from
tally_in_turn path (good vs) = refl
tally_in_turn path bad_text = refl
tally_in_turn path (bad_option i) = refl

with_query : (s : List ℕ) (r : Read (List (List ℕ))) (t : Tally) → good t ≡ tally_from 0 0 r → tally_from t.count t.bytes (values_of query t.count (parts 0x26 (query_of s))) ≡ tally (on_good r (queried s))
unfolding tally_from
with_query s (good path) t e =
    let f : t ≡ record { count = 0 + length path; bytes = 0 + total path } = good_same t (record { count = 0 + length path; bytes = 0 + total path }) e in
    let c : t.count ≡ length path = ap (λ (x : Tally). x.count) f ∙ zero-add (length path) in
    let b : t.bytes ≡ total path = ap (λ (x : Tally). x.bytes) f ∙ zero-add (total path) in
    ap (λ (n : ℕ). tally_from n t.bytes (values_of query n (parts 0x26 (query_of s)))) c
    ∙ (ap (λ (n : ℕ). tally_from (length path) n (values_of query (length path) (parts 0x26 (query_of s)))) b
    ∙ tally_in_turn path (values_of query (length path) (parts 0x26 (query_of s))))
with_query s bad_text t e = absurd (no_text t (sym e))
with_query s (bad_option i) t e = absurd (no_option i t (sym e))

tally_bad : (s : List ℕ) (r : Read (List (List ℕ))) → bad_text ≡ tally_from 0 0 r → bad_text ≡ tally (on_good r (queried s))
unfolding tally tally_from
tally_bad s (good path) e = absurd (no_text (record { count = 0 + length path; bytes = 0 + total path }) e)
tally_bad s bad_text e = refl
tally_bad s (bad_option i) e = let z : ◌≡◌ {A = ℕ} 0 1 = cc in absurd (omega arith)

tally_bad_option : (i : ℕ) (s : List ℕ) (r : Read (List (List ℕ))) → bad_option i ≡ tally_from 0 0 r → bad_option i ≡ tally (on_good r (queried s))
unfolding tally tally_from
tally_bad_option i s (good path) e = absurd (no_option i (record { count = 0 + length path; bytes = 0 + total path }) e)
tally_bad_option i s bad_text e = let z : ◌≡◌ {A = ℕ} 0 1 = cc in absurd (omega arith)
tally_bad_option i s (bad_option j) e = let z : i ≡ j = cc in ap bad_option z

-- How many parts there are, and how long they are together.
split_count : (sep : ℕ) (s : List ℕ) → length (split sep s) ≤ suc (length s)
unfolding split
split_count sep [] = omega arith
split_count sep (c ∷ s) =
    on (λ (ps : List (List ℕ)). length ps ≤ suc (suc (length s))) (eqb c sep) (λ _. omega (arith, split_count sep s)) (λ _. onto_count (split sep s) (split_count sep s))
  where
    onto_count : (ps : List (List ℕ)) → length ps ≤ suc (length s) → length (onto c ps) ≤ suc (suc (length s))
    onto_count [] h = omega arith
    onto_count (p ∷ ps) h = omega arith

split_total : (sep : ℕ) (s : List ℕ) → total (split sep s) ≤ length s
unfolding split
split_total sep [] = omega arith
split_total sep (c ∷ s) =
    on (λ (ps : List (List ℕ)). total ps ≤ suc (length s)) (eqb c sep) (λ _. omega (arith, split_total sep s)) (λ _. onto_total (split sep s) (split_total sep s))
  where
    onto_total : (ps : List (List ℕ)) → total ps ≤ length s → total (onto c ps) ≤ suc (length s)
    onto_total [] h = omega arith
    onto_total (p ∷ ps) h = omega arith

values_few : (kind : Kind) (index : ℕ) (ss vs : List (List ℕ)) → values_of kind index ss ≡ good vs → (length vs ≡ length ss) × (total vs ≤ total ss)
values_few kind index [] vs e =
    subst (λ (x : List (List ℕ)). (length x ≡ 0) × (total x ≤ 0)) (good_same [] vs e) (refl, omega arith)
values_few kind index (s ∷ ss) vs e =
    on_good_lem (value_of kind index s) (λ v. before v (values_of kind (index + 1) ss)) vs ((length vs ≡ suc (length ss)) × (total vs ≤ length s + total ss)) e
    (λ v q r. before_good (λ x. (length x ≡ suc (length ss)) × (total x ≤ length s + total ss)) v (values_of kind (index + 1) ss) vs r
    (λ ws p.
    let f = values_few kind (index + 1) ss ws p in
    let k = value_small kind index (length v) s (sym (ap length_of q)) in
    (omega (arith, f.0), omega (arith, f.1, k))))

-- A path's tally is no more than its characters.
pub path_few : (p : List ℕ) (t : Tally) → good t ≡ tally_from 0 0 (on_good (segments_of p) (values_of segment 0)) → (t.count ≤ length p) × (t.bytes ≤ length p)
unfolding tally_from
path_few [] t e =
    let f : t ≡ record { count = 0 + 0; bytes = 0 + 0 } = good_same t (record { count = 0 + 0; bytes = 0 + 0 }) e in
    (omega (arith, ap (λ (x : Tally). x.count) f), omega (arith, ap (λ (x : Tally). x.bytes) f))
path_few (c ∷ p) t e =
    on (λ r. good t ≡ tally_from 0 0 (on_good r (values_of segment 0)) → (t.count ≤ suc (length p)) × (t.bytes ≤ suc (length p))) (eqb c 0x2F)
    (λ _ q. few p (values_of segment 0 (parts 0x2F p)) refl q)
    (λ _ q. absurd (no_text t (sym q))) e
  where
    parted : (p : List ℕ) → (length (parts 0x2F p) ≤ suc (length p)) × (total (parts 0x2F p) ≤ length p)
    parted [] = (omega arith, omega arith)
    parted (c ∷ p) = (split_count 0x2F (c ∷ p), split_total 0x2F (c ∷ p))

    few : (p : List ℕ) (r : Read (List (List ℕ))) → r ≡ values_of segment 0 (parts 0x2F p) → good t ≡ tally_from 0 0 r → (t.count ≤ suc (length p)) × (t.bytes ≤ suc (length p))
    few p (good vs) g q =
        let f : t ≡ record { count = 0 + length vs; bytes = 0 + total vs } = good_same t (record { count = 0 + length vs; bytes = 0 + total vs }) q in
        let h = values_few segment 0 (parts 0x2F p) vs (sym g) in
        let k = parted p in
        (omega (arith, ap (λ (x : Tally). x.count) f, h.0, k.0), omega (arith, ap (λ (x : Tally). x.bytes) f, h.1, k.1))
    few p bad_text g q = absurd (no_text t (sym q))
    few p (bad_option i) g q = absurd (no_option i t (sym q))

-- A path by its first character: none, no `/`, and a `/` before its parts.
pub path_none : (p : List ℕ) → length p ≡ 0 → good (record { count = 0; bytes = 0 }) ≡ tally_from 0 0 (on_good (segments_of p) (values_of segment 0))
unfolding tally_from
path_none [] h = refl
path_none (c ∷ p) h = absurd (omega arith)

pub path_bad : (p : List ℕ) → (length p ≡ 0 → ⊥) → (get_or p 0 0 ≡ 0x2F → ⊥) → bad_text ≡ tally_from 0 0 (on_good (segments_of p) (values_of segment 0))
unfolding tally_from
path_bad [] h n = absurd (h refl)
path_bad (c ∷ p) h n = rw (ne_eqb c 0x2F n) refl

pub path_slash : (p : List ℕ) → (length p ≡ 0 → ⊥) → get_or p 0 0 ≡ 0x2F → tally_from 0 0 (values_of segment 0 (parts 0x2F (take (length p - 1) (drop 1 p)))) ≡ tally_from 0 0 (on_good (segments_of p) (values_of segment 0))
path_slash [] h e = absurd (h refl)
path_slash (c ∷ p) h e =
    ap (λ (x : List ℕ). tally_from 0 0 (values_of segment 0 (parts 0x2F x))) (rest_all 1 (c ∷ p)) ∙ rw (eq-eqb c 0x2F e) refl

-- The answer for a whole text, from that for its path.
module _ (s : List ℕ) (mark : ℕ) (found : mark ≡ 0 + first_length 0x3F s) where
  at_mark : mark ≡ first_length 0x3F s
  at_mark = found ∙ zero-add (first_length 0x3F s)

  pub mark_inside : mark ≤ length s
  mark_inside = omega (arith, at_mark, first_small 0x3F s)

  path_is : take (mark - 0) s ≡ path_of s
  path_is = ap (λ (n : ℕ). take n s) (sub-zero mark ∙ at_mark) ∙ sym (path_take s)

  -- The tally of the path that stands before the mark.
  abbrev PathTally : Read Tally → Type 0
  PathTally r = r ≡ tally_from 0 0 (on_good (segments_of (take (mark - 0) s)) (values_of segment 0))

  moved : (r : Read Tally) → PathTally r → r ≡ tally_from 0 0 (on_good (segments_of (path_of s)) (values_of segment 0))
  moved r e = e ∙ ap (λ (p : List ℕ). tally_from 0 0 (on_good (segments_of p) (values_of segment 0))) path_is

  text_no_text : PathTally bad_text → bad_text ≡ tally (reading s)
  text_no_text e = tally_bad s (on_good (segments_of (path_of s)) (values_of segment 0)) (moved bad_text e) ∙ ap tally (sym (reading_by s))

  pub text_option : (i : ℕ) → PathTally (bad_option i) → bad_option i ≡ tally (reading s)
  text_option i e =
      tally_bad_option i s (on_good (segments_of (path_of s)) (values_of segment 0)) (moved (bad_option i) e) ∙ ap tally (sym (reading_by s))

  pub text_bad : (b : BadPart) → PathTally (tallied (Err b)) → tallied (Err b) ≡ tally (reading s)
  text_bad Text e = text_no_text e
  text_bad (AnOption i) e = text_option i e

  module _ (count bytes : ℕ) (e : PathTally (good (record { count = count; bytes = bytes }))) where
    pub few_segments : (count ≤ mark) × (bytes ≤ mark)
    few_segments =
        let f = path_few (take (mark - 0) s) (record { count = count; bytes = bytes }) e in
        let n = length-take (mark - 0) s in
        (omega (arith, f.0, n), omega (arith, f.1, n))

    pub text_turn : tally_from count bytes (values_of query count (parts 0x26 (drop (mark + 1) s))) ≡ tally (reading s)
    text_turn =
        ap (λ (x : List ℕ). tally_from count bytes (values_of query count (parts 0x26 x))) (ap (λ (n : ℕ). drop n s) (add-one mark ∙ ap suc at_mark) ∙ sym (query_drop s))
        ∙ (with_query s (on_good (segments_of (path_of s)) (values_of segment 0)) (record { count = count; bytes = bytes }) (moved (good (record { count = count; bytes = bytes })) e)
        ∙ ap tally (sym (reading_by s)))

    pub text_end : mark ≡ length s → good (record { count = count; bytes = bytes }) ≡ tally (reading s)
    text_end h =
        parts_none query 0x26 count bytes (drop (mark + 1) s) (length-drop (mark + 1) s ∙ omega arith) ∙ text_turn
