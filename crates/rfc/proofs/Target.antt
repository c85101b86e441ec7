-- Path and query taken apart and put together: splitting at separators and at the first `?`, the text of a target taken apart
-- into its parts, and how it is spelt.
use Prim.Native.Nat.{ℕ, zero, ◌/◌, ◌%◌, ◌<◌}
use mathlib.Core.Path.{◌≡◌, refl, sym, ap, ◌∙◌}
use mathlib.Core.Bool.{true, false}
use mathlib.Core.List.{List, [], ◌∷◌, ◌++◌, map, append_assoc, append-nil}
use native.Mathlib.Omega.{arith}
use lib.Dec.{eqb}
use borrow.Author.Tests.{ne_eqb, eq-eqb}
use Rattle.ground.specs.Choice.{either, within}
use Rattle.ground.specs.Part.{Bytes}
use Rattle.ground.specs.Table.{listed}
use Rattle.ground.proofs.Choice.{on, by_eq}
use Rattle.rfc.specs.Message.{Opt}
use Rattle.rfc.specs.Uri.{Kind, segment, query, separator, literal, pchar}
use Rattle.rfc.specs.Percent.{hex_digit, coded, code}
use Rattle.rfc.specs.Target.{Target, Values, one_empty, values, target_of, options_for, options_of, behind, path_text, query_text, text_of, path_of, query_of, onto, split, parts, spelt}
use Rattle.rfc.proofs.Uri.{each, is_true, not-false, literal_not, percent_no, separator_no, mark_no}
use Rattle.rfc.proofs.Percent.{Free, free_append, code_free}

-- A part without the separator: alone, and before one.
pub split_free : (x : ℕ) (p : List ℕ) → Free x p → split x p ≡ (p ∷ [])
unfolding split
split_free x [] f = refl
split_free x (c ∷ p) f = rw (ne_eqb c x f.0, split_free x p f.1) refl

pub split_seam : (x : ℕ) (p r : List ℕ) → Free x p → split x (p ++ (x ∷ r)) ≡ (p ∷ split x r)
unfolding split
split_seam x [] r f = rw (eq-eqb x x refl) refl
split_seam x (c ∷ p) r f = rw (ne_eqb c x f.0, split_seam x p r f.1) refl

-- A path without `?`: alone, and before a query.
pub path_alone : (p : List ℕ) → Free 0x3F p → path_of p ≡ p
unfolding path_of
path_alone [] f = refl
path_alone (c ∷ p) f = rw (ne_eqb c 0x3F f.0, path_alone p f.1) refl

pub query_alone : (p : List ℕ) → Free 0x3F p → query_of p ≡ []
unfolding query_of
query_alone [] f = refl
query_alone (c ∷ p) f = rw (ne_eqb c 0x3F f.0) (query_alone p f.1)

pub path_seam : (p r : List ℕ) → Free 0x3F p → path_of (p ++ (0x3F ∷ r)) ≡ p
unfolding path_of
path_seam [] r f = refl
path_seam (c ∷ p) r f = rw (ne_eqb c 0x3F f.0, path_seam p r f.1) refl

pub query_seam : (p r : List ℕ) → Free 0x3F p → query_of (p ++ (0x3F ∷ r)) ≡ r
unfolding query_of
query_seam [] r f = refl
query_seam (c ∷ p) r f = rw (ne_eqb c 0x3F f.0) (query_seam p r f.1)

onto_some : (c : ℕ) (ps : List (List ℕ)) → onto c ps ≡ [] → ⊥
onto_some c [] e = let z : ◌≡◌ {A = ℕ} 0 1 = cc in omega arith
onto_some c (p ∷ ps) e = let z : ◌≡◌ {A = ℕ} 0 1 = cc in omega arith

-- Splitting gives at least one part, and one that is empty only for the empty text.
split_some : (x : ℕ) (s : List ℕ) → split x s ≡ [] → ⊥
unfolding split
split_some x [] e = let z : ◌≡◌ {A = ℕ} 0 1 = cc in omega arith
split_some x (c ∷ s) e =
    on (λ l. l ≡ [] → ⊥) (eqb c x) (λ _. λ e. let z : ◌≡◌ {A = ℕ} 0 1 = cc in omega arith) (λ _. onto_some c (split x s)) e

onto_more : (c : ℕ) (ps : List (List ℕ)) → onto c ps ≡ ([] ∷ []) → ⊥
onto_more c [] e = let z : ◌≡◌ {A = ℕ} 0 1 = cc in omega arith
onto_more c (p ∷ ps) e = let z : ◌≡◌ {A = ℕ} 0 1 = cc in omega arith

pub parts_more : (x : ℕ) (s : List ℕ) → parts x s ≡ ([] ∷ []) → ⊥
unfolding split
parts_more x [] e = let z : ◌≡◌ {A = ℕ} 0 1 = cc in omega arith
parts_more x (c ∷ s) e =
    on (λ l. l ≡ ([] ∷ []) → ⊥) (eqb c x) (λ _. λ e. let q : split x s ≡ [] = cc in split_some x s q) (λ _. onto_more c (split x s)) e

-- The text of values behind their first mark.
abbrev pub joined : Kind → List (List ℕ) → List ℕ
joined kind [] = []
joined kind (v ∷ vs) = code kind v ++ behind kind (separator kind) vs

pub path_joined : (vs : List (List ℕ)) → path_text vs ≡ (0x2F ∷ joined segment vs)
path_joined [] = refl
path_joined (v ∷ vs) = refl

separator_other : (kind : Kind) → 0x25 ≡ separator kind → ⊥
separator_other segment e = omega arith
separator_other query e = omega arith

-- The text of values is split into theirs.
split_joined : (kind : Kind) (v : List ℕ) (vs : List (List ℕ)) → Values (v ∷ vs) → split (separator kind) (code kind v ++ behind kind (separator kind) vs) ≡ map (code kind) (v ∷ vs)
split_joined kind v [] a =
    ap (split (separator kind)) (append-nil (code kind v)) ∙ split_free (separator kind) (code kind v) (code_free kind (separator kind) (separator_no kind) (separator_other kind) v a.0)
split_joined kind v (w ∷ ws) a =
    split_seam (separator kind) (code kind v) (code kind w ++ behind kind (separator kind) ws) (code_free kind (separator kind) (separator_no kind) (separator_other kind) v a.0)
    ∙ ap (λ (l : List (List ℕ)). code kind v ∷ l) (split_joined kind w ws a.1)

-- The text of a byte isn't empty.
parts_coded : (x : ℕ) (kind : Kind) (b : ℕ) (s t : List ℕ) → parts x ((coded kind b ++ s) ++ t) ≡ split x ((coded kind b ++ s) ++ t)
unfolding coded
parts_coded x kind b s t = on (λ l. parts x ((l ++ s) ++ t) ≡ split x ((l ++ s) ++ t)) (literal kind b) (λ e. refl) (λ e. refl)

pub parts_joined : (kind : Kind) (vs : List (List ℕ)) → Values vs → one_empty vs ≡ false → parts (separator kind) (joined kind vs) ≡ map (code kind) vs
parts_joined kind [] a e = refl
parts_joined kind ([] ∷ []) a e = absurd (not-false true refl e)
parts_joined kind ([] ∷ w ∷ ws) a e = split_joined kind [] (w ∷ ws) a
parts_joined kind ((b ∷ v) ∷ vs) a e =
    parts_coded (separator kind) kind b (code kind v) (behind kind (separator kind) vs) ∙ split_joined kind (b ∷ v) vs a

-- A path's text has no `?`.
behind_free : (vs : List (List ℕ)) → Values vs → Free 0x3F (behind segment 0x2F vs)
behind_free [] a = tt
behind_free (v ∷ vs) a =
    (λ e. omega arith, free_append 0x3F (code segment v) (behind segment 0x2F vs) (code_free segment 0x3F mark_no (λ e. omega arith) v a.0) (behind_free vs a.1))

path_free : (vs : List (List ℕ)) → Values vs → Free 0x3F (path_text vs)
path_free [] a = (λ e. omega arith, tt)
path_free (v ∷ vs) a = behind_free (v ∷ vs) a

-- The text of a target is taken apart into path and query.
pub path_of_text : (t : Target) → Values t.path → path_of (text_of t) ≡ path_text t.path
path_of_text t a = cases t.query
  where
    cases : (q : List (List ℕ)) → path_of (path_text t.path ++ query_text q) ≡ path_text t.path
    cases [] = ap path_of (append-nil (path_text t.path)) ∙ path_alone (path_text t.path) (path_free t.path a)
    cases (v ∷ vs) = path_seam (path_text t.path) (joined query (v ∷ vs)) (path_free t.path a)

pub query_of_text : (t : Target) → Values t.path → query_of (text_of t) ≡ joined query t.query
query_of_text t a = cases t.query
  where
    cases : (q : List (List ℕ)) → query_of (path_text t.path ++ query_text q) ≡ joined query q
    cases [] = ap query_of (append-nil (path_text t.path)) ∙ query_alone (path_text t.path) (path_free t.path a)
    cases (v ∷ vs) = query_seam (path_text t.path) (joined query (v ∷ vs)) (path_free t.path a)

-- The options of a path and a query say that path and that query.
values_append : (n : ℕ) (os ps : List Opt) → values n (os ++ ps) ≡ values n os ++ values n ps
values_append n [] ps = refl
values_append n (o ∷ os) ps =
    by_eq o.number n (λ e. rw (eq-eqb o.number n e, values_append n os ps) refl) (λ e. rw (ne_eqb o.number n e) (values_append n os ps))

values_same : (n : ℕ) (vs : List (List ℕ)) → values n (options_for n vs) ≡ vs
values_same n [] = refl
values_same n (v ∷ vs) = rw (eq-eqb n n refl, values_same n vs) refl

values_other : (n m : ℕ) (vs : List (List ℕ)) → (m ≡ n → ⊥) → values n (options_for m vs) ≡ []
values_other n m [] e = refl
values_other n m (v ∷ vs) e = rw (ne_eqb m n e) (values_other n m vs e)

pub target_back : (t : Target) → target_of (options_of t) ≡ t
target_back t =
    let p : values 11 (options_of t) ≡ t.path =
    values_append 11 (options_for 11 t.path) (options_for 15 t.query)
    ∙ (rw (values_same 11 t.path, values_other 11 15 t.query (λ e. omega arith)) (append-nil t.path)) in
    let q : values 15 (options_of t) ≡ t.query =
    values_append 15 (options_for 11 t.path) (options_for 15 t.query)
    ∙ (rw (values_same 15 t.query, values_other 15 11 t.path (λ e. omega arith)) refl) in
    λ i. record { path = p i; query = q i }

-- A written text has only characters that reading allows, and upper-case digits, whatever bytes the values are.
hex_upper : (n : ℕ) → n < 16 → either (within 0x30 0x39 (hex_digit n)) (within 0x41 0x46 (hex_digit n)) ≡ true
unfolding hex_digit
hex_upper n h =
    is_true (either (within 0x30 0x39 (hex_digit n)) (within 0x41 0x46 (hex_digit n)))
    (each (λ n. either (within 0x30 0x39 (hex_digit n)) (within 0x41 0x46 (hex_digit n))) 16 tt n h)

literal_spelt : (kind : Kind) (c : ℕ) → literal kind c ≡ true → either (literal segment c) (listed c (0x2F ∷ 0x3F ∷ [])) ≡ true
unfolding literal
literal_spelt segment c e = rw e refl
literal_spelt query c e =
    on (λ t. t ≡ true → either (pchar c) (listed c (0x2F ∷ 0x3F ∷ [])) ≡ true) (eqb c 0x26) {x = false} {y = either (pchar c) (listed c (0x2F ∷ 0x3F ∷ []))}
    (λ _. λ q. absurd (not-false false q refl)) (λ _. λ q. q) e

spelt_coded : (kind : Kind) (b : ℕ) (s : List ℕ) → b < 256 → spelt zero (coded kind b ++ s) ≡ spelt zero s
unfolding spelt coded
spelt_coded kind b s h =
    on (λ l. spelt zero (l ++ s) ≡ spelt zero s) (literal kind b)
    (λ e. rw (ne_eqb b 0x25 (literal_not kind b 0x25 e (percent_no kind)), literal_spelt kind b e) refl)
    (λ e. rw (hex_upper (b / 16) (omega arith), hex_upper (b % 16) (omega arith)) refl)

spelt_code : (kind : Kind) (v s : List ℕ) → Bytes v → spelt zero (code kind v ++ s) ≡ spelt zero s
spelt_code kind [] s b = refl
spelt_code kind (x ∷ v) s b =
    ap (spelt zero) (append_assoc (coded kind x) (code kind v) s) ∙ (spelt_coded kind x (code kind v ++ s) b.0 ∙ spelt_code kind v s b.1)

separator_spelt : (kind : Kind) (m : List ℕ) → spelt zero (separator kind ∷ m) ≡ spelt zero m
unfolding spelt literal
separator_spelt segment m = refl
separator_spelt query m = refl

spelt_behind : (kind : Kind) (mark : ℕ) (vs : List (List ℕ)) (s : List ℕ) → ((m : List ℕ) → spelt zero (mark ∷ m) ≡ spelt zero m) → Values vs → spelt zero (behind kind mark vs ++ s) ≡ spelt zero s
spelt_behind kind mark [] s m b = refl
spelt_behind kind mark (v ∷ vs) s m b =
    m ((code kind v ++ behind kind (separator kind) vs) ++ s)
    ∙ (ap (spelt zero) (append_assoc (code kind v) (behind kind (separator kind) vs) s)
    ∙ (spelt_code kind v (behind kind (separator kind) vs ++ s) b.0 ∙ spelt_behind kind (separator kind) vs s (separator_spelt kind) b.1))

mark_spelt : (m : List ℕ) → spelt zero (0x3F ∷ m) ≡ spelt zero m
unfolding spelt literal
mark_spelt m = refl

spelt_path : (vs : List (List ℕ)) (s : List ℕ) → Values vs → spelt zero (path_text vs ++ s) ≡ spelt zero s
spelt_path [] s a = separator_spelt segment s
spelt_path (v ∷ vs) s a = spelt_behind segment 0x2F (v ∷ vs) s (separator_spelt segment) a

pub written_spelt : (t : Target) → Values t.path → Values t.query → spelt zero (text_of t) ≡ true
unfolding spelt
written_spelt t p q =
    spelt_path t.path (query_text t.query) p
    ∙ (ap (spelt zero) (sym (append-nil (query_text t.query))) ∙ spelt_behind query 0x3F t.query [] mark_spelt q)
