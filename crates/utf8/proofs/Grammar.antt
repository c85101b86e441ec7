-- The walk accepts exactly the texts of the grammar.
use Prim.Native.Nat.{ℕ, ◌<◌, ◌≤◌}
use mathlib.Core.Path.{◌≡◌, refl, sym, ap, ◌∙◌, subst}
use mathlib.Core.Bool.{Bool, true, false}
use mathlib.Core.List.{List, [], ◌∷◌, ◌++◌}
use mathlib.Core.Logic.{◌⊎◌, inl, inr, ⊎_elim, ◌↔◌}
use native.Mathlib.Omega.{arith}
use lib.Dec.{T, ltb, leb}
use borrow.Author.Tests.{ltb-true, leb-true, lt-leb}
use Rattle.ground.specs.Choice.{pick, both, either}
use Rattle.ground.proofs.Table.{both_left, both_right}
use Rattle.rfc.specs.Text.{Range, rows, in_range, of_row, among, character, characters, joined, Text}
use Rattle.utf8.specs.Walk.{Lead, due, never, lead_in, lead, on_lead, text_from, text}

held : (a : Bool) → T a → a ≡ true
held true t = refl
held false t = absurd t

holds : (a : Bool) → a ≡ true → T a
holds a e = subst T (sym e) tt

both_hold : (a b : Bool) → T a → T b → T (both a b)
both_hold true b s t = t
both_hold false b s t = absurd s

neither_way : (a : Bool) → both a false ≡ false
neither_way true = refl
neither_way false = refl

or_else : (a b : Bool) → T (either a b) → T a ⊎ T b
or_else true b t = inl tt
or_else false b t = inr t

abbrev begins : Lead → Type 0
begins (due rest) = Unit {0}
begins never = ⊥

-- A row that begins with the byte, and bytes of its rest, are bytes of a row.
begin : (t : Bool) (rs rest : List Range) (l : Lead) (c : List ℕ) (m : Bool) → pick t (due rs) l ≡ due rest → T (of_row rest c) → (l ≡ due rest → T m) → T (either (both t (of_row rs c)) m)
begin true rs rest l c m e k f =
    let same : rs ≡ rest = cc in
    subst (λ (x : Bool). T (either x m)) (sym (held (of_row rs c) (subst (λ (x : List Range). T (of_row x c)) (sym same) k))) tt
begin false rs rest l c m e k f = f e

begun : (table : List (List Range)) (b : ℕ) (rest : List Range) → lead_in table b ≡ due rest → (c : List ℕ) → T (of_row rest c) → T (among table (b ∷ c))
begun [] b rest e c k = absurd (subst begins (sym e) tt)
begun ([] ∷ more) b rest e c k = begun more b rest e c k
begun ((r ∷ rs) ∷ more) b rest e c k = begin (in_range r b) rs rest (lead_in more b) c (among more (b ∷ c)) e k (λ q. begun more b rest q c k)

-- Bytes that are due, and then a text.
record Split (rs : List Range) (bs : List ℕ) : Type 0 where
  front : List ℕ
  rest : List ℕ
  fits : T (of_row rs front)
  all : front ++ rest ≡ bs
  follows : Text rest

first : (b : ℕ) (bs : List ℕ) (l : Lead) → lead b ≡ l → T (on_lead l (λ rest. text_from rest bs)) → ((rs : List Range) → T (text_from rs bs) → Split rs bs) → Text (b ∷ bs)
first b bs (due rest) e t split =
    let s = split rest t in
    let c = b ∷ s.front in
    let cs = s.follows.0 in
    let is : T (character c) = begun rows b rest e s.front s.fits in (
      c ∷ cs,
      both_hold (character c) (characters cs) is s.follows.1,
      ap (λ (x : List ℕ). b ∷ (s.front ++ x)) s.follows.2 ∙ ap (λ (x : List ℕ). b ∷ x) s.all,
    )
first b bs never e t split = absurd t

split : (rs : List Range) (bs : List ℕ) → T (text_from rs bs) → Split rs bs
unfolding text_from
split [] [] t = record { front = []; rest = []; fits = tt; all = refl; follows = ([], tt, refl) }
split [] (b ∷ bs) t =
    record { front = []; rest = b ∷ bs; fits = tt; all = refl; follows = first b bs (lead b) refl t (λ rs u. split rs bs u) }
split (r ∷ rs) [] t = absurd t
split (r ∷ rs) (b ∷ bs) t =
    let s = split rs bs (both_right (in_range r b) (text_from rs bs) t) in
    record {
      front = b ∷ s.front;
      rest = s.rest;
      fits = both_hold (in_range r b) (of_row rs s.front) (both_left (in_range r b) (text_from rs bs) t) s.fits;
      all = ap (λ (x : List ℕ). b ∷ x) s.all;
      follows = s.follows;
    }

only_texts : (bs : List ℕ) → T (text bs) → Text bs
unfolding text_from
only_texts [] t = ([], tt, refl)
only_texts (b ∷ bs) t = first b bs (lead b) refl t (λ rs u. split rs bs u)

-- Each row begins above the number.
abbrev above : ℕ → List (List Range) → Bool
above n [] = true
above n ([] ∷ more) = false
above n ((r ∷ rs) ∷ more) = both (ltb n r.0) (above n more)

-- Each row begins above the one before, so that no byte begins two.
abbrev rising : List (List Range) → Bool
rising [] = true
rising ([] ∷ more) = false
rising ((r ∷ rs) ∷ more) = both (above r.1 more) (rising more)

in_range_lem : (r : Range) (b : ℕ) → T (in_range r b) → (r.0 ≤ b) × (b ≤ r.1)
in_range_lem r b t = (leb-true r.0 b (held _ (both_left (leb r.0 b) (leb b r.1) t)), leb-true b r.1 (held _ (both_right (leb r.0 b) (leb b r.1) t)))

later : (n : ℕ) (table : List (List Range)) (b : ℕ) (d : List ℕ) → T (above n table) → T (among table (b ∷ d)) → n < b
later n [] b d a t = absurd t
later n ([] ∷ more) b d a t = absurd a
later n ((r ∷ rs) ∷ more) b d a t =
    ⊎_elim
    (λ u. omega (arith, ltb-true n r.0 (held _ (both_left (ltb n r.0) (above n more) a)), (in_range_lem r b (both_left (in_range r b) (of_row rs d) u)).0))
    (λ v. later n more b d (both_right (ltb n r.0) (above n more) a) v)
    (or_else (both (in_range r b) (of_row rs d)) (among more (b ∷ d)) t)

-- What the first byte of a row's bytes calls for.
abbrev Chosen : List (List Range) → ℕ → List ℕ → Type 0
Chosen table b d = (rest : List Range) × (lead_in table b ≡ due rest) × T (of_row rest d)

past : (r : Range) (b : ℕ) → r.1 < b → in_range r b ≡ false
past r b h = rw (lt-leb b r.1 h) (neither_way (leb r.0 b))

chosen : (table : List (List Range)) (b : ℕ) (d : List ℕ) → T (rising table) → T (among table (b ∷ d)) → Chosen table b d
chosen [] b d a t = absurd t
chosen ([] ∷ more) b d a t = absurd a
chosen ((r ∷ rs) ∷ more) b d a t =
    ⊎_elim
    (λ u. (rs, rw (held (in_range r b) (both_left (in_range r b) (of_row rs d) u)) refl, both_right (in_range r b) (of_row rs d) u))
    (λ v.
    let s = chosen more b d (both_right (above r.1 more) (rising more) a) v in
    (s.0, rw (past r b (later r.1 more b d (both_left (above r.1 more) (rising more) a) v)) s.1, s.2))
    (or_else (both (in_range r b) (of_row rs d)) (among more (b ∷ d)) t)

-- Over bytes that were due, the walk comes to what follows them.
through : (rs : List Range) (d bs : List ℕ) → T (of_row rs d) → text_from rs (d ++ bs) ≡ text_from [] bs
unfolding text_from
through [] [] bs t = refl
through [] (b ∷ d) bs t = absurd t
through (r ∷ rs) [] bs t = absurd t
through (r ∷ rs) (b ∷ d) bs t =
    rw (held (in_range r b) (both_left (in_range r b) (of_row rs d) t)) (through rs d bs (both_right (in_range r b) (of_row rs d) t))

all_texts : (cs : List (List ℕ)) → T (characters cs) → text_from [] (joined cs) ≡ true
unfolding text_from rows
all_texts [] t = refl
all_texts ([] ∷ cs) t = absurd (both_left (character []) (characters cs) t)
all_texts ((b ∷ d) ∷ cs) t =
    let s = chosen rows b d tt (both_left (character (b ∷ d)) (characters cs) t) in
    rw s.1 (through s.0 d (joined cs) s.2 ∙ all_texts cs (both_right (character (b ∷ d)) (characters cs) t))

-- The walk and the grammar accept the same.
pub texts : (bs : List ℕ) → T (text bs) ↔ Text bs
texts bs = (only_texts bs, λ t. holds (text bs) (ap (text_from []) (sym t.2) ∙ all_texts t.0 t.1))
