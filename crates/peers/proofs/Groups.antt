-- Laws of peers as text: a row of groups, a run of zeros and the search for the longest run, one group at a time.
use Prim.Native.Nat.{ℕ, suc, ◌+◌, ◌-◌, ◌<◌, ◌≤◌}
use mathlib.Core.Path.{◌≡◌, sym, ap, ◌∙◌}
use mathlib.Core.List.{List, [], ◌++◌}
use native.Mathlib.Numerals.{add-one}
use native.Mathlib.Omega.{arith}
use borrow.Author.Tests.{lt-ltb, le-ltb, eq-eqb, ne_eqb}
use Rattle.peers.specs.Text.{group, piece, pieces, run_in, run_end, longest_in}

-- A row goes on with its next group, and ends.
pub pieces_more : (p : List ℕ) (f to i : ℕ) → i < to → pieces p f (to - i) i ≡ piece p f i ++ pieces p f (to - (i + 1)) (i + 1)
unfolding pieces
pieces_more p f to i h = let e : to - i ≡ suc (to - (i + 1)) = omega arith in rw (e, add-one i)

pub pieces_none : (p : List ℕ) (f to i : ℕ) → to ≤ i → pieces p f (to - i) i ≡ []
unfolding pieces
pieces_none p f to i h = let e : to - i ≡ 0 = omega arith in rw e

-- A run goes on with a group of zeros, and ends at any other and after the last.
pub run_more : (p : List ℕ) (i : ℕ) → i < 8 → group p i ≡ 0 → run_end p i ≡ run_end p (i + 1)
unfolding run_in
run_more p i h z = let e : 8 - i ≡ suc (8 - (i + 1)) = omega arith in rw (e, eq-eqb _ _ z, add-one)

pub run_stop : (p : List ℕ) (i : ℕ) → i < 8 → (group p i ≡ 0 → ⊥) → run_end p i ≡ i
unfolding run_in
run_stop p i h z = let e : 8 - i ≡ suc (8 - (i + 1)) = omega arith in rw (e, ne_eqb _ _ z)

pub run_done : (p : List ℕ) (i : ℕ) → 8 ≤ i → run_end p i ≡ i
unfolding run_in
run_done p i h = let e : 8 - i ≡ 0 = omega arith in rw e

-- The search takes a longer run, and passes over any other.
module _ (p : List ℕ) (n i start size : ℕ) where
  takes : size < run_end p i - i → longest_in p (suc n) i start size ≡ longest_in p n (suc i) i (run_end p i - i)
  unfolding longest_in
  takes l = rw (lt-ltb size (run_end p i - i) l)

  passes : run_end p i - i ≤ size → longest_in p (suc n) i start size ≡ longest_in p n (suc i) start size
  unfolding longest_in
  passes l = rw (le-ltb size (run_end p i - i) l)

module _ (p : List ℕ) (i start size : ℕ) (h : i < 8) where
  left : longest_in p (8 - i) i start size ≡ longest_in p (suc (8 - (i + 1))) i start size
  left = let e : 8 - i ≡ suc (8 - (i + 1)) = omega arith in ap (λ (n : ℕ). longest_in p n i start size) e

  pub longest_more : size < run_end p i - i → longest_in p (8 - i) i start size ≡ longest_in p (8 - (i + 1)) (i + 1) i (run_end p i - i)
  longest_more l = left ∙ takes p _ i start size l ∙ ap (λ (k : ℕ). longest_in p (8 - (i + 1)) k i (run_end p i - i)) (sym (add-one i))

  pub longest_less : run_end p i - i ≤ size → longest_in p (8 - i) i start size ≡ longest_in p (8 - (i + 1)) (i + 1) start size
  longest_less l = left ∙ passes p _ i start size l ∙ ap (λ (k : ℕ). longest_in p (8 - (i + 1)) k start size) (sym (add-one i))

pub longest_done : (p : List ℕ) (i start size : ℕ) → 8 ≤ i → longest_in p (8 - i) i start size ≡ start
unfolding longest_in
longest_done p i start size h = let e : 8 - i ≡ 0 = omega arith in rw e
