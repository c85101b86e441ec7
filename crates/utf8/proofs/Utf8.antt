-- Laws of the walk over a text, a byte at a time: what a first byte calls for, and what each byte leaves to be read.
use Prim.Native.Nat.{ℕ, zero, suc, ◌+◌, ◌-◌, ◌<◌, ◌≤◌}
use mathlib.Core.Path.{◌≡◌, refl, sym, ◌∙◌, ap}
use mathlib.Core.Bool.{Bool, true, false}
use mathlib.Core.List.{List, [], ◌∷◌}
use native.Mathlib.Numerals.{add-one}
use native.Mathlib.Omega.{arith}
use lib.Dec.{T, eqb, eqb→eq}
use lib.ListN.{length, get_or, drop, replicate, length-replicate, drop_of_length-le}
use lib.Seq.{drop-cons}
use borrow.Author.Tests.{ne_eqb}
use Rattle.ground.specs.Choice.{both, within}
use Rattle.ground.specs.Table.{every}
use Rattle.ground.proofs.Choice.{on}
use Rattle.ground.proofs.Table.{at, both_left, both_right}
use Rattle.rfc.specs.Text.{Range, tail, rows, in_range}
use Rattle.utf8.specs.Walk.{Lead, due, never, lead_in, lead, text_from, text}
use Rattle.utf8.specs.Row.{dues, led_by, row_of, LeftDue}
use Rattle.utf8.specs.declared.Due.{Due}
use Rattle.std.specs.Prelude.{Option, Some, None}

-- Two lists of ranges are the same, and so what two bytes call for.
abbrev same_ranges : List Range → List Range → Bool
same_ranges [] [] = true
same_ranges [] (s ∷ ss) = false
same_ranges (r ∷ rs) [] = false
same_ranges (r ∷ rs) (s ∷ ss) = both (both (eqb r.0 s.0) (eqb r.1 s.1)) (same_ranges rs ss)

unfoldable pub same : Lead → Lead → Bool
same (due rs) (due ss) = same_ranges rs ss
same (due rs) never = false
same never (due ss) = false
same never never = true

same_ranges_lem : (rs ss : List Range) → T (same_ranges rs ss) → rs ≡ ss
same_ranges_lem [] [] t = refl
same_ranges_lem [] (s ∷ ss) t = absurd t
same_ranges_lem (r ∷ rs) [] t = absurd t
same_ranges_lem (r ∷ rs) (s ∷ ss) t =
    let first = both_left (both (eqb r.0 s.0) (eqb r.1 s.1)) (same_ranges rs ss) t in
    let low : r.0 ≡ s.0 = eqb→eq r.0 s.0 (both_left (eqb r.0 s.0) (eqb r.1 s.1) first) in
    let high : r.1 ≡ s.1 = eqb→eq r.1 s.1 (both_right (eqb r.0 s.0) (eqb r.1 s.1) first) in
    let rest : rs ≡ ss = same_ranges_lem rs ss (both_right (both (eqb r.0 s.0) (eqb r.1 s.1)) (same_ranges rs ss) t) in
    λ i. (low i, high i) ∷ rest i

same_row : (r s : Lead) → T (same r s) → r ≡ s
unfolding same
same_row (due rs) (due ss) t = ap due (same_ranges_lem rs ss t)
same_row (due rs) never t = absurd t
same_row never (due ss) t = absurd t
same_row never never t = refl

-- The `count` bytes from `low` call for the same, as computing it for each shows.
abbrev pub alike : ℕ → ℕ → Lead → Bool
alike low count r = every (λ k x. same (lead (low + k)) r) 0 (replicate count 0)

-- So does each byte from `low` to `high`.
pub row : (low high : ℕ) (r : Lead) → T (alike low (suc high - low) r) → (b : ℕ) → low ≤ b → b ≤ high → r ≡ lead b
row low high r t b l h =
    let e : low + (b - low) ≡ b = omega arith in
    let k : b - low < length {A = ℕ} (replicate (suc high - low) 0) = rw length-replicate (omega arith) in
    sym (rw e at (same_row (lead (low + (b - low))) r (at (λ k x. same (lead (low + k)) r) (replicate (suc high - low) 0) t (b - low) k)))

-- A count and a first range tell a row's rest whole: its other bytes are UTF8-tail.
AllTails : List (List Range) → Type 0
AllTails [] = Unit {0}
AllTails ([] ∷ more) = AllTails more
AllTails ((r ∷ rest) ∷ more) = (row_of (led_by (due rest)) ≡ due rest) × AllTails more

led_in : (more : List (List Range)) → AllTails more → (b : ℕ) → row_of (led_by (lead_in more b)) ≡ lead_in more b
unfolding AllTails
led_in [] t b = refl
led_in ([] ∷ more) t b = led_in more t b
led_in ((r ∷ rest) ∷ more) t b = on (λ (x : Lead). row_of (led_by x) ≡ x) (in_range r b) (λ _. t.0) (λ _. led_in more t.1 b)

-- So what the code says of a first byte is what the byte calls for.
pub led : (b : ℕ) {r : Option Due} → r ≡ led_by (lead b) → lead b ≡ row_of r
unfolding rows AllTails
led b e = sym (led_in rows (refl, (refl, (refl, (refl, (refl, (refl, (refl, (refl, (refl, tt))))))))) b) ∙ ap row_of (sym e)

-- A text may end exactly where no byte is due.
pub at_end : (count low high : ℕ) → text_from (dues count low high) [] ≡ eqb count 0
unfolding text_from
at_end zero low high = refl
at_end (suc n) low high = rw (ne_eqb (suc n) 0 (omega arith)) refl

-- After one of the bytes that are due, the others are UTF8-tail.
tails : (n : ℕ) → replicate n tail ≡ dues n 0x80 0xBF
tails zero = refl
tails (suc n) = refl

pub at_next : (count low high b : ℕ) (bs : List ℕ) → (count ≡ 0 → ⊥) → text_from (dues count low high) (b ∷ bs) ≡ both (within low high b) (text_from (dues (count - 1) 0x80 0xBF) bs)
unfolding text_from
at_next zero low high b bs z = absurd (z refl)
at_next (suc n) low high b bs z =
    let less : suc n - 1 ≡ n = omega arith in
    rw (less, sym (tails n)) refl

-- At the place `i` these bytes are due, and the whole is text exactly when the rest is.
pub record Judging (bs : List ℕ) (d : Due) (i : ℕ) : Type 0 where
  pub place : i ≤ length bs
  pub all : text_from (dues d.count d.low d.high) (drop i bs) ≡ text bs

pub judging_end : {bs : List ℕ} {d : Due} {i : ℕ} → length bs ≤ i → Judging bs d i → eqb d.count 0 ≡ text bs
judging_end {bs} {d} h s = sym (at_end d.count d.low d.high) ∙ (rw (drop_of_length-le bs h) at s.all)

-- The byte at the place, first of what is left.
module _ {bs : List ℕ} {d : Due} {i : ℕ} (more : i < length bs) (s : Judging bs d i) where
  here : text_from (dues d.count d.low d.high) (get_or bs i 0 ∷ drop (i + 1) bs) ≡ text bs
  here = rw add-one (rw (drop-cons bs i 0 more) at s.all)

  pub next_byte : (r : Due) → LeftDue d (get_or bs i 0) (Some r) → Judging bs r (i + 1)
  next_byte r l = record { place = omega arith; all = sym (l.is (drop (i + 1) bs)) ∙ here }

  pub other_byte : LeftDue d (get_or bs i 0) None → false ≡ text bs
  other_byte l = sym (l.is (drop (i + 1) bs)) ∙ here
