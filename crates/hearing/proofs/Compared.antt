-- Bytes compared one by one with those at a position: what is left to compare decides.
use Prim.Native.Nat.{ℕ, suc, ◌+◌, ◌-◌, ◌<◌, ◌≤◌}
use mathlib.Core.Path.{◌≡◌, sym, ◌∙◌}
use mathlib.Core.Bool.{true, false}
use mathlib.Core.List.{List, []}
use native.Mathlib.Numerals.{add-one}
use native.Mathlib.Omega.{arith}
use lib.Dec.{eqb}
use lib.ListN.{length, drop, get_or, drop_of_length-le}
use lib.Seq.{drop-cons}
use borrow.Author.Tests.{eq-eqb, ne_eqb}
use Rattle.ground.specs.Choice.{both}
use Rattle.ground.specs.Part.{part}
use Rattle.rfc.specs.Duplicates.{alike}

-- The comparison goes on from an index.
pub record Compared (s : List ℕ) (at : ℕ) (bytes : List ℕ) (i : ℕ) : Type 0 where
  pub is : alike (part s (at + i) (length bytes - i)) (drop i bytes) ≡ alike (part s at (length bytes)) bytes

module _ (s : List ℕ) (at : ℕ) (bytes : List ℕ) where
  pub compare_begin : Compared s at bytes 0
  compare_begin =
      let a : at + 0 ≡ at = omega arith in
      let b : length bytes - 0 ≡ length bytes = omega arith in
      record { is = rw (a, b) }

  module _ (i : ℕ) (w : Compared s at bytes i) where
    -- One byte further.
    step : i < length bytes → at + length bytes ≤ length s
        → alike (part s (at + i) (length bytes - i)) (drop i bytes) ≡ both (eqb (get_or s (at + i) 0) (get_or bytes i 0)) (alike (part s (at + (i + 1)) (length bytes - (i + 1))) (drop (i + 1) bytes))
    step h l =
        let n : length bytes - i ≡ suc (length bytes - (i + 1)) = omega arith in
        let j : at + (i + 1) ≡ suc (at + i) = omega arith in
        rw (n, drop-cons bytes i 0 h, drop-cons s (at + i) 0 (omega arith), j, add-one i)

    pub compare_other : i < length bytes → at + length bytes ≤ length s → (get_or s (at + i) 0 ≡ get_or bytes i 0 → ⊥) → false ≡ alike (part s at (length bytes)) bytes
    compare_other h l f =
        let g = rw (ne_eqb (get_or s (at + i) 0) (get_or bytes i 0) f) at (step h l) in
        sym g ∙ w.is

    pub compare_turn : i < length bytes → at + length bytes ≤ length s → get_or s (at + i) 0 ≡ get_or bytes i 0 → Compared s at bytes (i + 1)
    compare_turn h l f =
        let g = rw (eq-eqb (get_or s (at + i) 0) (get_or bytes i 0) f) at (step h l) in
        record { is = sym g ∙ w.is }

    pub compare_end : length bytes ≤ i → true ≡ alike (part s at (length bytes)) bytes
    compare_end h =
        let n : length bytes - i ≡ 0 = omega arith in
        let d : drop i bytes ≡ [] = drop_of_length-le bytes h in
        rw (n, d) at w.is
