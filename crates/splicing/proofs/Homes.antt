-- Homes of ranges, judged one after the other, and the edit that goes on once all are good.
use Prim.Native.Nat.{ℕ, zero, suc, ◌+◌, ◌*◌, ◌/◌, ◌<◌, ◌≤◌}
use mathlib.Core.Path.{◌≡◌, refl, ap}
use mathlib.Core.Bool.{true, false}
use mathlib.Core.List.{List, [], ◌∷◌}
use native.Mathlib.Omega.{arith}
use lib.ListN.{length, get_or, drop, drop_of_length-le}
use lib.Dec.{ltb}
use Rattle.ground.specs.Choice.{either}
use Rattle.refusal.specs.Answer.{Answer, refused}
use Rattle.packet.specs.declared.Packet.{Packet}
use Rattle.packet.specs.declared.Range.{Range}
use Rattle.splicing.specs.Splice.{ranges_in, homeless, homed}

-- The home of the range at an index, and those after it.
pub homeless_from : (l : List ℕ) (k : ℕ) → k < length l / 3
    → homeless (drop (k * 3) l) ≡ either (ltb 1 (get_or l (k * 3) 0)) (homeless (drop ((k + 1) * 3) l))
homeless_from [] k h = absurd (omega arith)
homeless_from (a ∷ []) k h = absurd (omega arith)
homeless_from (a ∷ b ∷ []) k h = absurd (omega arith)
homeless_from (a ∷ b ∷ c ∷ l) zero h = refl
homeless_from (a ∷ b ∷ c ∷ l) (suc k) h =
    let e : suc k * 3 ≡ suc (suc (suc (k * 3))) = omega arith in
    let f : (suc k + 1) * 3 ≡ suc (suc (suc ((k + 1) * 3))) = omega arith in
    rw (e, f) (homeless_from l k (omega arith))

-- After the last range no home is judged.
pub homeless_past : (l : List ℕ) (k : ℕ) → length l / 3 ≤ k → homeless (drop (k * 3) l) ≡ false
homeless_past [] k h = ap homeless (drop_of_length-le [] {i = k * 3} (omega arith))
homeless_past (a ∷ []) zero h = refl
homeless_past (a ∷ []) (suc k) h = ap homeless (drop_of_length-le (a ∷ []) {i = suc k * 3} (omega arith))
homeless_past (a ∷ b ∷ []) zero h = refl
homeless_past (a ∷ b ∷ []) (suc k) h = ap homeless (drop_of_length-le (a ∷ b ∷ []) {i = suc k * 3} (omega arith))
homeless_past (a ∷ b ∷ c ∷ l) zero h = absurd (omega arith)
homeless_past (a ∷ b ∷ c ∷ l) (suc k) h =
    let e : suc k * 3 ≡ suc (suc (suc (k * 3))) = omega arith in
    rw e (homeless_past l k (omega arith))

-- What an edit answers where a home is bad, and where all are good.
module _ (l : List ℕ) (edit : List Range → Answer Packet) where
  pub at_no_home : homeless l ≡ true → refused 11 ≡ homed l edit
  at_no_home e = rw e refl

  pub at_home : homeless l ≡ false → edit (ranges_in l) ≡ homed l edit
  at_home e = rw e refl
