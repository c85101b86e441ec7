-- Our plan has at most half as many blocks as there are units, rounded up: of each two units at most one starts a block.
use Prim.Native.Nat.{ℕ, zero, suc, ◌+◌, ◌-◌, ◌/◌, ◌%◌, ◌^◌, ◌≤◌}
use mathlib.Core.Path.{◌≡◌, refl}
use mathlib.Core.Bool.{true}
use mathlib.Core.List.{List, [], ◌∷◌}
use native.Mathlib.Nat.{two-pow-succ}
use native.Mathlib.Omega.{arith}
use lib.Dec.{eqb, lit≤}
use lib.Pow.{pow_pos, mod-mod-pow}
use lib.ListN.{length, take}
use borrow.Author.Tests.{eq-eqb, eqb-true}
use Rattle.rfc.specs.Block.{Block}
use Rattle.ground.proofs.Choice.{on, on_eq, both_true}
use Rattle.planning.specs.Planner.{may_start, largest_up_to, largest, plan_from, planned}
use Rattle.image.specs.Image.{alike}

-- At an odd unit only a block of one unit may start.
odd : (k unit : ℕ) (rest : List ℕ) → unit % 2 ≡ 1 → largest_up_to k unit rest ≡ 0
unfolding largest_up_to may_start
odd zero unit rest o = refl
odd (suc k) unit rest o =
    on (λ (m : ℕ). m ≡ 0) (may_start unit rest (suc k))
    (λ t.
    let d : unit % 2 ^ suc k ≡ 0 = eqb-true (unit % 2 ^ suc k) 0 (both_true (eqb (unit % 2 ^ suc k) 0) (alike true (take (2 ^ suc k) rest)) t).0 in
    let s : k + 1 ≡ suc k = omega arith in
    let m : unit % 2 ^ (k + 1) % 2 ≡ unit % 2 = mod-mod-pow unit k 1 in
    let n : 0 % 2 ≡ unit % 2 = rw (s, d) at m in
    absurd (omega (arith, n)))
    (λ t. odd k unit rest o)

-- At an even unit, with the next one missing too, one of more may.
pair : (k unit : ℕ) (rest : List ℕ) → may_start unit rest 1 ≡ true → 1 ≤ largest_up_to (suc k) unit rest
unfolding largest_up_to
pair zero unit rest t = rw t (lit≤ tt)
pair (suc k) unit rest t =
    on (λ (m : ℕ). 1 ≤ m) (may_start unit rest (suc (suc k))) (λ _. omega arith) (λ _. pair k unit rest t)

may_pair : (unit h k : ℕ) (rest : List ℕ) → unit % 2 ≡ 0 → h ≡ 0 → k ≡ 0 → may_start unit (h ∷ k ∷ rest) 1 ≡ true
unfolding may_start
may_pair unit h k rest e p q = rw (eq-eqb (unit % 2) 0 e, eq-eqb h 0 p, eq-eqb k 0 q) refl

module _ (size : ℕ) where
  -- A block of more units than one covers the second unit; a block of one stands before a held unit.
  after_missing : (x k : ℕ) (rest : List ℕ) (unit : ℕ) → (x ≡ 0 → k ≡ 0 → ⊥) → ((m : ℕ) → m % 2 ≡ 0 → length (plan_from size (suc (suc unit)) m rest) ≤ (length rest + 1) / 2) → suc (length (plan_from size (suc unit) (2 ^ x - 1) (k ∷ rest))) ≤ (length rest + 3) / 2
  unfolding plan_from
  after_missing zero k rest unit n f =
      on_eq (λ (bs : List Block). suc (length bs) ≤ (length rest + 3) / 2) k 0 (λ q. absurd (n refl q))
      (λ _. omega (arith, f 0 refl))
  after_missing (suc y) k rest unit n f =
      let e : 2 ^ suc y - 1 ≡ suc (2 ^ suc y - 2) = omega (arith, two-pow-succ y, pow_pos y) in
      rw e (omega (arith, f (2 ^ suc y - 2) (omega (arith, two-pow-succ y, pow_pos y))))

  -- From an even unit on, with an even number of units covered.
  halved : (rest : List ℕ) (unit covered : ℕ) → unit % 2 ≡ 0 → covered % 2 ≡ 0 → length (plan_from size unit covered rest) ≤ (length rest + 1) / 2
  unfolding plan_from
  halved [] unit covered u c = omega arith
  halved (h ∷ []) unit (suc covered) u c = omega arith
  halved (h ∷ []) unit zero u c =
      on_eq (λ (bs : List Block). length bs ≤ 1) h 0 (λ _. lit≤ tt) (λ _. lit≤ tt)
  halved (h ∷ k ∷ rest) unit (suc zero) u c = absurd (omega arith)
  halved (h ∷ k ∷ rest) unit (suc (suc covered)) u c = omega (arith, halved rest (suc (suc unit)) covered (omega arith) (omega arith))
  halved (h ∷ k ∷ rest) unit zero u c =
      let on-two : (m : ℕ) → m % 2 ≡ 0 → length (plan_from size (suc (suc unit)) m rest) ≤ (length rest + 1) / 2 =
      λ m e. halved rest (suc (suc unit)) m (omega arith) e
      in
      on_eq (λ (bs : List Block). length bs ≤ (length (h ∷ k ∷ rest) + 1) / 2) h 0
      (λ p.
      let m : suc (length (plan_from size (suc unit) (2 ^ largest unit (h ∷ k ∷ rest) - 1) (k ∷ rest))) ≤ (length rest + 3) / 2 =
      after_missing (largest unit (h ∷ k ∷ rest)) k rest unit
      (λ z q. omega (arith, pair 5 unit (h ∷ k ∷ rest) (may_pair unit h k rest u p q))) on-two
      in
      omega (arith, m))
      (λ _.
      on_eq (λ (bs : List Block). length bs ≤ (length (h ∷ k ∷ rest) + 1) / 2) k 0
      (λ _.
      let z : 2 ^ largest (suc unit) (k ∷ rest) - 1 ≡ 0 = rw (odd 6 (suc unit) (k ∷ rest) (omega arith)) refl in
      rw z (omega (arith, on-two 0 refl)))
      (λ _. omega (arith, on-two 0 refl)))

  pub half_as_many : (held : List ℕ) → length (planned size held) ≤ (length held + 1) / 2
  unfolding planned
  half_as_many held = halved held 0 0 refl refl
