-- The planner's two loops: what is counted and what is left make the whole count, and what is written and what is left
-- the whole output.
use Prim.Native.Nat.{ℕ, ◌+◌, ◌<◌, ◌≤◌}
use mathlib.Core.Path.{◌≡◌, refl, sym, ap, ◌∙◌}
use mathlib.Core.List.{List, ◌∷◌, map}
use native.Mathlib.Numerals.{add-one}
use native.Mathlib.Omega.{arith}
use lib.ListN.{length, get_or, set, length-set, length-map}
use lib.Seq.{sets}
use Rattle.rfc.specs.Block.{Block, block_number}
use Rattle.planning.specs.Planner.{block_at, planned, values, Largest}
use Rattle.placing.specs.Put.{Put}
use Rattle.planning.proofs.Planned.{onward, ended, at_held, at_missing}

onward_missing : (size : ℕ) (held : List ℕ) (u e w : ℕ) → u < length held → get_or held u 0 ≡ 0 → Largest held u e w → onward size held u ≡ block_at size u e ∷ onward size held (u + w)
onward_missing size held u e w h z l = rw l.wide.is (at_missing size held u h e l.is z)

module _ (held : List ℕ) where
  pub record Counted (u count : ℕ) : Type 0 where
    pub few : count ≤ u
    pub rest : (size : ℕ) → count + length (onward size held u) ≡ length (planned size held)

  pub none_counted : Counted 0 0
  unfolding planned
  none_counted = record { few = omega arith; rest = λ size. omega arith }

  module _ (u count : ℕ) (c : Counted u count) where
    pub all_counted : length held ≤ u → (size : ℕ) → count ≡ length (planned size held)
    all_counted h size = omega (arith, c.rest size, ap length (ended size held u h))

    module _ (h : u < length held) where
      pub held_counted : (get_or held u 0 ≡ 0 → ⊥) → Counted (u + 1) count
      held_counted n = record {
        few = omega (arith, c.few);
        rest = λ size. omega (arith, c.rest size, ap length (at_held size held u h n));
      }

      pub block_counted : (e w : ℕ) → get_or held u 0 ≡ 0 → Largest held u e w → Counted (u + w) (count + 1)
      block_counted e w z l = record {
        few = omega (arith, c.few, l.wide.least);
        rest = λ size. omega (arith, c.rest size, ap length (onward_missing size held u e w h z l));
      }

module _ (size : ℕ) (held old : List ℕ) where
  pub record Putting (out : List ℕ) (u k : ℕ) : Type 0 where
    pub same : length out ≡ length old
    pub room : length (planned size held) ≤ length old
    pub count : k + length (onward size held u) ≡ length (planned size held)
    pub rest : sets out k (map block_number (onward size held u)) ≡ sets old 0 (values size held)

  pub none_put : length (planned size held) ≤ length old → Putting old 0 0
  unfolding planned
  none_put r = record { same = refl; room = r; count = omega arith; rest = refl }

  module _ (out : List ℕ) (u k : ℕ) (p : Putting out u k) where
    pub all_put : length held ≤ u → Put old 0 (values size held) k out
    all_put h = record {
      next = omega (arith, p.count, ap length (ended size held u h), length-map (planned size held) block_number);
      out = rw (ended size held u h) at p.rest;
    }

    module _ (h : u < length held) where
      pub held_put : (get_or held u 0 ≡ 0 → ⊥) → Putting out (u + 1) k
      held_put n =
          let e : onward size held u ≡ onward size held (u + 1) = at_held size held u h n in
          record { same = p.same; room = p.room; count = omega (arith, p.count, ap length e); rest = ap (λ (bs : List Block). sets out k (map block_number bs)) (sym e) ∙ p.rest }

      module _ (e w : ℕ) (z : get_or held u 0 ≡ 0) (l : Largest held u e w) where
        next : onward size held u ≡ block_at size u e ∷ onward size held (u + w)
        next = onward_missing size held u e w h z l

        pub place : k < length out
        place = omega (arith, p.room, p.same, p.count, ap length next)

        pub block_put : (v : ℕ) → v ≡ block_number (block_at size u e) → Putting (set out k v) (u + w) (k + 1)
        block_put v i = record {
          same = length-set out k v ∙ p.same;
          room = p.room;
          count = omega (arith, p.count, ap length next);
          rest = rw (add-one, i) (ap (λ (bs : List Block). sets out k (map block_number bs)) (sym next) ∙ p.rest);
        }
