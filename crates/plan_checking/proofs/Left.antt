-- The check on its way: the plan is accepted exactly where its values from `k` on are a plan from the unit `at` on.
use Prim.Native.Nat.{ℕ, ◌+◌, ◌<◌, ◌≤◌}
use mathlib.Core.Path.{◌≡◌}
use mathlib.Core.List.{List, [], ◌∷◌, map}
use native.Mathlib.Numerals.{add-one}
use native.Mathlib.Omega.{arith}
use lib.ListN.{length, get_or, drop, drop_of_length-le}
use lib.Seq.{drop-cons}
use Rattle.rfc.specs.Block.{block_of}
use Rattle.plan_checking.specs.Accepted.{Accepted}
use Rattle.plan_checking.specs.Plan.{stop}
use Rattle.image.specs.Image.{NoneMissing}
use Rattle.plan_checking.specs.Steps.{Next}
use Rattle.plan_checking.proofs.From.{From, grow, first, others, none, none_missing, accepted, from_start}

module _ (size : ℕ) (held plan : List ℕ) where
  pub record Left (at k : ℕ) : Type 0 where
    pub within : k ≤ length plan
    pub enough : From size held at (map block_of (drop k plan)) → Accepted size held (map block_of plan)
    pub needed : Accepted size held (map block_of plan) → From size held at (map block_of (drop k plan))

  pub begin : Left 0 0
  begin = record { within = omega arith; enough = accepted size held (map block_of plan); needed = from_start size held (map block_of plan) }

  module _ (at k : ℕ) (l : Left at k) (h : k < length plan) where
    next : drop k plan ≡ get_or plan k 0 ∷ drop (k + 1) plan
    next = rw (add-one, drop-cons plan k 0)

    -- The value at `k` can't be the next: the plan isn't accepted.
    pub stuck : (Next size held at (block_of (get_or plan k 0)) → ⊥) → Accepted size held (map block_of plan) → ⊥
    stuck n a = n (first size held at (block_of (get_or plan k 0)) (map block_of (drop (k + 1) plan)) (rw next at (l.needed a)))

    -- It can: the others are left.
    pub turn : (to : ℕ) → to ≡ stop (block_of (get_or plan k 0)) → Next size held at (block_of (get_or plan k 0)) → Left to (k + 1)
    turn to e n = record {
      within = omega arith;
      enough = λ f. l.enough (rw next (grow size held at (block_of (get_or plan k 0)) (map block_of (drop (k + 1) plan)) n (rw e at f)));
      needed = λ a. rw e (others size held at (block_of (get_or plan k 0)) (map block_of (drop (k + 1) plan)) (rw next at (l.needed a)));
    }

  module _ (at k : ℕ) (l : Left at k) (h : length plan ≤ k) where
    done : drop k plan ≡ []
    done = drop_of_length-le plan h

    -- No value is left: what is left of the image decides.
    pub at_end : NoneMissing held at (length held) → Accepted size held (map block_of plan)
    at_end n = l.enough (rw done (none size held at n))

    pub not_end : Accepted size held (map block_of plan) → NoneMissing held at (length held)
    not_end a = none_missing size held at (rw done at (l.needed a))
