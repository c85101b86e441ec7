-- The rule names one plan, ours: of all accepted plans it alone has only blocks that are the largest where they start.
use Prim.Native.Nat.{ℕ, zero, suc, ◌+◌, ◌-◌, ◌^◌, ◌≤◌}
use mathlib.Core.Path.{◌≡◌, refl, sym, ap, ◌∙◌}
use mathlib.Core.List.{List, [], ◌∷◌}
use native.Mathlib.Omega.{arith}
use lib.Pow.{shl-shr}
use lib.ListN.{length, get_or, drop}
use Rattle.rfc.specs.Block.{Block}
use Rattle.ground.proofs.Choice.{on_eq, by_lt, by_eq}
use Rattle.plan_checking.specs.Accepted.{Each, Accepted}
use Rattle.plan_checking.specs.Plan.{start, stop}
use Rattle.planning.specs.Planner.{largest, block_at, plan_from, planned, Greedy}
use Rattle.image.specs.Image.{NoneMissing}
use Rattle.plan_checking.specs.Steps.{Next}
use Rattle.plan_checking.proofs.From.{From, starts_first, first, others, none_missing, from_start}
use Rattle.planning.proofs.Largest.{Open, one_open, largest_open}
use Rattle.planning.proofs.Planned.{onward, ended, at_held, at_missing}
use Rattle.planning.proofs.Ours.{starts_at, head_is, tail_is}

module _ (size : ℕ) (held : List ℕ) where
  -- Where no unit is missing there is no block.
  idle : (n u : ℕ) → NoneMissing held u (u + n) → onward size held u ≡ onward size held (u + n)
  idle zero u f = ap (onward size held) (omega arith)
  idle (suc n) u f =
      let on : u + 1 + n ≡ u + suc n = omega arith in
      by_lt u (length held)
      (λ h.
      at_held size held u h (λ z. f u (omega arith) (omega arith) (record { exists = h; zero = z }))
      ∙ (idle n (u + 1) (λ v l k m. f v (omega arith) (omega arith) m) ∙ ap (onward size held) on))
      (λ h. ended size held u h ∙ sym (ended size held (u + suc n) (omega arith)))

  idle_to : (u to : ℕ) → u ≤ to → NoneMissing held u to → onward size held u ≡ onward size held to
  idle_to u to l f = let e : u + (to - u) ≡ to = omega arith in idle (to - u) u (rw e f) ∙ ap (onward size held) e

  -- A block that may be the next is the block of its exponent at its start.
  is_at : (at : ℕ) (b : Block) → Next size held at b → b ≡ block_at size (start b) b.szx
  is_at at b n = λ i. record { num = sym (shl-shr b.num b.szx) i; more = n.more i; szx = b.szx }

  start_missing : (at : ℕ) (b : Block) → Next size held at b → get_or held (start b) 0 ≡ 0
  start_missing at b n =
      by_eq (get_or held (start b) 0) 0 (λ z. z)
      (λ z. absurd (n.whole (start b) (omega arith) (starts_first b) (record { exists = n.inside; other = z })))

  same : (at : ℕ) (bs : List Block) → From size held at bs → Each (Greedy held) bs → bs ≡ onward size held at
  same at [] f g =
      by_lt at (length held)
      (λ h. sym (idle_to at (length held) (omega arith) (none_missing size held at f) ∙ ended size held (length held) (omega arith)))
      (λ h. sym (ended size held at h))
  same at (b ∷ bs) f g =
      let n : Next size held at b = first size held at b bs f in
      let z : get_or held (start b) 0 ≡ 0 = start_missing at b n in
      let rest : bs ≡ onward size held (stop b) = same (stop b) bs (others size held at b bs f) g.1 in
      let here : onward size held (start b) ≡ block_at size (start b) b.szx ∷ onward size held (stop b) = at_missing size held (start b) n.inside b.szx g.0 z in
      sym
      (idle_to at (start b) n.after n.gap
      ∙ (here ∙ ap (λ (d : Block). d ∷ onward size held (stop b)) (sym (is_at at b n)) ∙ ap (λ (ds : List Block). b ∷ ds) (sym rest)))

  -- An accepted plan of such blocks is ours.
  pub named : (bs : List Block) → Accepted size held bs → Each (Greedy held) bs → bs ≡ planned size held
  unfolding planned
  named bs a g = same 0 bs (from_start size held bs a) g

  greedy_from : (rest : List ℕ) (unit covered : ℕ) → drop unit held ≡ rest → Each (Greedy held) (plan_from size unit covered rest)
  unfolding plan_from
  greedy_from [] unit covered e = tt
  greedy_from (h ∷ hs) unit (suc c) e = greedy_from hs (suc unit) c (tail_is held h hs unit e)
  greedy_from (h ∷ hs) unit zero e =
      on_eq (Each (Greedy held)) h 0
      (λ z.
      let x : ℕ = largest unit (h ∷ hs) in
      let o : Open held unit x = rw e at (largest_open held unit 6 (one_open held unit (head_is held h hs unit e ∙ z))) in
      let i : start (block_at size unit x) ≡ unit = starts_at size unit x o.divides in
      (rw (i, e) refl, greedy_from hs (suc unit) (2 ^ x - 1) (tail_is held h hs unit e)))
      (λ _. greedy_from hs (suc unit) 0 (tail_is held h hs unit e))

  -- Ours is one.
  pub greedy : Each (Greedy held) (planned size held)
  unfolding planned
  greedy = greedy_from held 0 0 refl

  -- A plan that is accepted has no block exactly where nothing is missing.
  pub empty_full : Accepted size held [] → NoneMissing held 0 (length held)
  empty_full a = none_missing size held 0 (from_start size held [] a)

  pub full_empty : (bs : List Block) → Accepted size held bs → NoneMissing held 0 (length held) → bs ≡ []
  full_empty [] a n = refl
  full_empty (b ∷ bs) a n =
      let x : Next size held 0 b = first size held 0 b bs (from_start size held (b ∷ bs) a) in
      absurd (n (start b) (omega arith) x.inside (record { exists = x.inside; zero = start_missing 0 b x }))
