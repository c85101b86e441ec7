-- Our plan is accepted: each of its blocks may be the next.
use Prim.Native.Nat.{ℕ, zero, suc, ◌+◌, ◌-◌, ◌*◌, ◌%◌, ◌^◌, ◌<◌, ◌≤◌}
use mathlib.Core.Path.{◌≡◌, refl, sym, ap, ◌∙◌}
use mathlib.Core.Bool.{true}
use mathlib.Core.List.{List, [], ◌∷◌, map}
use native.Mathlib.Nat.{div-le_self}
use native.Mathlib.Omega.{arith}
use lib.Dec.{ltb}
use lib.Pow.{pow_pos, split}
use lib.ListN.{length, get_or, drop, length-drop}
use lib.Seq.{drop-cons}
use Rattle.rfc.specs.Block.{Block, Valid, block_number, block_of}
use Rattle.rfc.proofs.Block.{block_number_lem}
use Rattle.ground.proofs.Choice.{on_eq}
use Rattle.plan_checking.specs.Accepted.{Each, Accepted, Good}
use Rattle.image.specs.Image.{fits}
use Rattle.plan_checking.specs.Plan.{start, stop}
use Rattle.planning.specs.Planner.{largest, block_at, plan_from, planned, values}
use Rattle.plan_checking.specs.Steps.{Next}
use Rattle.plan_checking.proofs.From.{From, grow, none, pass, accepted}
use Rattle.image.proofs.Fitting.{few_units}
use Rattle.planning.proofs.Largest.{Open, one_open, largest_open, largest_bound}

-- A block at a multiple of its width starts there.
pub starts_at : (size unit e : ℕ) → unit % 2 ^ e ≡ 0 → start (block_at size unit e) ≡ unit
starts_at size unit e d = omega (arith, split unit e, d)

module _ (held : List ℕ) (h : ℕ) (hs : List ℕ) (unit : ℕ) (e : drop unit held ≡ h ∷ hs) where
  -- The first of the units that are left, and the others.
  pub there : unit < length held
  there = omega (arith, simp length-drop at (ap length e))

  pub tail_is : drop (suc unit) held ≡ hs
  tail_is = let d : drop unit held ≡ get_or held unit 0 ∷ drop (suc unit) held = drop-cons held unit 0 there in cc

  pub head_is : get_or held unit 0 ≡ h
  head_is = let d : drop unit held ≡ get_or held unit 0 ∷ drop (suc unit) held = drop-cons held unit 0 there in cc

module _ (size : ℕ) (held : List ℕ) (few : length held ≤ 65536) where
  -- A block that may start at a unit may be the next there.
  open_next : (unit e : ℕ) → unit < length held → e ≤ 6 → Open held unit e → Next size held unit (block_at size unit e)
  open_next unit e h s o =
      let i : start (block_at size unit e) ≡ unit = starts_at size unit e o.divides in
      record {
        strict = record { num = omega (arith, div-le_self unit (2 ^ e)); szx = s };
        after = omega (arith, i);
        inside = omega (arith, i);
        more = ap (λ (u : ℕ). ltb ((u + 2 ^ e) * 16) size) (sym i);
        gap = λ u l k m. omega (arith, i);
        whole = λ u l k m. o.whole u (omega (arith, i)) (omega (arith, i)) m;
      }

  module _ (h : ℕ) (hs : List ℕ) (unit : ℕ) (e : drop unit held ≡ h ∷ hs) where
    step : ((c : ℕ) → From size held (suc unit + c) (plan_from size (suc unit) c hs)) → (covered : ℕ) → From size held (unit + covered) (plan_from size unit covered (h ∷ hs))
    unfolding plan_from
    step f (suc c) = let s : unit + suc c ≡ suc unit + c = omega arith in rw s (f c)
    step f zero =
        let s : unit + 0 ≡ unit = omega arith in
        let on : suc unit + 0 ≡ suc unit = omega arith in
        rw s
        (on_eq (From size held unit) h 0
        (λ z.
        let x : ℕ = largest unit (h ∷ hs) in
        let o : Open held unit x = rw e at (largest_open held unit 6 (one_open held unit (head_is held h hs unit e ∙ z))) in
        let small : x ≤ 6 = rw e at (largest_bound held unit 6) in
        let i : start (block_at size unit x) ≡ unit = starts_at size unit x o.divides in
        let far : suc unit + (2 ^ x - 1) ≡ stop (block_at size unit x) = omega (arith, i, pow_pos x) in
        grow size held unit (block_at size unit x) (plan_from size (suc unit) (2 ^ x - 1) hs) (open_next unit x (there held h hs unit e) small o) (rw far at (f (2 ^ x - 1))))
        (λ n. pass size held unit (plan_from size (suc unit) 0 hs) (λ m. n (sym (head_is held h hs unit e) ∙ m.zero)) (rw on at (f 0))))

  made : (rest : List ℕ) (unit covered : ℕ) → drop unit held ≡ rest → From size held (unit + covered) (plan_from size unit covered rest)
  unfolding plan_from
  made [] unit covered e = none size held (unit + covered) (λ u l h m. omega (arith, simp length-drop at (ap length e)))
  made (h ∷ hs) unit covered e = step h hs unit e (λ c. made hs (suc unit) c (tail_is held h hs unit e)) covered

-- Blocks that are strict are read back from their values.
read_back : (bs : List Block) → Each Valid bs → map block_of (map block_number bs) ≡ bs
read_back [] v = refl
read_back (b ∷ bs) v = rw (block_number_lem b (omega (arith, v.0.szx)), read_back bs v.1)

module _ (size : ℕ) (held : List ℕ) (fit : fits size held ≡ true) where
  -- Our plan of every image is accepted, and the check says so of its values.
  pub ours_accepted : Accepted size held (planned size held)
  unfolding planned
  ours_accepted = accepted size held (planned size held) (made size held (few_units size held fit) held 0 0 refl)

  pub read_ours : map block_of (values size held) ≡ planned size held
  read_ours = read_back (planned size held) ours_accepted.strict

  pub ours_good : Good size held (values size held)
  ours_good = record { image = fit; plan = rw read_ours ours_accepted }
