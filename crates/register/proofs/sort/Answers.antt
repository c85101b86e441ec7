-- `sort`: a walk over the records; what is left of them has the answer for all.
use Prim.Native.Nat.{ℕ, ◌+◌, ◌<◌}
use mathlib.Core.Path.{◌≡◌, sym, ◌∙◌}
use mathlib.Core.List.{List, ◌∷◌}
use native.Mathlib.Numerals.{add-one}
use native.Mathlib.Omega.{arith}
use lib.ListN.{length, drop, get_or, length-take, drop_of_length-le}
use lib.Seq.{drop-cons}
use Rattle.packet.specs.Limits.{max_options}
use Rattle.packet.specs.Packet.{none, records_of}
use Rattle.packet.specs.declared.OptionRecord.{OptionRecord}
use Rattle.register.proofs.Walk.{start, keeps, passes_over, rejects, ends}
use Rattle.register.proofs.sort.Goals as goal
use Rattle.register.proofs.sort.Goals.{then-is_recognised, else-is_recognised+else-is_critical}

-- A record begins those that are left at its index.
here : (rs : List OptionRecord) (i : ℕ) → i < length rs → drop i rs ≡ get_or rs i none ∷ drop (i + 1) rs
here rs i h = rw (add-one, drop-cons rs i none h)

pub loop-i-init : goal.loop-i-init
loop-i-init c = start (records_of c.args.packet) c.requires.1

pub returns-then-is_critical : goal.returns-then-is_critical
returns-then-is_critical c =
    rejects _ _ _ _ c.loop-i.invariant _ (here (records_of c.args.packet) c.loop-i.i (omega arith)) (sym c.is_recognised.ensures ∙ c.if-is_recognised.false) (sym c.is_critical.ensures ∙ c.if-is_critical.true)

pub loop-i-preserved : goal.loop-i-preserved
loop-i-preserved c =
    let p = c.args.packet in
    let next = here (records_of p) c.loop-i.i (omega arith) in
    let inside : c.loop-i.i < max_options = omega (arith, c.requires.0, length-take p.count p.options) in
    elim c.if-is_recognised.branch [
      | then-is_recognised w ↦ rw (w.kept-is, w.last-is) (keeps _ _ _ _ c.loop-i.invariant _ next inside (sym c.is_recognised.ensures ∙ w.if-is_recognised.true))
      | else-is_recognised+else-is_critical w ↦
          rw (w.kept-is, w.last-is)
          (passes_over _ _ _ _ c.loop-i.invariant _ next inside (sym c.is_recognised.ensures ∙ w.if-is_recognised.false) (sym w.is_critical.ensures ∙ w.if-is_critical.false))
    ]

pub returns : goal.returns
returns c = ends _ _ _ _ c.loop-i.invariant (drop_of_length-le (records_of c.args.packet) (omega arith))
