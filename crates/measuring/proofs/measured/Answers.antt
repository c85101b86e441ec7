-- `measured`: 10 and 11 first, then what strict mode refuses, then limit and room.
use mathlib.Core.Path.{◌≡◌, refl, sym, ◌∙◌}
use mathlib.Core.Bool.{false}
use native.Mathlib.Omega.{arith}
use lib.ListN.{length-take}
use Rattle.std.specs.Prelude.{Ok}
use Rattle.std.proofs.lemmas.Result.{err_from_is_err_and}
use Rattle.packet.specs.Packet.{records_of}
use Rattle.judging.specs.Judge.{is_too_long, bad_packet, options_size}
use Rattle.judging.proofs.Good.{good, is_good, options_small}
use Rattle.measuring.specs.Measuring.{measured}
use Rattle.measuring.proofs.Sizes.{measured_judged, measured_good}
use Rattle.measuring.proofs.measured.Goals as goal
use Rattle.measuring.proofs.measured.Goals.{Else-too_long, In_ok-options}

good_at : (c : In_ok-options) → (bad_packet c.args.lengths c.args.packet ≡ false) × (c.in_ok-options.options ≡ options_size 0 (records_of c.args.packet))
good_at c = is_good _ _ (Ok c.in_ok-options.options) c.in_ok-options.ensures _ refl

short_at : (c : Else-too_long) → is_too_long c.args.lengths ≡ false
short_at c = sym c.too_long.ensures ∙ c.if-too_long.false

pub returns-then-too_long : goal.returns-then-too_long
unfolding measured
returns-then-too_long c = rw (sym c.too_long.ensures ∙ c.if-too_long.true)

pub sized-requires : goal.sized-requires
sized-requires c = let p = c.args.packet in let k = good_at (goal.at.sized-requires c).In_ok-options in let g = good _ _ k.0 in (k.1, omega (arith, k.1, options_small _ 0 (records_of p) g.values, length-take p.count p.options, g.count))

pub returns-in_err-options : goal.returns-in_err-options
returns-in_err-options c =
    let p = err_from_is_err_and c.from_residual.result c.from_residual.ensures.1 in
    rw (p.1, p.2) (measured_judged _ _ _ _ _ (short_at (goal.at.returns-in_err-options c).Else-too_long) _ c.in_err-options.ensures)

pub returns-in_err-judged_strictly : goal.returns-in_err-judged_strictly
returns-in_err-judged_strictly c =
    let p = err_from_is_err_and c.from_residual-in_err-judged_strictly.result c.from_residual-in_err-judged_strictly.ensures.1 in
    rw (p.1, p.2) (sym (measured_good _ _ _ _ _ (short_at (goal.at.returns-in_err-judged_strictly c).Else-too_long) (good_at (goal.at.returns-in_err-judged_strictly c).In_ok-options).0 ∙ rw (sym c.in_err-judged_strictly.ensures)))

pub returns : goal.returns
returns c =
    sym (measured_good _ _ _ _ _ (short_at (goal.at.returns c).Else-too_long) (good_at (goal.at.returns c).In_ok-options).0 ∙ rw (sym c.in_ok-judged_strictly.ensures) (sym c.sized.ensures))
