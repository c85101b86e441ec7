-- `check`: each return by the tests on its way; a good packet has at most 128 records, whose numbers never fall.
use mathlib.Core.Path.{◌≡◌, refl, sym, subst, ◌∙◌}
use mathlib.Core.Bool.{Bool, true, false}
use mathlib.Core.List.{List}
use Rattle.std.specs.Prelude.{Result, Ok, Err}
use Rattle.std.specs.Result.{IsErrAnd}
use Rattle.refusal.specs.Number.{number_of}
use Rattle.refusal.specs.declared.Refusal.{Refusal}
use Rattle.refusal.specs.declared.Refusal.TheVariants.{TooLong}
use Rattle.refusal.specs.declared.Fault.{Fault}
use Rattle.refusal.specs.declared.Fault.TheVariants.{Refused}
use Rattle.packet.specs.declared.Packet.{Packet}
use Rattle.judging.specs.Judge.{is_too_long, bad_packet, judged, judging}
use Rattle.judging.specs.declared.Lengths.{Lengths}
use Rattle.judging.proofs.Good.{good, is_bad, is_good}
use Rattle.register.specs.Check.{if_in_order, Checks}
use Rattle.register.proofs.check.Goals as goal

-- A bad packet gets the refusal of its judgement.
refused_so : (n : Lengths) (p : Packet) (r : Result (List Bool) Fault) (e : Refusal) → is_too_long n ≡ false → judged (Err e) ≡ judging n p
    → IsErrAnd r (λ f. f ≡ Refused e) → Checks n p r
unfolding if_in_order judging
refused_so n p (Ok k) e short j h = absurd h
refused_so n p (Err f) e short j h =
    let b : bad_packet n p ≡ true = is_bad n p (Err e) j e refl in
    let told = rw b at j in
    let eleven : number_of e ≡ 11 = cc in
    rw (h, short, b, eleven) refl

pub returns-then-too_long : goal.returns-then-too_long
unfolding if_in_order
returns-then-too_long c =
    subst (λ (n : Lengths). Checks n c.args.packet (Err (Refused TooLong))) c.of-lengths.ensures
    (rw (sym c.too_long.ensures ∙ c.if-too_long.true) refl)

pub sort-requires : goal.sort-requires
sort-requires c = let g = good _ _ (is_good _ _ _ c.judge.ensures _ c.in_ok-judge.was).0 in (g.count, g.ordered)

pub returns-in_err-judge : goal.returns-in_err-judge
unfolding if_in_order
returns-in_err-judge c =
    subst (λ (n : Lengths). Checks n c.args.packet c.from_residual.result) c.of-lengths.ensures
    (refused_so _ _ _ c.in_err-judge.field-0.0 (sym c.too_long.ensures ∙ c.if-too_long.false) (rw c.in_err-judge.was at c.judge.ensures) c.from_residual.ensures.1)

pub returns : goal.returns
unfolding if_in_order
returns c =
    subst (λ (n : Lengths). Checks n c.args.packet c.sort.result) c.of-lengths.ensures
    (rw (sym c.too_long.ensures ∙ c.if-too_long.false, (is_good _ _ _ c.judge.ensures _ c.in_ok-judge.was).0) c.sort.ensures)
