-- `write_target` meets its contract: the refusals in turn.
use mathlib.Core.Path.{◌≡◌, sym, ap, subst, ◌∙◌}
use mathlib.Core.Bool.{true, false}
use Rattle.std.proofs.lemmas.Result.{err_from_is_err_and}
use Rattle.packet.specs.Packet.{held}
use Rattle.refusal.specs.Answer.{refused}
use Rattle.refusal.specs.Number.{number_of}
use Rattle.judging.specs.Judge.{is_too_long, bad_packet, judging}
use Rattle.judging.specs.declared.Lengths.{Lengths}
use Rattle.judging.proofs.Good.{good, is_bad, is_good}
use Rattle.target_writing.proofs.Texts.{too_long, bad_record, good_record}
use Rattle.target_writing.proofs.write_target.Goals as goal

pub returns-then-too_long : goal.returns-then-too_long
returns-then-too_long c = too_long (held c.args.stores) _ _ (ap is_too_long (sym c.of-lengths.ensures) ∙ (sym c.too_long.ensures ∙ c.if-too_long.true))

-- The packet that is put has no bad record.
pub put_target-requires : goal.put_target-requires
put_target-requires c = record { count = (good _ _ (is_good _ _ _ c.judge.ensures _ c.in_ok-judge.was).0).count; short = (ap is_too_long (sym c.of-lengths.ensures) ∙ (sym c.too_long.ensures ∙ c.if-too_long.false)) }

pub returns-in_err-judge : goal.returns-in_err-judge
returns-in_err-judge c =
    let p = err_from_is_err_and c.from_residual.result c.from_residual.ensures.1 in
    rw (p.1, p.2)
    (bad_record (held c.args.stores) _ _ _ (ap is_too_long (sym c.of-lengths.ensures) ∙ (sym c.too_long.ensures ∙ c.if-too_long.false))
    (subst (λ (n : Lengths). bad_packet n c.args.packet ≡ true) c.of-lengths.ensures (is_bad _ _ _ c.judge.ensures _ c.in_err-judge.was))
    (subst (λ (n : Lengths). refused (number_of c.in_err-judge.field-0.0) ≡ judging n c.args.packet) c.of-lengths.ensures c.in_err-judge.ensures))

pub returns : goal.returns
returns c = good_record (held c.args.stores) c.args.packet _ _ _ (ap is_too_long (sym c.of-lengths.ensures) ∙ (sym c.too_long.ensures ∙ c.if-too_long.false)) (subst (λ (n : Lengths). bad_packet n c.args.packet ≡ false) c.of-lengths.ensures (is_good _ _ _ c.judge.ensures _ c.in_ok-judge.was).0) c.put_target.ensures
