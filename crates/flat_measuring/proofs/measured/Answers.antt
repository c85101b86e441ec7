-- `measured`: 10 and 11 first, then what strict mode refuses, then the room.
use mathlib.Core.Path.{sym, ◌∙◌}
use native.Mathlib.Omega.{arith}
use Rattle.std.proofs.lemmas.Result.{err_from_is_err_and}
use Rattle.packet.specs.Packet.{records_of}
use Rattle.judging.proofs.Good.{good, options_small}
use Rattle.unflat.specs.Unflat.{packet_in}
use Rattle.flat_measuring.proofs.Records.{used}
use Rattle.flat_measuring.proofs.Judged.{counted, measured_long, measured_refused, measured_sound}
use Rattle.flat_measuring.proofs.Places.{places}
use Rattle.flat_measuring.proofs.measured.Goals as goal

pub returns-then-too_long : goal.returns-then-too_long
returns-then-too_long c = sym (measured_long _ _ _ _ (sym c.if-too_long.ensures))

pub judged_strictly-requires : goal.judged_strictly-requires
judged_strictly-requires c = (places _ _ (counted _ _ _ c.in_ok-options.ensures).0).head

pub sized-requires : goal.sized-requires
sized-requires c =
    let l = c.args.numbers.now in
    let k = counted _ _ _ c.in_ok-options.ensures in
    let p = places _ _ k.0 in
    (p.head, k.1, omega (arith, k.1, options_small _ 0 (records_of (packet_in l)) (good _ _ k.0.packet).values, used l, p.count))

pub returns-in_err-options : goal.returns-in_err-options
returns-in_err-options c =
    let p = err_from_is_err_and c.from_residual.result c.from_residual.ensures.1 in
    rw (p.1, p.2) (sym (measured_refused _ _ _ _ (sym c.if-too_long.ensures) _ c.in_err-options.ensures))

pub returns-in_err-judged_strictly : goal.returns-in_err-judged_strictly
returns-in_err-judged_strictly c =
    let p = err_from_is_err_and c.from_residual-in_err-judged_strictly.result c.from_residual-in_err-judged_strictly.ensures.1 in
    rw (p.1, p.2)
    (sym (measured_sound _ _ _ _ (sym c.if-too_long.ensures) (counted _ _ _ c.in_ok-options.ensures).0 ∙ rw (sym c.in_err-judged_strictly.ensures)))

pub returns : goal.returns
returns c =
    sym (measured_sound _ _ _ _ (sym c.if-too_long.ensures) (counted _ _ _ c.in_ok-options.ensures).0 ∙ rw (sym c.in_ok-judged_strictly.ensures) (sym c.sized.ensures))
