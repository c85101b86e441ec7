-- `walked`: the walk of reading, which notes each place that it passes.
use mathlib.Core.Path.{sym}
use native.Mathlib.Omega.{arith}
use Rattle.std.proofs.lemmas.Result.{err_from_is_err_and}
use Rattle.ground.proofs.Part.{bytes_of}
use Rattle.refusal.proofs.Answers.{on_given}
use Rattle.option_reading.specs.Option.{place_at}
use Rattle.option_reading.proofs.Within.{Inside, place_inside, here}
use Rattle.scanning.proofs.Judged.{going_turn, going_refuses, going_overflows, going_ends, told, told_refused, spanned_alone, spanned_well}
use Rattle.scanning.proofs.walked.Goals as goal

pub returns-in_err-marked : goal.returns-in_err-marked
returns-in_err-marked c =
    let a = c.args in
    let e = here _ _ _ _ c.requires.1 c.in_err-marked.ensures in
    let p = told_refused a.strict a.buf.now a.start _ c.loop-marked.places c.longest_value-most.ensures _ (going_refuses _ _ _ _ _ _ _ c.loop-marked.invariant.0 _ e) in
    let r = err_from_is_err_and c.from_residual.result c.from_residual.ensures.1 in
    rw (r.1, r.2) (record { result_value = p.0; places = p.1 })

pub returns-then-marker_alone : goal.returns-then-marker_alone
returns-then-marker_alone c =
    let a = c.args in
    let e = here _ _ _ _ c.requires.1 (rw c.in-End.is at c.in_ok-marked.ensures) in
    let p = told a.strict a.buf.now a.start _ c.loop-marked.places c.longest_value-most.ensures _ (going_ends _ _ _ _ _ _ _ c.loop-marked.invariant.0 _ _ e) _ (spanned_alone a.strict a.buf.now a.start _ (sym c.if-marker_alone.ensures)) c.loop-marked.invariant.0.noted in
    record { result_value = p.0; places = p.1 }

pub returns-in-End : goal.returns-in-End
returns-in-End c =
    let a = c.args in
    let g = c.loop-marked.invariant.0 in
    let e = here _ _ _ _ c.requires.1 (rw c.in-End.is at c.in_ok-marked.ensures) in
    let p = told a.strict a.buf.now a.start _ c.loop-marked.places c.longest_value-most.ensures _ (going_ends _ _ _ _ _ _ _ g _ _ e) _ (rw (g.counted, g.ends) (spanned_well a.strict a.buf.now a.start _ (sym c.if-marker_alone.ensures))) g.noted in
    record { result_value = p.0; places = p.1 }

pub returns-then-count-ge-MAX_OPTIONS : goal.returns-then-count-ge-MAX_OPTIONS
returns-then-count-ge-MAX_OPTIONS c =
    let a = c.args in
    let e = here _ _ _ _ c.requires.1 (rw c.in-Option.is at c.in_ok-marked.ensures) in
    let p = told_refused a.strict a.buf.now a.start _ c.loop-marked.places c.longest_value-most.ensures _ (going_overflows _ _ _ _ _ _ _ c.loop-marked.invariant.0 _ e c.if-count-ge-MAX_OPTIONS.true) in
    record { result_value = p.0; places = p.1 }

pub loop-marked-preserved : goal.loop-marked-preserved
loop-marked-preserved c =
    let l = c.loop-marked in
    let s = c.args.buf.now in
    let e = here _ _ _ _ c.requires.1 (rw c.in-Option.is at c.in_ok-marked.ensures) in (
      rw c.note.ensures (going_turn _ _ _ _ _ _ _ l.invariant.0 _ e (omega arith) (on_given (Inside s) (place_at _ s _ _) _ (place_inside _ s _ _ (bytes_of s (λ i. omega (arith, c.type_inv.buf i)))) e)),
      omega arith,
    )
