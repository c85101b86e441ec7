-- `decimal_in` meets its contract: the text means what its rest means after the number read so far, which is at most the limit.
use mathlib.Core.Path.{sym, ap, ◌∙◌}
use lib.ListN.{get_or}
use Rattle.decimal.specs.Decimal.{digit_after, decimal_of}
use Rattle.decimal.proofs.Reading.{small, from_more, from_bad, from_end}
use Rattle.decimal.proofs.decimal_in.Goals as goal

pub returns-in_err-value : goal.returns-in_err-value
returns-in_err-value c =
    let bad = sym c.further.ensures ∙ ap decimal_of c.in_err-value.was in
    rw c.from_residual.ensures (sym (c.loop-byte.invariant.1 ∙ from_bad _ _ _ _ c.loop-byte-test.true bad))

pub loop-byte-preserved : goal.loop-byte-preserved
loop-byte-preserved c =
    let more = sym c.further.ensures ∙ ap decimal_of c.in_ok-value.was in
    let digit = digit_after c.loop-byte.value (get_or c.args.text.now c.loop-byte.byte-index 0) in
    (small _ digit _ more, c.loop-byte.invariant.1 ∙ from_more _ _ _ _ _ c.loop-byte-test.true more)

pub returns : goal.returns
returns c = sym (c.loop-byte.invariant.1 ∙ from_end _ _ _ _ c.loop-byte-test.false c.loop-byte.invariant.0)
