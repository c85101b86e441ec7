-- `clear_all_options` goes by what `span_of` says of the order.
use mathlib.Core.List.{[]}
use Rattle.std.proofs.lemmas.Result.{err_from_is_err_and}
use Rattle.refusal.specs.Answer.{given}
use Rattle.splicing.specs.Splice.{with_records}
use Rattle.editing.specs.Edit.{cleared_all}
use Rattle.editing.proofs.Taken.{taken, not_spanned}
use Rattle.judging.proofs.Places.{from_between}
use Rattle.editing.proofs.clear_all_options.Goals as goal

pub returns-in_err-span_of : goal.returns-in_err-span_of
unfolding cleared_all
returns-in_err-span_of c =
    let p = err_from_is_err_and c.from_residual.result c.from_residual.ensures.1 in
    rw (p.1, p.2) (not_spanned _ 0 _ c.in_err-span_of.ensures _)

pub returns : goal.returns
unfolding cleared_all
returns c =
    let p = c.args.packet in
    taken p (given (with_records p [])) (from_between p 0 _ c.in_ok-span_of.ensures).sound
