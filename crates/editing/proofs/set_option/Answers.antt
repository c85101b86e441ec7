-- `set_option` is a splice between the places that `span_of` finds.
use mathlib.Core.Path.{sym, ap, ◌∙◌}
use mathlib.Core.List.{List, map}
use Rattle.std.proofs.lemmas.Result.{err_from_is_err_and}
use Rattle.refusal.specs.Answer.{beside}
use Rattle.packet.specs.Packet.{records_of}
use Rattle.packet.specs.declared.OptionRecord.{OptionRecord}
use Rattle.splicing.specs.Splice.{roomy, record_of, ranges_in, homed}
use Rattle.editing.specs.Edit.{replaced, option_set}
use Rattle.judging.proofs.Places.{from_between}
use Rattle.editing.proofs.Splice.{set_spliced}
use Rattle.editing.proofs.Taken.{homed_taken, homed_not_spanned}
use Rattle.editing.proofs.set_option.Goals as goal

pub returns-in_err-span : goal.returns-in_err-span
unfolding option_set
returns-in_err-span c =
    let a = c.args in
    let p = err_from_is_err_and c.from_residual.result c.from_residual.ensures.1 in
    rw (p.1, p.2) (homed_not_spanned a.packet a.number _ c.in_err-span.ensures a.ranges.now (λ ranges. roomy a.packet (replaced a.number ranges (records_of a.packet))))

pub returns : goal.returns
unfolding option_set
returns c =
    let a = c.args in
    let p = a.packet in
    let l = a.ranges.now in
    let s = from_between p a.number _ c.in_ok-span.ensures in
    c.spliced.ensures
    ∙ (ap (λ (rs : List OptionRecord). beside p (homed l (λ _. roomy p rs))) (sym (set_spliced p a.number _ _ s (map (record_of a.number) (ranges_in l))))
    ∙ homed_taken p l (λ ranges. roomy p (replaced a.number ranges (records_of p))) s.sound)
