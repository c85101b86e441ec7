-- `add_option` is a splice at the place after those that `span_of` finds.
use Prim.Native.Nat.{ℕ}
use mathlib.Core.Path.{◌≡◌, sym, ap, ◌∙◌}
use mathlib.Core.List.{List, [], ◌∷◌, map}
use Rattle.std.proofs.lemmas.Result.{err_from_is_err_and}
use Rattle.refusal.specs.Answer.{Answer, beside}
use Rattle.packet.specs.Packet.{chosen, records_of}
use Rattle.packet.specs.declared.Packet.{Packet}
use Rattle.packet.specs.declared.OptionRecord.{OptionRecord}
use Rattle.packet.specs.declared.Range.{Range}
use Rattle.splicing.specs.Splice.{roomy, record_of, homed, spliced}
use Rattle.editing.specs.Edit.{inserted, added}
use Rattle.judging.proofs.Places.{Spanned, from_between}
use Rattle.editing.proofs.Splice.{added_spliced}
use Rattle.editing.proofs.Taken.{taken, not_spanned, homed_one}
use Rattle.editing.proofs.add_option.Goals as goal

put_after : (p : Packet) (n low high : ℕ) → Spanned p n low high → (range : Range) (h : ℕ) → h ≡ chosen range.home 0 1
    → beside p (homed (h ∷ range.start ∷ range.len ∷ []) (λ new. roomy p (spliced high high (map (record_of n) new) (records_of p)))) ≡ beside p (added p n range)
unfolding added
put_after p n low high s range h e =
    let edit : List Range → Answer Packet = λ new. roomy p (spliced high high (map (record_of n) new) (records_of p)) in
    ap (λ (k : ℕ). beside p (homed (k ∷ range.start ∷ range.len ∷ []) edit)) e
    ∙ (ap (beside p) (homed_one range.home range.start range.len edit)
    ∙ (ap (λ (l : List OptionRecord). beside p (roomy p l)) (sym (added_spliced p n low high s (record_of n range ∷ [])))
    ∙ taken p (roomy p (inserted n (record_of n range ∷ []) (records_of p))) s.sound))

pub returns-in_err-span : goal.returns-in_err-span
unfolding added
returns-in_err-span c =
    let p = err_from_is_err_and c.from_residual.result c.from_residual.ensures.1 in
    rw (p.1, p.2) (not_spanned _ c.args.number _ c.in_err-span.ensures _)

pub returns : goal.returns
returns c =
    let a = c.args in
    let s = from_between a.packet a.number _ c.in_ok-span.ensures in
    c.spliced.ensures ∙ put_after a.packet a.number _ _ s a.range _ c.number_of.ensures
