-- Reading step by step: the laws of the cursor, over the readers' own promises.
use Prim.Native.Nat.{zero, suc}
use mathlib.Core.Path.{◌≡◌, refl, sym, ap, ◌∙◌}
use native.Mathlib.Omega.{arith}
use Rattle.std.specs.Prelude.{Result, Ok, Err}
use Rattle.refusal.specs.Answer.{Answer, given, refused, outcome, onward, Beside, beside}
use Rattle.refusal.specs.Number.{number_of}
use Rattle.refusal.proofs.Distinct.{one_outcome}
use Rattle.refusal.specs.declared.Refusal.{Refusal}
use Rattle.packet.specs.Packet.{new_packet}
use Rattle.packet.specs.declared.Packet.{Packet}
use Rattle.reading.specs.Reading.{decoded, reading}
use Rattle.reading.specs.Headed.{headed}
use Rattle.cursor.specs.Cursor.{record_of}
use Rattle.cursor.proofs.Distinct.{one_start, one_step}
use Rattle.cursor.proofs.Passing.{step_passes, steps_few}
use Rattle.cursor.proofs.Stepping.{reading_is_stepping, reading_is_steps, reading_unstarted, starts_with}
use Rattle.guarantees.specs.Refusals.{ended}
use Rattle.guarantees.proofs.Determined.{one_decoded}
use Rattle.guarantees.specs.Stepping.{ReadsByStepping, AnyLoopReads, UnstartedIsRefused, StepsFall, StepsAreFew, StartsWith128, JudgesAsReading, ToldApart}

pub reads_by_stepping : ReadsByStepping
reads_by_stepping strict s b d q zero h = absurd (omega arith)
reads_by_stepping strict s b d q (suc steps) h = q ∙ ap (beside new_packet) (reading_is_stepping strict s b steps (omega arith))

pub any_loop_reads : AnyLoopReads
any_loop_reads strict s b d q start t rs a run =
    q ∙ ap (beside new_packet) (reading_is_steps strict s b (record { raw = start.raw; cursor = start.cursor }) (sym t) rs a run)

pub unstarted_is_refused : UnstartedIsRefused
unstarted_is_refused strict s b d q e t =
    one_decoded d (Err e) (q ∙ ap (beside new_packet) (reading_unstarted strict s b (number_of e) (sym t)))

pub steps_fall : StepsFall
steps_fall s c number value next t = step_passes s c (record_of number value) next (sym t)

pub steps_are_few : StepsAreFew
steps_are_few s c rs a run = steps_few run

pub starts_with_128 : StartsWith128
starts_with_128 strict s start t = starts_with strict (headed strict s) (record { raw = start.raw; cursor = start.cursor }) (sym t)

-- The outcome beside a packet is the answer without it.
outcome_beside : (old : Packet) (a : Answer Packet) → (beside old a).answer ≡ onward a (λ _. given tt)
outcome_beside old (given p) = refl
outcome_beside old (refused k) = refl

-- The answer beside a packet is how the reading ended.
ended_so : (d : Result Packet Refusal) → (decoded d).answer ≡ outcome (ended d)
ended_so (Ok p) = refl
ended_so (Err e) = refl

pub judges_as_reading : JudgesAsReading
judges_as_reading strict s d q r j =
    one_outcome r (ended d) (j ∙ (sym (outcome_beside new_packet (reading strict s)) ∙ (sym (ap (λ (x : Beside Packet). x.answer) q) ∙ ended_so d)))

pub told_apart : ToldApart
told_apart = record { starts = one_start; steps = one_step }
