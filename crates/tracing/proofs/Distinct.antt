-- The answers of the functions over a trace are told apart.
use Prim.Native.Nat.{ℕ}
use mathlib.Core.Path.{◌≡◌, refl, sym, ap, ◌∙◌}
use Rattle.std.specs.Prelude.{Result, Ok, Err}
use Rattle.refusal.specs.declared.Refusal.{Refusal}
use Rattle.refusal.specs.Answer.{Beside}
use Rattle.refusal.proofs.Answers.{not_refused, same_given, same_refused}
use Rattle.refusal.proofs.Distinct.{distinct}
use Rattle.header.specs.Header.{type_of}
use Rattle.header.proofs.Raw.{type_back}
use Rattle.tracing.specs.Judging.{judged}
use Rattle.tracing.specs.Answers.{TimedExtent, timed_read}
use Rattle.tracing.specs.Arrivals.{Coming, coming_of, arrived_in}
use Rattle.tracing.specs.declared.TimedStep.{TimedStep}
use Rattle.tracing.specs.declared.Arrived.{Arrived}

pub one_judged : (x y : Result ℕ Refusal) → judged x ≡ judged y → x ≡ y
one_judged (Ok m) (Ok n) e = cc
one_judged (Ok m) (Err y) e = not_refused e
one_judged (Err x) (Ok n) e = not_refused (sym e)
one_judged (Err x) (Err y) e = rw (distinct x y (same_refused e))

pub one_timed : (x y : Result TimedStep Refusal) → timed_read x ≡ timed_read y → x ≡ y
one_timed (Ok x) (Ok y) e =
    let k : ◌≡◌ {A = TimedExtent} (record { time = x.time; len = x.len; next = x.next }) (record { time = y.time; len = y.len; next = y.next }) = same_given e in
    λ i. Ok (record { time = (k i).time; len = (k i).len; next = (k i).next })
one_timed (Ok x) (Err y) e = not_refused e
one_timed (Err x) (Ok y) e = not_refused (sym e)
one_timed (Err x) (Err y) e = rw (distinct x y (same_refused e))

one_coming : (x y : Arrived) → coming_of x ≡ coming_of y → x ≡ y
one_coming x y e =
    let kind : x.kind ≡ y.kind = sym (type_back x.kind) ∙ (ap (λ (c : Coming). type_of c.arrival.type) e ∙ type_back y.kind) in
    λ i. record {
      time = (e i).arrival.time;
      kind = kind i;
      peer = (e i).arrival.peer;
      id = (e i).arrival.id;
      next = (e i).next;
    }

pub one_arrived : (x y : Result Arrived Refusal) → arrived_in x ≡ arrived_in y → x ≡ y
one_arrived (Ok x) (Ok y) e = rw (one_coming x y (ap (λ (b : Beside Coming). b.value) e))
one_arrived (Ok x) (Err y) e = not_refused (ap (λ (b : Beside Coming). b.answer) e)
one_arrived (Err x) (Ok y) e = not_refused (sym (ap (λ (b : Beside Coming). b.answer) e))
one_arrived (Err x) (Err y) e = rw (distinct x y (same_refused (ap (λ (b : Beside Coming). b.answer) e)))
