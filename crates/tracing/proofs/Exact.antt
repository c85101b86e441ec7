-- A trace is read exactly when it is that of a list, in one of the two forms, and the list is the one that is read.
use Prim.Native.Nat.{ℕ, zero, suc, ◌+◌, ◌<◌}
use mathlib.Core.Path.{◌≡◌, refl, sym, ap, ◌∙◌}
use mathlib.Core.List.{List, [], ◌∷◌, ◌++◌, append_assoc}
use native.Mathlib.Omega.{arith}
use lib.ListN.{length, get_or}
use Rattle.ground.specs.Part.{Bytes}
use Rattle.ground.proofs.Choice.{on, on_lt}
use Rattle.refusal.specs.Answer.{given, refused}
use Rattle.refusal.proofs.Answers.{refusing_onward, same_given}
use Rattle.stream.specs.declared.Form.{Form}
use Rattle.stream.specs.Stream.{Frozen, message_of, stream_of}
use Rattle.stream.specs.Messages.{message_at, thawed}
use Rattle.stream.proofs.Exact.{Only19, only_message}
use Rattle.stream.proofs.From.{from_bad as stream-bad}
use Rattle.stream.proofs.Walk.{message_none, bad_of}
use Rattle.tracing.specs.Trace.{Timed, AllTimed, time_of, trace_of}
use Rattle.tracing.specs.TimedMessages.{form_of, is_time, timed_at, traced_at, traced}
use Rattle.tracing.proofs.Found.{no_kind, no_time}
use Rattle.tracing.proofs.From.{from_bad}
use Rattle.tracing.proofs.Sound.{traced_sound}
use Rattle.tracing.proofs.Complete.{form_found, traced_complete}

only_timed : (form : Form) (s : List ℕ) (at : ℕ) → Only19 (timed_at form s at)
unfolding timed_at
only_timed form s at =
    on Only19 (is_time s at)
    (λ e. refusing_onward (λ k. k ≡ 19) (message_at form s (at + 5)) _ (only_message form s (at + 5)) (λ m. tt))
    (λ e. refl)

only_19 : (form : Form) (s : List ℕ) (fuel at : ℕ) → Only19 (traced_at form s fuel at)
unfolding traced_at
only_19 form s zero at = on_lt Only19 at (length s) (λ h. refl) (λ h. tt)
only_19 form s (suc fuel) at =
    on_lt Only19 at (length s)
    (λ h. refusing_onward (λ k. k ≡ 19) (timed_at form s at) _ (only_timed form s at) (λ m. refusing_onward (λ k. k ≡ 19) (traced_at form s fuel m.next) _ (only_19 form s fuel m.next) (λ l. tt)))
    (λ h. tt)

-- What may be relied on of reading a trace.
pub record Exact : Type 1 where
  -- A trace that is read is that of the list, in the form that is found, and times and messages keep to their bounds.
  pub sound : (s : List ℕ) (l : List Timed) → Bytes s → traced s ≡ given l → (s ≡ trace_of (form_of s) l) × AllTimed l
  -- The trace of such a list is read as that list, in either form.
  pub complete : (form : Form) (l : List Timed) → AllTimed l → traced (trace_of form l) ≡ given l
  -- No other such list has that trace, in whichever form.
  pub unique : (f g : Form) (l m : List Timed) → AllTimed l → AllTimed m → trace_of f l ≡ trace_of g m → l ≡ m
  -- Everything else is refused with 19.
  pub refusal : (s : List ℕ) → Only19 (traced s)

pub exact : Exact
exact =
    record {
      sound = traced_sound;
      complete = traced_complete;
      unique = λ f g l m a b e. same_given (sym (traced_complete f l a) ∙ (ap traced e ∙ traced_complete g m b));
      refusal = λ s. only_19 (form_of s) s (length s) 0;
    }

-- A trace that has bytes has one form.
pub one_form : (f g : Form) (l m : List Timed) → AllTimed l → AllTimed m → trace_of f l ≡ trace_of g m → (l ≡ [] → ⊥) → f ≡ g
one_form f g l m a b e some = by l m a b e some (exact.unique f g l m a b e)
  where
    by : (l m : List Timed) → AllTimed l → AllTimed m → trace_of f l ≡ trace_of g m → (l ≡ [] → ⊥) → l ≡ m → f ≡ g
    by [] m a b e some q = absurd (some refl)
    by (x ∷ l) [] a b e some q = absurd (some q)
    by (x ∷ l) (y ∷ m) a b e some q = sym (form_found f x l a) ∙ (ap form_of e ∙ form_found g y m b)

-- The trace of two lists is that of one after that of the other.
pub trace_append : (form : Form) (l m : List Timed) → trace_of form (l ++ m) ≡ trace_of form l ++ trace_of form m
trace_append form [] m = refl
trace_append form (x ∷ l) m =
    ap (λ (r : List ℕ). time_of x.time ++ (message_of form x.message ++ r)) (trace_append form l m)
    ∙ ap (λ (r : List ℕ). time_of x.time ++ r) (sym (append_assoc (message_of form x.message) (trace_of form l) (trace_of form m)))

-- What doesn't start with a time is no trace, so no stream that has bytes is one.
pub untimed : (s : List ℕ) → 0 < length s → (get_or s 0 0 ≡ 8 → ⊥) → traced s ≡ refused 19
untimed s h e = from_bad (form_of s) s 0 19 h (no_time (form_of s) s 0 (no_kind s 0 e))

pub stream_no_trace : (form : Form) (m : Frozen) (l : List Frozen) → traced (stream_of form (m ∷ l)) ≡ refused 19
unfolding message_of
stream_no_trace form m l = untimed (stream_of form (m ∷ l)) (omega arith) (λ e. omega arith)

-- And no trace that has bytes is a stream, of either form.
pub trace_no_stream : (form other : Form) (m : Timed) (l : List Timed) → thawed other (trace_of form (m ∷ l)) ≡ refused 19
trace_no_stream form other m l =
    let s : List ℕ = trace_of form (m ∷ l) in
    stream-bad other s 0 19 (omega arith) (bad_of other s 0 19 (message_none other s 0 (λ e. omega arith)))
