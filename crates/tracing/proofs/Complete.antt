-- The trace of a list is read as that list, and its form is found.
use Prim.Native.Nat.{ℕ, zero, suc, ◌+◌, ◌<◌, ◌≤◌}
use mathlib.Core.Path.{◌≡◌, refl, sym, ap, ◌∙◌}
use mathlib.Core.List.{List, [], ◌∷◌, ◌++◌}
use native.Mathlib.Omega.{arith}
use lib.ListN.{length, get_or, drop, length-drop}
use lib.Dec.{eqb}
use borrow.Author.Tests.{lt-ltb, le-ltb, le-leb, eq-eqb, ne_eqb}
use Rattle.ground.specs.Choice.{pick}
use Rattle.ground.proofs.Choice.{on_eq, on_lt}
use Rattle.refusal.specs.Answer.{given}
use Rattle.reading.proofs.Complete.{past, fits}
use Rattle.stream.specs.declared.Form.{Form}
use Rattle.stream.specs.declared.Form.TheVariants.{Old, New}
use Rattle.stream.specs.Stream.{Sized, message_of}
use Rattle.stream.specs.Messages.{count_at}
use Rattle.stream.proofs.Complete.{message_complete, first_chunk}
use Rattle.tracing.specs.Trace.{Timed, AllTimed, time_of, trace_of}
use Rattle.tracing.specs.TimedMessages.{form_of, timed_at, traced_at, traced}
use Rattle.tracing.proofs.Times.{time_kind, time_read}
use Rattle.tracing.proofs.Found.{of_kind, timed_given}

-- How many bytes a message takes with its time.
abbrev pub timed_size : Form → Timed → ℕ
timed_size form m = 5 + length (message_of form m.message)

-- A message with its time that stands at a position is found there, and what follows stands after it.
module _ (form : Form) (s : List ℕ) (at : ℕ) (m : Timed) (rest : List ℕ) (h : at ≤ length s) (e : drop at s ≡ time_of m.time ++ (message_of form m.message ++ rest)) where
  message_stands : drop (at + 5) s ≡ message_of form m.message ++ rest
  message_stands = past s at (time_of m.time) (message_of form m.message ++ rest) e h

  message_inside : at + 5 ≤ length s
  message_inside = fits s at (time_of m.time) (message_of form m.message ++ rest) e h

  sum_five : at + 5 + length (message_of form m.message) ≡ at + timed_size form m
  sum_five = omega arith

  pub timed_complete : m.time < 4294967296 → Sized m.message → timed_at form s at ≡ given (record { timed = m; next = at + timed_size form m })
  timed_complete small z =
      let x : List ℕ = message_of form m.message in
      timed_given form s at (of_kind s at (time_kind s at m.time (x ++ rest) h e) ∙ le-leb (at + 5) (length s) message_inside) _ (message_complete form s (at + 5) m.message rest message_inside z message_stands)
      ∙ (ap (λ (t : ℕ). given (record { timed = record { time = t; message = m.message }; next = at + 5 + length x })) (time_read s at m.time (x ++ rest) h e small)
      ∙ ap (λ (n : ℕ). given (record { timed = m; next = n })) sum_five)

  pub timed_past : drop (at + timed_size form m) s ≡ rest
  timed_past = ap (λ (n : ℕ). drop n s) (sym sum_five) ∙ past s (at + 5) (message_of form m.message) rest message_stands message_inside

  pub timed_inside : at + timed_size form m ≤ length s
  timed_inside = omega (arith, fits s (at + 5) (message_of form m.message) rest message_stands message_inside)

-- The messages of a trace from a position are found there.
pub messages_complete : (form : Form) (s : List ℕ) (fuel at : ℕ) (l : List Timed) → length s ≤ at + fuel → at ≤ length s → AllTimed l → drop at s ≡ trace_of form l
    → traced_at form s fuel at ≡ given l
unfolding traced_at
messages_complete form s zero at [] fuelled h z e = rw (le-ltb at (length s) (omega (arith, sym (length-drop at s) ∙ ap length e))) refl
messages_complete form s (suc fuel) at [] fuelled h z e = rw (le-ltb at (length s) (omega (arith, sym (length-drop at s) ∙ ap length e))) refl
messages_complete form s zero at (m ∷ l) fuelled h z e = absurd (omega (arith, timed_inside form s at m (trace_of form l) h e))
messages_complete form s (suc fuel) at (m ∷ l) fuelled h z e =
    let i = timed_inside form s at m (trace_of form l) h e in
    let f = timed_complete form s at m (trace_of form l) h e z.0.0 z.0.1 in
    let r : traced_at form s fuel (at + timed_size form m) ≡ given l =
    messages_complete form s fuel (at + timed_size form m) l (omega arith) i z.1 (timed_past form s at m (trace_of form l) h e) in
    rw (lt-ltb at (length s) (omega arith), f, r) refl

-- A chunk of a form has a kind by which the form is found.
kind_tells : (form : Form) (s : List ℕ) (at : ℕ) → 1 ≤ count_at form s at → pick (eqb (get_or s at 0) 2) Old New ≡ form
unfolding count_at
kind_tells Old s at =
    on_eq (λ (n : ℕ). 1 ≤ n → pick (eqb (get_or s at 0) 2) Old New ≡ Old) (get_or s at 0) 2 (λ e h. rw (eq-eqb (get_or s at 0) 2 e) refl) (λ e h. absurd (omega arith))
kind_tells New s at =
    let P : ℕ → Type 0 = λ n. 1 ≤ n → pick (eqb (get_or s at 0) 2) Old New ≡ New in
    on_eq P (get_or s at 0) 4 (λ e h. rw (ne_eqb (get_or s at 0) 2 (λ q. omega arith)) refl)
    (λ e. on_lt P (get_or s at 0) 192 (λ l h. rw (ne_eqb (get_or s at 0) 2 (λ q. omega arith)) refl) (λ l h. absurd (omega arith)))

-- The form by the byte behind the first time and the first peer.
pub old_form : (s : List ℕ) → get_or s 24 0 ≡ 2 → form_of s ≡ Old
unfolding form_of
old_form s e = rw (eq-eqb (get_or s 24 0) 2 e) refl

pub new_form : (s : List ℕ) → (get_or s 24 0 ≡ 2 → ⊥) → form_of s ≡ New
unfolding form_of
new_form s e = rw (ne_eqb (get_or s 24 0) 2 e) refl

-- The form of a trace that has a message is found.
pub form_found : (form : Form) (m : Timed) (l : List Timed) → AllTimed (m ∷ l) → form_of (trace_of form (m ∷ l)) ≡ form
unfolding form_of
form_found form m l z =
    let s : List ℕ = message_of form m.message ++ trace_of form l in
    kind_tells form s 19 (first_chunk form s m.message (trace_of form l) z.0.1 refl)

-- So the trace of a list is read as that list, whatever its form.
pub traced_complete : (form : Form) (l : List Timed) → AllTimed l → traced (trace_of form l) ≡ given l
unfolding traced_at
traced_complete form [] z = refl
traced_complete form (m ∷ l) z =
    let s : List ℕ = trace_of form (m ∷ l) in
    ap (λ (f : Form). traced_at f s (length s) 0) (form_found form m l z)
    ∙ messages_complete form s (length s) 0 (m ∷ l) (omega arith) (omega arith) z refl
