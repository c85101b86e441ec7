-- What is read of a trace is laid out there.
use Prim.Native.Nat.{ℕ, zero, suc, ◌+◌, ◌≤◌}
use mathlib.Core.Path.{◌≡◌, sym, ap, ◌∙◌}
use mathlib.Core.List.{List, [], ◌∷◌, ◌++◌}
use lib.ListN.{length, get_or, drop, drop_of_length-le}
use Rattle.ground.specs.Part.{Bytes}
use Rattle.ground.proofs.Choice.{on_lt}
use Rattle.refusal.specs.Answer.{given}
use Rattle.refusal.proofs.Answers.{Given, given_onward, on_given}
use Rattle.stream.specs.declared.Form.{Form}
use Rattle.stream.specs.Stream.{message_of}
use Rattle.tracing.specs.Trace.{Timed, AllTimed, time_of, trace_of}
use Rattle.tracing.specs.TimedMessages.{form_of, time_at, TimedFound, timed_at, traced_at, traced}
use Rattle.tracing.proofs.Times.{time_small, time_stands}
use Rattle.tracing.proofs.Found.{time_there, Stands, stands}

module _ (form : Form) (s : List ℕ) (small : Bytes s) where
  -- The messages from a position are laid out there, to the end.
  pub record Follow (at : ℕ) (l : List Timed) : Type 0 where
    pub bytes : drop at s ≡ trace_of form l
    pub timed : AllTimed l

  none_follow : (at : ℕ) → length s ≤ at → Follow at []
  none_follow at h = record { bytes = drop_of_length-le s h; timed = tt }

  one_follows : (at : ℕ) (m : TimedFound) → Stands form s at m → (l : List Timed) → Follow m.next l → Follow at (m.timed ∷ l)
  one_follows at m h l f =
      let t : (get_or s at 0 ≡ 8) × (at + 5 ≤ length s) = time_there s at h.timed in
      let n : ℕ = time_at s at in
      let x : List ℕ = message_of form h.found.message in
      let o : m.next ≡ h.found.next = ap (λ (y : TimedFound). y.next) h.value in
      let v : m.timed ≡ record { time = n; message = h.found.message } = ap (λ (y : TimedFound). y.timed) h.value in
      let k : drop at s ≡ time_of n ++ (x ++ trace_of form l) =
      time_stands s at small t.1 t.0
      ∙ ap (λ (r : List ℕ). time_of n ++ r) (h.message.bytes ∙ ap (λ (r : List ℕ). x ++ r) (ap (λ (i : ℕ). drop i s) (sym o) ∙ f.bytes)) in
      record {
        bytes = rw v k;
        timed = rw v ((time_small s at small t.1, h.message.sized), f.timed);
      }

  pub messages_sound : (fuel at : ℕ) → Given (Follow at) (traced_at form s fuel at)
  unfolding traced_at
  messages_sound zero at = on_lt (Given (Follow at)) at (length s) (λ h. tt) (none_follow at)
  messages_sound (suc fuel) at =
      on_lt (Given (Follow at)) at (length s)
      (λ h. given_onward (Stands form s at) (Follow at) (timed_at form s at) _ (stands form s at)
      (λ m f. given_onward (Follow m.next) (Follow at) (traced_at form s fuel m.next) _ (messages_sound fuel m.next) (one_follows at m f)))
      (none_follow at)

-- A trace that is read is the trace of what is read.
pub traced_sound : (s : List ℕ) (l : List Timed) → Bytes s → traced s ≡ given l → (s ≡ trace_of (form_of s) l) × AllTimed l
traced_sound s l b e =
    let f : Follow (form_of s) s b 0 l = on_given (Follow (form_of s) s b 0) (traced s) l (messages_sound (form_of s) s b (length s) 0) e in
    (f.bytes, f.timed)
