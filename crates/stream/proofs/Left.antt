-- The messages that are left of a stream at a position: the first of them is found there, and the others are left after it.
use Prim.Native.Nat.{ℕ, ◌+◌, ◌<◌, ◌≤◌}
use mathlib.Core.Path.{◌≡◌, refl, sym, ap, ◌∙◌}
use mathlib.Core.List.{List, [], ◌∷◌}
use native.Mathlib.Omega.{arith}
use lib.ListN.{length, drop, length-append, length-drop}
use Rattle.ground.specs.Part.{part}
use Rattle.refusal.specs.Answer.{given}
use Rattle.reading.proofs.Complete.{past, fits}
use Rattle.stream.specs.declared.Form.{Form}
use Rattle.stream.specs.Stream.{Frozen, Sized, AllSized, message_of, stream_of}
use Rattle.stream.specs.Messages.{message_at, thawed}
use Rattle.stream.proofs.Sound.{thawed_sound}
use Rattle.stream.proofs.Complete.{Parts, parts, message_some, message_complete}

pub record Left (form : Form) (s : List ℕ) (at : ℕ) (rest : List Frozen) : Type 0 where
  pub sized : AllSized rest
  pub inside : at ≤ length s
  pub bytes : drop at s ≡ stream_of form rest

pub left_start : (form : Form) (s : List ℕ) (l : List Frozen) → thawed form s ≡ given l → Left form s 0 l
left_start form s l e = let h = thawed_sound form s l e in record { sized = h.1; inside = omega arith; bytes = h.0 }

pub left_none : (form : Form) (s : List ℕ) (at : ℕ) (rest : List Frozen) → Left form s at rest → length s ≤ at → rest ≡ []
left_none form s at [] w h = refl
left_none form s at (m ∷ l) w h =
    absurd (omega (arith, sym (length-drop at s) ∙ (ap length w.bytes ∙ length-append (message_of form m) (stream_of form l)), message_some form m))

pub record First (form : Form) (s : List ℕ) (at : ℕ) (rest : List Frozen) : Type 0 where
  pub message : Frozen
  pub others : List Frozen
  pub is : rest ≡ message ∷ others
  pub sized : Sized message
  pub found : message_at form s at ≡ given (record { message = message; next = at + length (message_of form message) })
  pub inside : at + 19 ≤ length s
  pub peer : part s (at + 1) 18 ≡ message.peer
  pub left : Left form s (at + length (message_of form message)) others

pub left_first : (form : Form) (s : List ℕ) (at : ℕ) (rest : List Frozen) → Left form s at rest → at < length s → First form s at rest
left_first form s at [] w h = absurd (omega (arith, sym (length-drop at s) ∙ ap length w.bytes))
left_first form s at (m ∷ l) w h =
    let p : Parts form s at m (stream_of form l) = parts form s at m (stream_of form l) w.inside w.sized.0.peer w.bytes in
    record {
      message = m;
      others = l;
      is = refl;
      sized = w.sized.0;
      found = message_complete form s at m (stream_of form l) w.inside w.sized.0 w.bytes;
      inside = p.inside;
      peer = p.peer;
      left = record {
        sized = w.sized.1;
        inside = fits s at (message_of form m) (stream_of form l) w.bytes w.inside;
        bytes = past s at (message_of form m) (stream_of form l) w.bytes w.inside;
      };
    }
