-- What converting shows when it returns.
use Prim.Native.Nat.{ℕ, ◌<◌, ◌≤◌}
use mathlib.Core.Path.{◌≡◌, refl, ap, ◌∙◌}
use mathlib.Core.List.{List}
use native.Mathlib.Omega.{arith}
use lib.ListN.{length}
use Rattle.refusal.specs.Answer.{given, refused, written}
use Rattle.refusal.specs.declared.Refusal.TheVariants.{NoRoom}
use Rattle.std.specs.Prelude.{Result, Ok, Err}
use Rattle.refusal.specs.declared.Refusal.{Refusal}
use Rattle.refusal.proofs.Fitted.{put_fits, no_room}
use Rattle.framing.specs.Framing.{Converts}
use Rattle.placing.specs.Put.{Put}
use native.Mathlib.Nat.{zero-add}
use Rattle.stream.specs.declared.Form.{Form}
use Rattle.stream.specs.Stream.{stream_of}
use Rattle.stream.specs.Messages.{thawed}
use Rattle.stream.proofs.Sound.{thawed_sound}
use Rattle.thawing.specs.Thawing.{thawed_strictly, messages_in}
use Rattle.thawing.proofs.Thawed.{Counted, thawed_of}
use Rattle.converting.specs.Converting.{other_form, converted, size_in, Convertible}
use Rattle.converting.proofs.Sizes.{stream_size}

module _ (from : Form) (s old : List ℕ) where
  pub converts_refused : (r : Result ℕ Refusal) (k : ℕ) → thawed_strictly from s ≡ refused k → written r ≡ refused k → Converts (converted from s) old r old
  converts_refused r k e h = record { answer = h ∙ rw e refl; output = rw e refl }

  module _ (to : Form) (is : to ≡ other_form from) (count bytes chunks : ℕ) (c : Counted from to s count bytes chunks) where
    thaws : thawed from s ≡ given c.messages
    thaws = thawed_of from s c.messages c.are

    pub counted_size : length (stream_of to c.messages) ≡ size_in to count bytes chunks
    counted_size = stream_size to c.messages (thawed_sound from s c.messages thaws).1 ∙ rw (c.count_is, c.bytes_is, c.chunks_is) refl

    pub converts_nothing : length old < size_in to count bytes chunks → Converts (converted from s) old (Err NoRoom) old
    converts_nothing h =
        let n = no_room old (stream_of to c.messages) (omega (arith, counted_size)) in
        record { answer = rw (c.are, ← is) n.0; output = rw (c.are, ← is) n.1 }

    pub convertible : size_in to count bytes chunks ≤ length old → Convertible from to s (length old)
    convertible h = record { messages = c.messages; are = thaws; room_for = omega (arith, counted_size) }

    pub converts_all : (r : ℕ) (new : List ℕ) → size_in to count bytes chunks ≤ length old → Put old 0 (stream_of to (messages_in (thawed from s))) r new → Converts (converted from s) old (Ok r) new
    converts_all r new h p =
        let l : messages_in (thawed from s) ≡ c.messages = ap messages_in thaws in
        let q : Put old 0 (stream_of to c.messages) r new = rw l at p in
        let b : r ≡ length (stream_of to c.messages) = q.next ∙ zero-add (length (stream_of to c.messages)) in
        let n = put_fits old (stream_of to c.messages) new r b (omega (arith, counted_size)) q.out in
        record { answer = rw (c.are, ← is) n.0; output = rw (c.are, ← is) n.1 }
