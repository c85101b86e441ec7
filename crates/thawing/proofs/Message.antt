-- What the step to a message shows when it returns, and what the output holds then.
use Prim.Native.Nat.{ℕ, ◌+◌, ◌<◌, ◌≤◌}
use mathlib.Core.Path.{◌≡◌, refl, sym, ap, ◌∙◌}
use mathlib.Core.List.{List}
use native.Mathlib.Omega.{arith}
use lib.ListN.{length, get_or, drop}
use lib.Seq.{sets}
use borrow.Author.Tests.{le-ltb}
use Rattle.ground.specs.Part.{part}
use Rattle.ground.proofs.Choice.{on_lt, on_eq}
use Rattle.refusal.specs.Answer.{Answer, given, refused, onward, room_from, after}
use Rattle.refusal.proofs.Answers.{Given, on_given, not_refused}
use Rattle.refusal.proofs.Fitted.{no_place}
use Rattle.packet.specs.Limits.{full_size}
use Rattle.placing.specs.Put.{Puts}
use Rattle.placing.proofs.Puts.{puts_placed, whole_puts}
use Rattle.refusal.specs.declared.Refusal.TheVariants.{NoRoom}
use Rattle.stream.specs.declared.Form.{Form}
use Rattle.stream.specs.declared.Step.{Step}
use Rattle.std.specs.Prelude.{Result, Ok, Err}
use Rattle.refusal.specs.declared.Refusal.{Refusal}
use Rattle.stream.specs.Stream.{Frozen, full, message_of}
use Rattle.stream.specs.Messages.{Body, body_at, Found, sized_body, message_at}
use Rattle.stream.specs.Answers.{Extent, step_read}
use Rattle.stream.proofs.Complete.{parts}
use Rattle.stream.proofs.Walk.{Whole}
use Rattle.stream.proofs.Left.{First}
use Rattle.thawing.specs.Message.{body_bytes, found_bytes, extent_of, next_in, NextMessage}

-- The bytes of a message are those of its chunks.
sized_bytes : (peer : List ℕ) (a : Answer Body) → Given (λ m. body_bytes a ≡ m.message.datagram) (onward a (sized_body peer))
unfolding sized_body
sized_bytes peer (given b) =
    let G : Answer Found → Type 0 = Given (λ m. b.bytes ≡ m.message.datagram) in
    on_lt G (length b.bytes) 4 (λ h. tt) (λ h. on_lt G full_size (length b.bytes) (λ u. tt) (λ u. refl))
sized_bytes peer (refused k) = tt

module _ (form : Form) (s : List ℕ) (at : ℕ) where
  message_bytes : Given (λ m. body_bytes (body_at form s (length s) (full form) (at + 19)) ≡ m.message.datagram) (message_at form s at)
  unfolding message_at
  message_bytes =
      let G : Answer Found → Type 0 = Given (λ m. body_bytes (body_at form s (length s) (full form) (at + 19)) ≡ m.message.datagram) in
      on_eq G (get_or s at 0) 1
      (λ e. on_lt G (length s) (at + 19) (λ l. tt) (λ l. sized_bytes (part s (at + 1) 18) (body_at form s (length s) (full form) (at + 19))))
      (λ e. tt)

  -- No message.
  pub next_refused : (old : List ℕ) (to : ℕ) (r : Result Step Refusal) (k : ℕ) → message_at form s at ≡ refused k → step_read r ≡ refused k → NextMessage form s at old to r old
  next_refused old to r k e h = record { answer = h ∙ rw e refl; output = rw e refl }

  module _ (len next : ℕ) (o : Whole form s at len next) where
    pub whole_bytes : body_bytes (body_at form s (length s) (full form) (at + 19)) ≡ o.found.message.datagram
    whole_bytes = on_given (λ m. body_bytes (body_at form s (length s) (full form) (at + 19)) ≡ m.message.datagram) (message_at form s at) o.found message_bytes o.is

    pub whole_length : len ≡ length (body_bytes (body_at form s (length s) (full form) (at + 19)))
    whole_length = sym (ap length whole_bytes ∙ o.length_is)

    -- Its kind and its peer lie in the stream.
    pub whole_inside : at + 19 ≤ length s
    whole_inside =
        let m : Found = o.found in
        (parts form s at m.message (drop m.next s) (omega (arith, o.stands.room, o.stands.inside)) o.stands.sized.peer o.stands.bytes).inside

    pub whole_extent : extent_of o.found ≡ record { len = len; next = next }
    whole_extent =
        ap (λ (n : ℕ). record { len = n; next = o.found.next }) o.length_is ∙ ap (λ (n : ℕ). record { len = len; next = n }) o.next_is

    module _ (old : List ℕ) (to : ℕ) where
      told : (r : Result Step Refusal) (new : List ℕ) → step_read r ≡ room_from (length old) to o.found.message.datagram (extent_of o.found)
          → new ≡ after (room_from (length old) to o.found.message.datagram (extent_of o.found)) to o.found.message.datagram old → NextMessage form s at old to r new
      told r new e p = record { answer = rw o.is e; output = rw o.is p }

      -- No room for the datagram at the place.
      pub next_no_room : length old < to + len → NextMessage form s at old to (Err NoRoom) old
      next_no_room h =
          let d : List ℕ = o.found.message.datagram in
          let n = no_place old d to (extent_of o.found) (omega (arith, o.length_is)) in
          told (Err NoRoom) old n.0 n.1

      -- The datagram at the place.
      pub next_copied : (r : ℕ) (new : List ℕ) → to + len ≤ length old → Puts old to (body_bytes (body_at form s (length s) (full form) (at + 19))) r new → NextMessage form s at old to (Ok (record { len = len; next = next })) new
      next_copied r new h p =
          let n = puts_placed (extent_of o.found) (rw whole_bytes at p) (omega (arith, o.length_is)) in
          told (Ok (record { len = len; next = next })) new (ap given (sym whole_extent) ∙ n.0) n.1

same_extent : (a b : Extent) → ◌≡◌ {A = Answer Extent} (given a) (given b) → a ≡ b
same_extent a b e = cc

-- The first of the messages that are left, taken to a place with room for its datagram.
module _ (form : Form) (s : List ℕ) (at : ℕ) (rest : List Frozen) (f : First form s at rest) (old : List ℕ) (to : ℕ) (room : to + length f.message.datagram ≤ length old) where
  took : next_in form s at (length old) to ≡ given (record { len = length f.message.datagram; next = at + length (message_of form f.message) })
  took = rw (f.found, le-ltb (length old) (to + length f.message.datagram) room) refl

  pub never_refused {ℓ} : {C : Type ℓ} (r : Result Step Refusal) (new : List ℕ) (k : ℕ) → NextMessage form s at old to r new → step_read r ≡ refused k → C
  never_refused r new k n e = not_refused (sym took ∙ (sym n.answer ∙ e))

  -- What was taken.
  pub record Took (len next : ℕ) (new : List ℕ) : Type 0 where
    pub len_is : len ≡ length f.message.datagram
    pub next_is : next ≡ at + length (message_of form f.message)
    pub put : Puts old to f.message.datagram (to + len) new
    pub out : new ≡ sets old to f.message.datagram

  pub taken : (len next : ℕ) (new : List ℕ) → NextMessage form s at old to (Ok (record { len = len; next = next })) new → Took len next new
  taken len next new n =
      let d : List ℕ = f.message.datagram in
      let k : ◌≡◌ {A = Extent} (record { len = len; next = next }) (record { len = length d; next = at + length (message_of form f.message) }) = same_extent _ _ (n.answer ∙ took) in
      let l : len ≡ length d = ap (λ (x : Extent). x.len) k in
      let o : new ≡ sets old to d =
      n.output ∙ (ap (λ (x : Answer Extent). after x to (found_bytes (message_at form s at)) old) took ∙ ap (λ (x : Answer Found). sets old to (found_bytes x)) f.found) in
      record {
        len_is = l;
        next_is = ap (λ (x : Extent). x.next) k;
        put = whole_puts (record { next = ap (λ (i : ℕ). to + i) l; out = o }) room;
        out = o;
      }
