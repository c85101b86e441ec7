-- The datagrams that are read of bytes are bytes.
use Prim.Native.Nat.{ℕ, zero, suc, ◌+◌}
use mathlib.Core.List.{List, [], ◌∷◌, ◌++◌}
use lib.ListN.{length, get_or, drop}
use Rattle.ground.specs.Part.{part, Bytes}
use Rattle.ground.proofs.Choice.{on, on_lt, on_eq}
use Rattle.ground.proofs.Part.{bytes_take, bytes_drop, bytes_append}
use Rattle.refusal.specs.Answer.{Answer, given, refused, onward}
use Rattle.refusal.proofs.Answers.{Given, given_onward}
use Rattle.packet.specs.Limits.{full_size}
use Rattle.stream.specs.declared.Form.{Form}
use Rattle.stream.specs.Stream.{full, head_size}
use Rattle.stream.specs.Messages.{end_of_chunk, chunk_at, Body, body_at, Found, sized_body, message_at}
use Rattle.tracing.specs.Trace.{Timed}
use Rattle.tracing.specs.TimedMessages.{is_time, TimedFound, timed_at, traced_at}

-- Each datagram is bytes.
abbrev pub AllBytes : List Timed → Type 0
AllBytes [] = Unit {0}
AllBytes (m ∷ l) = Bytes m.message.datagram × AllBytes l

module _ (form : Form) (s : List ℕ) (small : Bytes s) where
  part_bytes : (at n : ℕ) → Bytes (part s at n)
  part_bytes at n = bytes_take n (drop at s) (bytes_drop at s small)

  abbrev BodyBytes : Body → Type 0
  BodyBytes b = Bytes b.bytes

  chunk_bytes : (at : ℕ) (next : ℕ → Answer Body) → ((n : ℕ) → Given BodyBytes (next n)) → (a : Answer ℕ)
      → Given BodyBytes (onward a (λ n. onward (next n) (λ b. given (record { bytes = part s at n ++ b.bytes; next = b.next }))))
  chunk_bytes at next f (given n) = given_onward BodyBytes BodyBytes (next n) _ (f n) (λ b k. bytes_append (part s at n) b.bytes (part_bytes at n) k)
  chunk_bytes at next f (refused k) = tt

  body_bytes : (fuel before at : ℕ) → Given BodyBytes (body_at form s fuel before at)
  unfolding body_at
  body_bytes zero before at = tt
  body_bytes (suc fuel) before at =
      on_eq (Given BodyBytes) (get_or s at 0) 3 (λ e. tt)
      (λ e. on_lt (Given BodyBytes) before (full form) (λ l. tt)
      (λ l. chunk_bytes (at + head_size form) (λ n. body_at form s fuel n (end_of_chunk form at n)) (λ n. body_bytes fuel n (end_of_chunk form at n)) (chunk_at form s at)))

  abbrev FoundBytes : Found → Type 0
  FoundBytes m = Bytes m.message.datagram

  message_bytes : (at : ℕ) → Given FoundBytes (message_at form s at)
  unfolding message_at sized_body
  message_bytes at =
      on_eq (Given FoundBytes) (get_or s at 0) 1
      (λ e. on_lt (Given FoundBytes) (length s) (at + 19) (λ l. tt)
      (λ l. given_onward BodyBytes FoundBytes (body_at form s (length s) (full form) (at + 19)) (sized_body (part s (at + 1) 18)) (body_bytes (length s) (full form) (at + 19))
      (λ b k. on_lt (Given FoundBytes) (length b.bytes) 4 (λ u. tt) (λ u. on_lt (Given FoundBytes) full_size (length b.bytes) (λ v. tt) (λ v. k)))))
      (λ e. tt)

  abbrev TimedBytes : TimedFound → Type 0
  TimedBytes m = Bytes m.timed.message.datagram

  timed_bytes : (at : ℕ) → Given TimedBytes (timed_at form s at)
  unfolding timed_at
  timed_bytes at = on (Given TimedBytes) (is_time s at) (λ e. given_onward FoundBytes TimedBytes (message_at form s (at + 5)) _ (message_bytes (at + 5)) (λ m k. k)) (λ e. tt)

  pub traced_bytes : (fuel at : ℕ) → Given AllBytes (traced_at form s fuel at)
  unfolding traced_at
  traced_bytes zero at = on_lt (Given AllBytes) at (length s) (λ h. tt) (λ h. tt)
  traced_bytes (suc fuel) at =
      on_lt (Given AllBytes) at (length s)
      (λ h. given_onward TimedBytes AllBytes (timed_at form s at) _ (timed_bytes at) (λ m k. given_onward AllBytes AllBytes (traced_at form s fuel m.next) _ (traced_bytes fuel m.next) (λ l r. (k, r))))
      (λ h. tt)
