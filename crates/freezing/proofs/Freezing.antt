-- What freezing shows when it returns.
use Prim.Native.Nat.{ℕ, ◌+◌, ◌<◌, ◌≤◌}
use mathlib.Core.Path.{◌≡◌, refl, sym, ap, ◌∙◌}
use mathlib.Core.Bool.{true}
use mathlib.Core.List.{List}
use native.Mathlib.Omega.{arith}
use lib.ListN.{length, take, drop}
use lib.Seq.{take_at}
use Rattle.ground.proofs.Part.{put_front}
use Rattle.refusal.specs.Answer.{Answer, given, refused, written, after}
use Rattle.refusal.specs.declared.Refusal.TheVariants.{NoRoom}
use Rattle.std.specs.Prelude.{Result, Ok, Err}
use Rattle.refusal.specs.declared.Refusal.{Refusal}
use Rattle.refusal.proofs.Fitted.{no_place}
use Rattle.packet.specs.Limits.{full_size}
use Rattle.packet.specs.Packet.{Stores}
use Rattle.packet.specs.declared.Packet.{Packet}
use Rattle.placing.specs.Put.{Puts}
use Rattle.placing.proofs.Puts.{puts_placed}
use Rattle.measuring.specs.declared.Limit.TheVariants.{Given}
use Rattle.writing.specs.Writing.{writing, bytes_written}
use Rattle.stream.specs.declared.Form.{Form}
use Rattle.stream.specs.Stream.{Frozen, message_of}
use Rattle.freezing.specs.Freezing.{Writes, strict_datagram, freezing, Freezes}
use Rattle.freezing.proofs.Full.{full_written}

module _ (form : Form) (m : Frozen) (old : List ℕ) (start : ℕ) where
  pub writes_nothing : length old < start + length (message_of form m) → Writes form m old start (Err NoRoom) old
  writes_nothing h = let n = no_place old (message_of form m) start (length (message_of form m)) h in record { answer = n.0; output = n.1 }

  pub writes_all : (size r : ℕ) (new : List ℕ) → length (message_of form m) ≡ size → start + size ≤ length old → Puts old start (message_of form m) r new → Writes form m old start (Ok size) new
  writes_all size r new e h p =
      let n = puts_placed (length (message_of form m)) p (omega (arith, e)) in
      record { answer = ap given (sym e) ∙ n.0; output = n.1 }

module _ (form : Form) (peer : List ℕ) (p : Packet) (s : Stores) (old : List ℕ) (start : ℕ) where
  pub freezes_nothing : (r : Result ℕ Refusal) (k : ℕ) → refused k ≡ writing true (Given full_size) full_size s p → written r ≡ refused k → Freezes form peer p s old start r old
  unfolding freezing strict_datagram
  freezes_nothing r k e h = record { answer = h ∙ rw (← e) refl; output = rw (← e) refl }

  pub freezes : (n : ℕ) (r : Result ℕ Refusal) (new : List ℕ) → given n ≡ writing true (Given full_size) full_size s p → Writes form (record { peer = peer; datagram = bytes_written true s p }) old start r new → Freezes form peer p s old start r new
  unfolding freezing strict_datagram
  freezes n r new e w = record { answer = w.answer ∙ rw (← e) refl; output = w.output ∙ rw (← e) refl }

-- The datagram stands at the front of an array of 1,280 bytes.
pub front : (s : Stores) (p : Packet) (n : ℕ) (old new : List ℕ) → length old ≡ full_size → given n ≡ writing true (Given full_size) full_size s p → new ≡ after (writing true (Given full_size) full_size s p) 0 (bytes_written true s p) old
    → take n new ≡ bytes_written true s p
front s p n old new f e q =
    let d : List ℕ = bytes_written true s p in
    let w = full_written s p n (sym e) in
    ap (take n) (q ∙ (ap (λ (a : Answer ℕ). after a 0 d old) (sym e) ∙ put_front old d (omega (arith, w.0, w.1))))
    ∙ take_at d (drop (length d) old) n (sym w.0)
