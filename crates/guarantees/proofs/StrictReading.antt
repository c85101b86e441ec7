-- Strict reading meets its demand, from what its promise says.
use Prim.Native.Nat.{ℕ, ◌≤◌}
use mathlib.Core.Path.{◌≡◌, sym, ap, ◌∙◌}
use mathlib.Core.Bool.{true}
use mathlib.Core.List.{List, []}
use native.Mathlib.Omega.{arith}
use lib.ListN.{length}
use Rattle.std.specs.Prelude.{Result, Ok, Err}
use Rattle.rfc.specs.Message.{Message, WellFormed, layout}
use Rattle.ground.specs.Part.{Bytes}
use Rattle.refusal.specs.Answer.{Answer, given, refused, beside, Beside}
use Rattle.packet.specs.Meaning.{meaning}
use Rattle.packet.specs.declared.Packet.{Packet}
use Rattle.packet.specs.Packet.{stores, new_packet}
use Rattle.reading.specs.Reading.{FromBytes, decoded, reading}
use Rattle.refusal.proofs.Answers.{on_given, not_refused}
use Rattle.refusal.specs.declared.Refusal.{Refusal}
use Rattle.reading.proofs.Accept.{accepted}
use Rattle.reading.proofs.Complete.{reads_layout}
use Rattle.guarantees.specs.StrictReading.{IsLayoutOf, ReadsStrictly}
use Rattle.guarantees.proofs.Refusals.{same_ok}

-- An answer that is a packet comes of an accepted datagram.
pub done : (d : Result Packet Refusal) (p : Packet) (a : Answer Packet) → decoded d ≡ beside new_packet a → d ≡ Ok p → a ≡ given p
done d p (given q) e h = ap given (ap (λ (r : Beside Packet). r.value) (sym e ∙ ap decoded h))
done d p (refused k) e h = not_refused (ap (λ (r : Beside Packet). r.answer) (sym (ap decoded h) ∙ e))

-- An accepted datagram gives its packet.
pub gives : (d : Result Packet Refusal) (p : Packet) → decoded d ≡ beside new_packet (given p) → d ≡ Ok p
gives (Ok q) p e = ap Ok (ap (λ (r : Beside Packet). r.value) e)
gives (Err k) p e = not_refused (sym (ap (λ (r : Beside Packet). r.answer) e))

-- A message with this layout is what the answer means.
pub found : (s : List ℕ) → length s ≤ 70000 → (d : Result Packet Refusal) → FromBytes true s d → (m : Message) → IsLayoutOf s m
    → (p : Packet) × (d ≡ Ok p) × ((edits : List ℕ) → meaning (stores s edits) p ≡ m)
found s short d promise m l =
    let r = reads_layout m l.well_formed (omega (arith, ap length l.bytes)) in
    let is : reading true s ≡ given r.packet = ap (reading true) (sym l.bytes) ∙ r.is in (
      r.packet,
      gives d r.packet (promise ∙ ap (beside new_packet) is),
      λ edits. ap (λ (t : List ℕ). meaning (stores t edits) r.packet) (sym l.bytes) ∙ r.means edits,
    )

-- What the answer means is a message with this layout.
means : (s : List ℕ) → Bytes s → (d : Result Packet Refusal) (p : Packet) → FromBytes true s d → d ≡ Ok p → IsLayoutOf s (meaning (stores s []) p)
means s b d p promise h =
    let a = on_given (λ (q : Packet). (edits : List ℕ) → WellFormed (meaning (stores s edits) q) × (layout (meaning (stores s edits) q) ≡ s)) (reading true s) p (accepted s b) (done d p (reading true s) promise h) [] in
    record { well_formed = a.0; bytes = a.1 }

-- Two messages with this layout are what one packet means.
one_layout : (s : List ℕ) → length s ≤ 70000 → (d : Result Packet Refusal) → FromBytes true s d → (m n : Message) → IsLayoutOf s m → IsLayoutOf s n → m ≡ n
one_layout s short d promise m n l k =
    let f = found s short d promise m l in
    let g = found s short d promise n k in
    sym (f.2 []) ∙ (ap (meaning (stores s [])) (same_ok (sym f.1 ∙ g.1)) ∙ g.2 [])

pub strict_reading_lem : ReadsStrictly
strict_reading_lem s b short d promise =
    record {
      accepts = (
        λ h. (meaning (stores s []) h.0, means s b d h.0 promise h.1),
        λ l. let f = found s short d promise l.0 l.1 in (f.0, f.1),
      );
      one = one_layout s short d promise;
      answer = found s short d promise;
    }
