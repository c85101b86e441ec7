-- Every listing fits into 135,000 bytes, so what is put is all of it.
use Prim.Native.Nat.{ℕ, ◌≤◌}
use mathlib.Core.Path.{◌≡◌, sym, ap}
use mathlib.Core.Bool.{true}
use mathlib.Core.List.{List, []}
use native.Mathlib.Omega.{arith}
use lib.ListN.{length, take}
use Rattle.std.proofs.lemmas.List.{length-take-le}
use Rattle.rfc.specs.Message.{WellFormed, layout}
use Rattle.ground.specs.Part.{Bytes}
use Rattle.ground.proofs.Choice.{on_lt}
use Rattle.refusal.specs.Answer.{Answer, given, refused, beside}
use Rattle.packet.specs.Meaning.{meaning}
use Rattle.packet.specs.declared.Packet.{Packet}
use Rattle.packet.specs.Packet.{stores, new_packet}
use Rattle.reading.specs.Reading.{reading}
use Rattle.refusal.proofs.Answers.{Given}
use Rattle.reading.proofs.Accept.{accepted}
use Rattle.placing.specs.Put.{Puts}
use Rattle.placing.proofs.Puts.{puts_within, puts_front}
use Rattle.lines.proofs.Size.{message_size_lem, refusal_line_size}
use Rattle.listing.specs.Listing.{newline, answer, listing}

-- The lines of an answer to a datagram of at most 65,535 bytes.
answer_size : (s : List ℕ) → length s ≤ 65535 → (a : Answer Packet)
    → Given (λ (p : Packet). (edits : List ℕ) → WellFormed (meaning (stores s edits) p) × (layout (meaning (stores s edits) p) ≡ s)) a
    → length (answer s (beside new_packet a)) ≤ 135000
answer_size s h (given p) g = omega (arith, message_size_lem newline (meaning (stores s []) p), (g []).0.count, ap length (g []).1)
answer_size s h (refused k) g = omega (arith, refusal_line_size newline k)

pub listing_size : (s : List ℕ) → Bytes s → length (listing s) ≤ 135000
unfolding listing
listing_size s b =
    on_lt (λ (l : List ℕ). length l ≤ 135000) 65535 (length s) (λ h. omega (arith, refusal_line_size newline 10))
    (λ h. answer_size s h (reading true s) (accepted s b))

-- What `list` promises, from what putting the listing leaves.
pub promised : {l m : List ℕ} {r : ℕ} (s : List ℕ) → Bytes s → 135000 ≤ length l → Puts l 0 (listing s) r m → ((r ≤ length m) × (r ≡ length (take r m))) × (take r m ≡ listing s)
promised s b room p =
    let w = puts_within p (omega arith) in
    ((w, sym (length-take-le _ _ w)), puts_front p (omega (arith, listing_size s b)))
