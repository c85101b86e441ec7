-- `list` meets its contract: by the length, and by what strict reading answers; the output has room for every listing.
use Rattle.std.proofs.Common.{ℕ, ◌<◌, ◌≤◌, ◌≡◌, true, List, length, arith}
use borrow.Author.Tests.{lt-ltb, le-ltb}
use Rattle.ground.proofs.Part.{bytes_of}
use Rattle.refusal.specs.Answer.{beside}
use Rattle.packet.specs.Packet.{new_packet}
use Rattle.reading.specs.Reading.{decoded, reading}
use Rattle.std.specs.Prelude.{Result}
use Rattle.refusal.specs.declared.Refusal.{Refusal}
use Rattle.packet.specs.declared.Packet.{Packet}
use Rattle.placing.specs.Put.{Puts}
use Rattle.lines.specs.Lines.{refusal_line}
use Rattle.listing.specs.Listing.{newline, answer, listing}
use Rattle.listing.proofs.Whole.{promised}
use Rattle.listing.proofs.list.Goals as goal

-- The listing of a datagram that is too long, and of one that was read.
too_long : {l m : List ℕ} {r : ℕ} (s : List ℕ) → 65535 < length s → Puts l 0 (refusal_line newline 10) r m → Puts l 0 (listing s) r m
unfolding listing
too_long s h p = rw (lt-ltb _ _ h) p

read : {l m : List ℕ} {r : ℕ} (s : List ℕ) → length s ≤ 65535 → (d : Result Packet Refusal) → decoded d ≡ beside new_packet (reading true s) → Puts l 0 (answer s (decoded d)) r m → Puts l 0 (listing s) r m
unfolding listing
read s h d e p = rw (le-ltb _ _ h, ← e) p

pub returns-then-datagram-gt65535-clause-out_after : goal.returns-then-datagram-gt65535-clause-out_after
returns-then-datagram-gt65535-clause-out_after c =
    let s = c.args.datagram.now in
    (promised s (bytes_of s (λ i. omega (arith, c.type_inv.datagram i))) (omega arith) (too_long s (omega arith) c.put_refusal.ensures)).1

pub returns-clause-out_after : goal.returns-clause-out_after
returns-clause-out_after c =
    let s = c.args.datagram.now in
    (promised s (bytes_of s (λ i. omega (arith, c.type_inv.datagram i))) (omega arith) (read s (omega arith) c.from_bytes_strict.result c.from_bytes_strict.ensures c.put_decoded.ensures)).1
