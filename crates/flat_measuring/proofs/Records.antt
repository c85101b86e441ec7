-- The records of numbers, as a walk over the numbers meets them.
use Prim.Native.Nat.{ℕ, zero, suc, ◌+◌, ◌*◌, ◌<◌}
use mathlib.Core.Path.{◌≡◌, ap, ◌∙◌}
use mathlib.Core.List.{List, [], ◌∷◌}
use native.Mathlib.Numerals.{add-one}
use native.Mathlib.Omega.{arith}
use lib.ListN.{length, drop, get_or, get_or-append}
use lib.Seq.{get_or_at, drop-cons}
use Rattle.ground.proofs.Choice.{by_eq}
use Rattle.packet.specs.Packet.{none, records_of}
use Rattle.packet.specs.declared.OptionRecord.{OptionRecord}
use Rattle.unflat.specs.Unflat.{record_at, records_in, packet_in}
use Rattle.unflat.proofs.Unflat.{records_length, records_taken}

-- As many are in use as the head counts.
pub used : (l : List ℕ) → length (records_of (packet_in l)) ≡ get_or l 10 0
used l = ap length (records_taken l) ∙ records_length l (get_or l 10 0)

there : (l : List ℕ) (n i : ℕ) → i < n → get_or (records_in l n) i none ≡ record_at l (11 + 4 * i)
there l zero i h = absurd (omega arith)
there l (suc n) i h =
    by_eq i n
    (λ e. rw e (get_or_at (records_in l n) (record_at l (11 + 4 * n)) [] none n (records_length l n)))
    (λ e. get_or-append (records_in l n) (record_at l (11 + 4 * n) ∷ []) none i (omega (arith, e, records_length l n)) ∙ there l n i (omega (arith, e)))

-- Those that are left at an index begin with the record whose numbers stand there.
pub here : (l : List ℕ) (i : ℕ) → i < get_or l 10 0 → drop i (records_of (packet_in l)) ≡ record_at l (11 + 4 * i) ∷ drop (i + 1) (records_of (packet_in l))
here l i h =
    let rs = records_in l (get_or l 10 0) in
    rw (records_taken l, add-one i, drop-cons rs i none (omega (arith, records_length l (get_or l 10 0))))
    (ap (λ (r : OptionRecord). r ∷ drop (suc i) rs) (there l (get_or l 10 0) i h))
