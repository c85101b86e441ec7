-- The round trips of strict mode, from the demands on reading and on writing.
use Prim.Native.Nat.{ℕ}
use mathlib.Core.Path.{◌≡◌, refl, sym, ap, ◌∙◌}
use mathlib.Core.Bool.{true}
use mathlib.Core.List.{List, ◌++◌}
use native.Mathlib.Omega.{arith}
use lib.ListN.{length, take, drop}
use lib.Seq.{take-append_seam}
use borrow.Author.Tests.{le-ltb}
use Rattle.rfc.specs.Message.{WellFormed, layout}
use Rattle.refusal.specs.Answer.{given}
use Rattle.packet.specs.Packet.{stores}
use Rattle.packet.specs.Meaning.{meaning}
use Rattle.judging.specs.Judge.{is_too_long}
use Rattle.packet.specs.Limits.{max_store}
use Rattle.packet.specs.declared.Packet.{Packet}
use Rattle.reading.specs.Reading.{reading}
use Rattle.refusal.proofs.Answers.{on_given}
use Rattle.reading.proofs.Taken.{Taken, taken}
use Rattle.reading.proofs.Accept.{accepted}
use Rattle.reading.proofs.Kept.{Kept, kept}
use Rattle.guarantees.specs.StrictWriting.{Sound}
use Rattle.guarantees.specs.RoundTrips.{WrittenThenRead, ReadThenWritten}
use Rattle.guarantees.proofs.Refusals.{same_ok}
use Rattle.guarantees.proofs.StrictReading.{done, found}
use Rattle.guarantees.proofs.StrictWriting.{strict_writing_lem}

-- The bytes that were written stand at the front.
pub front : (bytes old : List ℕ) (new : List ℕ) → new ≡ bytes ++ drop (length bytes) old → take (length bytes) new ≡ bytes
front bytes old new e = ap (take (length bytes)) e ∙ take-append_seam bytes (drop (length bytes) old)

pub written_then_read : WrittenThenRead
written_then_read limit p s old r new n d shaped b promise is short read =
    let w = strict_writing_lem limit p shaped s b old r new promise in
    let k = w.exactly.0 (n, is) in
    let wrote = w.writes (meaning s p) k.0 refl k.1 k.2 in
    let same : n ≡ length (layout (meaning s p)) = same_ok (sym is ∙ wrote.answer) in
    let bytes : take n new ≡ layout (meaning s p) = ap (λ (i : ℕ). take i new) same ∙ front (layout (meaning s p)) old new wrote.output in
    found (take n new) (omega (arith, ap length bytes)) d read (meaning s p) (record { well_formed = k.0; bytes = sym bytes })

pub read_then_written : ReadThenWritten
unfolding is_too_long
read_then_written s edits d p limit old r new b read is enough held short promise =
    let gives : reading true s ≡ given p = done d p (reading true s) read is in
    let a = on_given (λ (q : Packet). (beside : List ℕ) → WellFormed (meaning (stores s beside) q) × (layout (meaning (stores s beside) q) ≡ s)) (reading true s) p (accepted s b) gives edits in
    let k = on_given (Kept s) (reading true s) p (kept true s b) gives in
    let fits = (on_given (Taken true s) (reading true s) p (taken true s b) gives).fits in
    let w = strict_writing_lem limit p k.1 (stores s edits) (record { datagram = b; edits = held }) old r new promise in
    let sound : Sound (stores s edits) p = record { short = rw (le-ltb max_store (length s) fits) (le-ltb max_store (length edits) short); records = k.0 edits } in
    let wrote = w.writes (meaning (stores s edits) p) a.0 refl sound (rw a.1 enough) in
    rw a.1 at wrote
