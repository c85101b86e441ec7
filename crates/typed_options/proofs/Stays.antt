-- What a setter leaves as it was, done or refused, beside any datagram: every range of the datagram, and every range of the edit
-- store apart from the bytes put.
use Prim.Native.Nat.{ℕ}
use mathlib.Core.Path.{◌≡◌, refl, ap, ◌∙◌}
use mathlib.Core.List.{List}
use lib.ListN.{length}
use Rattle.std.specs.Prelude.{Result}
use Rattle.refusal.specs.Answer.{Answer, given, refused, after}
use Rattle.refusal.specs.declared.Refusal.{Refusal}
use Rattle.packet.specs.Packet.{stores, bytes_of, records_of}
use Rattle.packet.specs.Meaning.{meaning}
use Rattle.packet.specs.declared.Packet.{Packet}
use Rattle.packet.specs.declared.Range.{Range}
use Rattle.packet.specs.declared.Home.TheVariants.{Datagram}
use Rattle.typed_options.specs.Apart.{Apart, Untouched}
use Rattle.typed_options.specs.Setters.{Sets}
use Rattle.typed_options.proofs.Apart.{apart_bytes, meaning_apart}

-- A range of the datagram is apart from all bytes that are put.
pub datagram_apart : (start len : ℕ) (range : Range) → range.home ≡ Datagram → Apart start len range
datagram_apart start len range e = rw e tt

-- Whatever holds of a store with the bytes put and of the store as it was holds of what a setter leaves.
after_either : (P : List ℕ → Type 0) (a : Answer Packet) (start : ℕ) (bytes old : List ℕ)
    → P old → P (after (given (tt {0})) start bytes old) → P (after a start bytes old)
after_either P (given q) start bytes old kept put = put
after_either P (refused k) start bytes old kept put = kept

module _ (p : Packet) (a : Answer Packet) (start : ℕ) (bytes old : List ℕ) (r : Result Packet Refusal) (new : List ℕ) (s : Sets p a start bytes old r new) (d : List ℕ) where
  pub range_stays : (range : Range) → Apart start (length bytes) range → bytes_of (stores d new) range ≡ bytes_of (stores d old) range
  range_stays range h =
      ap (λ (l : List ℕ). bytes_of (stores d l) range) s.store
      ∙ after_either (λ (l : List ℕ). bytes_of (stores d l) range ≡ bytes_of (stores d old) range) a start bytes old refl (apart_bytes old start bytes d range h)

  pub datagram_stays : (range : Range) → range.home ≡ Datagram → bytes_of (stores d new) range ≡ bytes_of (stores d old) range
  datagram_stays range e = range_stays range (datagram_apart start (length bytes) range e)

  pub meaning_stays : (q : Packet) → Untouched start (length bytes) q (records_of q) → meaning (stores d new) q ≡ meaning (stores d old) q
  meaning_stays q u =
      ap (λ (l : List ℕ). meaning (stores d l) q) s.store
      ∙ after_either (λ (l : List ℕ). meaning (stores d l) q ≡ meaning (stores d old) q) a start bytes old refl (meaning_apart old start bytes d q u)
