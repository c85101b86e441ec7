-- A compaction that is done: what its answer says, and what one more compaction answers.
use Prim.Native.Nat.{ℕ, ◌≤◌}
use mathlib.Core.Path.{◌≡◌, sym, ap, ◌∙◌}
use mathlib.Core.Bool.{false}
use mathlib.Core.List.{List, ◌++◌}
use native.Mathlib.Omega.{arith}
use lib.ListN.{length, drop, length-append, length-drop}
use borrow.Author.Tests.{le-ltb}
use Rattle.std.specs.Prelude.{Ok}
use Rattle.ground.proofs.Choice.{none_of}
use Rattle.ground.proofs.Part.{put_front}
use Rattle.refusal.specs.Answer.{given}
use Rattle.packet.specs.Limits.{max_store, max_options}
use Rattle.packet.specs.Packet.{Stores, stores, records_of}
use Rattle.packet.specs.declared.Packet.{Packet}
use Rattle.judging.specs.Judge.{lengths_of, is_too_long}
use Rattle.judging.proofs.Good.{Good, good, not_bad}
use Rattle.judging.proofs.Order.{in_use}
use Rattle.compacting.specs.Compacting.{live_bytes, relocated, compacting, Compacts}
use Rattle.compacting.specs.declared.Compacted.{Compacted}
use Rattle.compacting.proofs.Answers.{Fits, fits, ends, short_edits}
use Rattle.compacting.proofs.Live.{live_length_lem}
use Rattle.compacting.proofs.Relaid.{relocated_sum, relocated_good}
use Rattle.compacting.proofs.Kept.{live_kept}

-- Two stores of at most 70,000 bytes.
pub short_stores : (d e : List ℕ) → length d ≤ max_store → length e ≤ max_store → is_too_long (lengths_of (stores d e)) ≡ false
unfolding is_too_long
short_stores d e h k = none_of _ _ (le-ltb max_store (length d) h) (le-ltb max_store (length e) k)

-- What a compaction that is done has done.
pub record Done (p : Packet) (s : Stores) (second : List ℕ) (r : Compacted) (newEdits newSecond : List ℕ) : Type 0 where
  pub answer : compacting (lengths_of s) (length second) p ≡ given r.end
  pub fits : Fits (lengths_of s) (length second) p r.end
  pub good : Good (lengths_of s) p
  pub long : length (live_bytes s p) ≡ r.end
  pub packet : r.packet ≡ relocated p
  pub edits : newEdits ≡ live_bytes s p ++ drop r.end s.edits
  pub buffer : newSecond ≡ live_bytes s p ++ drop r.end second

pub done : (p : Packet) (s : Stores) (second : List ℕ) (r : Compacted) (newEdits newSecond : List ℕ) → Compacts p s second (Ok r) newEdits newSecond
    → Done p s second r newEdits newSecond
done p s second r newEdits newSecond c =
    let n = r.end in
    let a : compacting (lengths_of s) (length second) p ≡ given n = sym c.answer in
    let f = fits (lengths_of s) (length second) p n a in
    let g = good (lengths_of s) p f.sound in
    let l : length (live_bytes s p) ≡ n = live_length_lem s p g ∙ sym f.sum in
    let front : (old : List ℕ) → n ≤ length old → _ = λ old k. put_front old (live_bytes s p) (omega (arith, l)) ∙ ap (λ (i : ℕ). live_bytes s p ++ drop i old) l in
    record {
      answer = a;
      fits = f;
      good = g;
      long = l;
      packet = rw a at c.packet;
      edits = (rw a at c.edits) ∙ front s.edits f.edits;
      buffer = (rw a at c.buffer) ∙ front second f.second;
    }

-- Compacted again, beside any datagram that is not too long and with a second buffer that has room.
module _ (p : Packet) (array : length p.options ≡ max_options) (s : Stores) (second : List ℕ) (r : Compacted) (newEdits newSecond : List ℕ) (w : Done p s second r newEdits newSecond) where
  pub counted : length (records_of p) ≡ p.count
  counted = in_use p array w.good.count

  pub same_room : length newEdits ≡ length s.edits
  same_room = ap length w.edits ∙ (length-append (live_bytes s p) (drop r.end s.edits) ∙ omega (arith, w.long, w.fits.edits, length-drop r.end s.edits))

  module _ (d : List ℕ) (short : length d ≤ max_store) where
    abbrev then : Stores
    then = stores d newEdits

    pub short_then : is_too_long (lengths_of then) ≡ false
    short_then = short_stores d newEdits short (omega (arith, same_room, short_edits (lengths_of s) w.fits.short))

    pub good_then : Good (lengths_of then) (relocated p)
    good_then = relocated_good p counted (lengths_of s) (lengths_of then) w.good (omega (arith, same_room, w.fits.sum, w.fits.edits))

    pub again : (room : ℕ) → r.end ≤ room → compacting (lengths_of then) room (relocated p) ≡ given r.end
    again room h =
        sym (ends (lengths_of then) room (relocated p) short_then (not_bad (lengths_of then) (relocated p) good_then) r.end (w.fits.sum ∙ sym (relocated_sum p counted))
        (omega (arith, same_room, w.fits.edits)) h)

    pub live_then : live_bytes then (relocated p) ≡ live_bytes s p
    live_then = live_kept s p w.good counted d newEdits (drop r.end s.edits) w.edits
