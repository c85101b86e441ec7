-- The walk over the options: what is known of the records and the position before each option, and how a turn goes.
use Prim.Native.Nat.{ℕ, zero, suc, ◌+◌, ◌-◌, ◌<◌, ◌≤◌}
use mathlib.Core.Path.{◌≡◌, refl, sym, ap, ◌∙◌}
use mathlib.Core.Bool.{Bool, true, false}
use lib.Dec.{eqb}
use Rattle.ground.specs.Choice.{both}
use Rattle.header.specs.Header.{header_of, token_of}
use Rattle.header.specs.declared.HeaderRaw.{HeaderRaw}
use Rattle.reading.specs.Reading.{packet_of, finished}
use mathlib.Core.List.{List, [], ◌∷◌, ◌++◌, append_assoc, append-nil}
use native.Mathlib.Omega.{arith}
use lib.ListN.{length, set, replicate, length-append}
use lib.Seq.{set_at}
use Rattle.refusal.specs.Answer.{Answer, given, refused, onward}
use Rattle.packet.specs.Packet.{none, in_datagram}
use Rattle.packet.specs.declared.OptionRecord.{OptionRecord}
use Rattle.option_reading.specs.Option.{ended, option, place_at, end}
use Rattle.reading.specs.Options.{Tail, before, options}

-- Records put before the tail of an answer.
abbrev pub ahead : List OptionRecord → Answer Tail → Answer Tail
ahead rs (given t) = given (record { records = rs ++ t.records; marked = t.marked; payload = t.payload })
ahead rs (refused k) = refused k

pub ahead_none : (a : Answer Tail) → a ≡ ahead [] a
ahead_none (given t) = refl
ahead_none (refused k) = refl

pub ahead_before : (rs : List OptionRecord) (r : OptionRecord) (a : Answer Tail) → ahead rs (onward a (before r)) ≡ ahead (rs ++ (r ∷ [])) a
ahead_before rs r (given t) =
    ap (λ (l : List OptionRecord). given (record { records = l; marked = t.marked; payload = t.payload })) (sym (append_assoc rs (r ∷ []) t.records))
ahead_before rs r (refused k) = refl

module _ (longest : ℕ) (s : List ℕ) where
  -- A refusal or an end does not depend on the room; an option does.
  pub options_refused : (room number at k : ℕ) → place_at longest s number at ≡ refused k → options longest s room number at ≡ refused k
  unfolding options
  options_refused zero number at k e = rw e
  options_refused (suc room) number at k e = rw e

  pub options_ended : (room number at : ℕ) (marked : Bool) (payload : ℕ) → place_at longest s number at ≡ given (ended marked payload)
      → options longest s room number at ≡ given (record { records = []; marked = marked; payload = payload })
  unfolding options
  options_ended zero number at marked payload e = rw e
  options_ended (suc room) number at marked payload e = rw e

  pub options_full : (number at : ℕ) (r : OptionRecord) → place_at longest s number at ≡ given (option r) → options longest s zero number at ≡ refused 6
  unfolding options
  options_full number at r e = rw e

  pub options_more : (room number at : ℕ) (r : OptionRecord) → place_at longest s number at ≡ given (option r)
      → options longest s (suc room) number at ≡ onward (options longest s room r.number (end r)) (before r)
  unfolding options
  options_more room number at r e = rw e

  -- Before an option: the records so far stand in the array's first places, and the whole answer is theirs put before that of what is left.
  pub record Walk (from : ℕ) (records : List OptionRecord) (count number at : ℕ) : Type 0 where
    pub found : List OptionRecord
    pub array : records ≡ found ++ replicate (128 - count) none
    pub counted : count ≡ length found
    pub room : count ≤ 128
    pub inside : at ≤ length s
    pub whole : options longest s 128 0 from ≡ ahead found (options longest s (128 - count) number at)

  pub start : (from : ℕ) → from ≤ length s → Walk from (replicate 128 none) 0 0 from
  start from h =
      record { found = []; array = refl; counted = refl; room = omega arith; inside = h; whole = ahead_none (options longest s 128 0 from) }

  module _ (from : ℕ) (records : List OptionRecord) (count number at : ℕ) (w : Walk from records count number at) where
    pub turn : (r : OptionRecord) → place_at longest s number at ≡ given (option r) → count < 128 → end r ≤ length s
        → Walk from (set records count r) (count + 1) r.number (end r)
    turn r e h inside =
        let left : 128 - count ≡ suc (128 - (count + 1)) = omega arith in
        record {
          found = w.found ++ (r ∷ []);
          array = rw (w.array, left)
              (set_at w.found none (replicate (128 - (count + 1)) none) r count (sym w.counted)
              ∙ sym (append_assoc w.found (r ∷ []) (replicate (128 - (count + 1)) none)));
          counted = simp length-append (omega (arith, w.counted));
          room = omega arith;
          inside = inside;
          whole = w.whole ∙ (rw left (ap (ahead w.found) (options_more (128 - (count + 1)) number at r e))
              ∙ ahead_before w.found r (options longest s (128 - (count + 1)) r.number (end r)));
        }

    pub refuses : (k : ℕ) → place_at longest s number at ≡ refused k → options longest s 128 0 from ≡ refused k
    refuses k e = w.whole ∙ ap (ahead w.found) (options_refused (128 - count) number at k e)

    pub overflows : (r : OptionRecord) → place_at longest s number at ≡ given (option r) → 128 ≤ count → options longest s 128 0 from ≡ refused 6
    overflows r e h =
        let left : 128 - count ≡ 0 = omega arith in
        w.whole ∙ rw left (ap (ahead w.found) (options_full number at r e))

    pub ends : (marked : Bool) (payload : ℕ) → place_at longest s number at ≡ given (ended marked payload)
        → options longest s 128 0 from ≡ given (record { records = w.found; marked = marked; payload = payload })
    ends marked payload e =
        w.whole ∙ (ap (ahead w.found) (options_ended (128 - count) number at marked payload e)
        ∙ ap (λ (l : List OptionRecord). given (record { records = l; marked = marked; payload = payload })) (append-nil w.found))

    -- The packet that is made of the walk's records is that of the definition.
    pub packet_is : (raw : HeaderRaw) (marked : Bool) (payload : ℕ)
        → record { header = header_of raw; token = in_datagram 4 (token_of raw); count = count; options = records; payload = in_datagram payload (length s - payload) }
        ≡ packet_of s raw (record { records = w.found; marked = marked; payload = payload })
    unfolding packet_of
    packet_is raw marked payload =
        let options : records ≡ w.found ++ replicate (128 - length w.found) none =
        w.array ∙ ap (λ (n : ℕ). w.found ++ replicate (128 - n) none) w.counted in
        λ i.
        record { header = header_of raw; token = in_datagram 4 (token_of raw); count = w.counted i; options = options i; payload = in_datagram payload (length s - payload) }

-- A marker that ends the datagram is refused, and any other end gives the packet.
module _ (strict : Bool) (s : List ℕ) (raw : HeaderRaw) (t : Tail) where
  pub finished_alone : both strict (both t.marked (eqb t.payload (length s))) ≡ true → finished strict s raw t ≡ refused 9
  unfolding finished
  finished_alone e = rw e

  pub finished_well : both strict (both t.marked (eqb t.payload (length s))) ≡ false → finished strict s raw t ≡ given (packet_of s raw t)
  unfolding finished
  finished_well e = rw e
