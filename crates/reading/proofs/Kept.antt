-- A packet that was read has no bad record over its datagram, whatever the edit store holds: later operations never refuse it 11.
use Prim.Native.Nat.{ℕ, zero, suc, ◌+◌, ◌-◌, ◌≤◌}
use mathlib.Core.Path.{◌≡◌, refl, ap, ◌∙◌}
use mathlib.Core.Bool.{Bool, false}
use mathlib.Core.List.{List, [], ◌∷◌, ◌++◌}
use native.Mathlib.Omega.{arith}
use lib.ListN.{length, replicate, length-append, length-replicate}
use lib.Dec.{ltb}
use borrow.Author.Tests.{le-ltb}
use Rattle.ground.specs.Part.{Bytes}
use Rattle.ground.proofs.Choice.{none_of}
use Rattle.header.specs.Header.{header_of, token_of}
use Rattle.header.specs.declared.HeaderRaw.{HeaderRaw}
use Rattle.class.proofs.Class.{byte_back}
use Rattle.packet.specs.Packet.{stores, none, records_of}
use Rattle.judging.specs.Judge.{lengths_of, falling, bad_value, bad_values, bad_packet}
use Rattle.packet.specs.Shape.{Numbers, Shaped}
use Rattle.packet.specs.declared.Packet.{Packet}
use Rattle.packet.specs.declared.OptionRecord.{OptionRecord}
use Rattle.judging.proofs.Good.{not_bad}
use Rattle.option_reading.specs.Option.{place_at, end}
use Rattle.reading.specs.Options.{Tail, options, before}
use Rattle.reading.specs.Reading.{packet_of, longest, reading}
use Rattle.refusal.proofs.Answers.{Given, on_given, given_onward}
use Rattle.reading.proofs.Sound.{Stands, stands, Ended, Laid, given_place}
use Rattle.reading.proofs.Taken.{RawSmall, Taken, taken, given_map}
use Rattle.reading.proofs.Accept.{records_found}

-- Records that were read: as many as there was room for, not falling, inside the datagram, their numbers of 16 bits.
record Fine (s : List ℕ) (room number : ℕ) (t : Tail) : Type 0 where
  count : length t.records ≤ room
  ordered : falling number t.records ≡ false
  values : (edits : List ℕ) → bad_values (lengths_of (stores s edits)) t.records ≡ false
  numbers : Numbers t.records
  inside : t.payload ≤ length s

module _ (longest : ℕ) (s : List ℕ) (b : Bytes s) where
  none_fine : (room number at : ℕ) (marked : Bool) (payload : ℕ) → Ended s at marked payload → Fine s room number (record { records = []; marked = marked; payload = payload })
  none_fine room number at marked payload e = record { count = omega arith; ordered = refl; values = λ edits. refl; numbers = tt; inside = e.inside }

  one_fine : (room number at : ℕ) (r : OptionRecord) → Laid s number at r → (t : Tail) → Fine s room r.number t
      → Fine s (suc room) number (record { records = r ∷ t.records; marked = t.marked; payload = t.payload })
  one_fine room number at r l t f =
      record {
        count = omega (arith, f.count);
        ordered = none_of (ltb r.number number) (falling r.number t.records) (le-ltb r.number number l.rises) f.ordered;
        values = λ edits.
            none_of (bad_value (lengths_of (stores s edits)) r) (bad_values (lengths_of (stores s edits)) t.records)
            (rw (l.home, le-ltb (length s) (r.start + r.len) l.inside) (le-ltb 65804 r.len l.short)) (f.values edits);
        numbers = (omega (arith, l.low), f.numbers);
        inside = f.inside;
      }

  fine : (room number at : ℕ) → at ≤ length s → Given (Fine s room number) (options longest s room number at)
  unfolding options
  fine zero number at h =
      given_place (Stands s number at) (Fine s zero number) (place_at longest s number at) _ (stands longest s b number at h) (none_fine zero number at) (λ r l. tt)
  fine (suc room) number at h =
      given_place (Stands s number at) (Fine s (suc room) number) (place_at longest s number at) _ (stands longest s b number at h) (none_fine (suc room) number at)
      (λ r l. given_onward (Fine s room r.number) (Fine s (suc room) number) (options longest s room r.number (end r)) (before r)
      (fine room r.number (end r) l.inside) (one_fine room number at r l))

numbers_append : (rs qs : List OptionRecord) → Numbers rs → Numbers qs → Numbers (rs ++ qs)
numbers_append [] qs a c = c
numbers_append (r ∷ rs) qs a c = (a.0, numbers_append rs qs a.1 c)

numbers_none : (n : ℕ) → Numbers (replicate n none)
numbers_none zero = tt
numbers_none (suc n) = (omega arith, numbers_none n)

-- What holds of a packet that was read, over its datagram and any edit store: no bad record, and what its types say.
abbrev pub Kept : List ℕ → Packet → Type 0
Kept s p = ((edits : List ℕ) → bad_packet (lengths_of (stores s edits)) p ≡ false) × Shaped p

packet_kept : (s : List ℕ) (raw : HeaderRaw) → RawSmall s raw → token_of raw ≤ 8 → 4 + token_of raw ≤ length s → (t : Tail) → Fine s 128 0 t → Kept s (packet_of s raw t)
unfolding packet_of header_of
packet_kept s raw small token inside t f =
    let p : Packet = packet_of s raw t in
    let found : records_of p ≡ t.records = records_found s raw t in (
      λ edits. not_bad (lengths_of (stores s edits)) p
          (record {
            version = omega (arith, small.first);
            count = f.count;
            ordered = ap (falling 0) found ∙ f.ordered;
            token = inside;
            payload = omega (arith, f.inside);
            token_length = omega (arith, token);
            values = ap (bad_values (lengths_of (stores s edits))) found ∙ f.values edits;
          }),
      record {
        code = rw (byte_back raw.code) small.code;
        id = omega (arith, small.id);
        array = length-append t.records (replicate (128 - length t.records) none) ∙ (rw length-replicate (omega (arith, f.count)));
        numbers = numbers_append t.records (replicate (128 - length t.records) none) f.numbers (numbers_none (128 - length t.records));
      },
    )

-- A packet that either mode reads.
pub kept : (strict : Bool) (s : List ℕ) → Bytes s → Given (Kept s) (reading strict s)
kept strict s b = given_map one (reading strict s) (taken strict s b)
  where
    one : (p : Packet) → Taken strict s p → Kept s p
    one p k =
        let from = 4 + token_of k.raw in
        let f = on_given (Fine s 128 0) (options (longest strict) s 128 0 from) k.tail (fine (longest strict) s b 128 0 from k.token_inside) k.options in
        rw k.packet (packet_kept s k.raw k.small k.token_short k.token_inside k.tail f)
