-- Where the ranges of sound numbers lie: inside their stores.
use Prim.Native.Nat.{ℕ, ◌+◌, ◌*◌, ◌<◌, ◌≤◌}
use mathlib.Core.Path.{◌≡◌, sym, ap, ◌∙◌}
use mathlib.Core.Bool.{false}
use mathlib.Core.List.{List}
use lib.ListN.{length, drop, get_or}
use borrow.Author.Tests.{eq-eqb, ne_eqb}
use Rattle.ground.proofs.Choice.{neither}
use Rattle.packet.specs.Packet.{Stores, records_of}
use Rattle.judging.specs.Judge.{lengths_of, length_in, bad_value, bad_values}
use Rattle.judging.specs.declared.Lengths.{Lengths}
use Rattle.judging.proofs.Good as Judged
use Rattle.unflat.specs.Unflat.{bad_head, header_in, home_of, record_at, packet_in}
use Rattle.unflat.proofs.Unflat.{small, good_record}
use Rattle.unflat.proofs.Unflat as Flat
use Rattle.flat_measuring.specs.FlatMeasuring.{Sound}
use Rattle.flat_measuring.proofs.Records.{here}

-- What sound numbers keep to.
pub record Places (lengths : Lengths) (l : List ℕ) : Type 0 where
  pub head : 11 ≤ length l
  pub fields : bad_head l ≡ false
  pub records : 11 + 4 * get_or l 10 0 ≤ length l
  pub count : get_or l 10 0 ≤ 128
  pub version : get_or l 0 0 ≤ 3
  pub token : get_or l 5 0 + get_or l 6 0 ≤ length_in lengths (home_of (get_or l 4 0))
  pub token_length : get_or l 6 0 ≤ 15
  pub payload : get_or l 8 0 + get_or l 9 0 ≤ length_in lengths (home_of (get_or l 7 0))

module _ (lengths : Lengths) (l : List ℕ) (k : Sound lengths l) where
  pub places : Places lengths l
  unfolding packet_in header_in
  places =
      let f = Flat.good l k.flat in
      let g = Judged.good lengths (packet_in l) k.packet in
      record {
        head = f.head;
        fields = f.fields;
        records = f.records;
        count = (small l f.fields).count;
        version = g.version;
        token = g.token;
        token_length = g.token_length;
        payload = g.payload;
      }

  -- A record's number is one of 16 bits.
  pub number_held : (i : ℕ) → i < get_or l 10 0 → get_or l (11 + 4 * i) 0 ≤ 65535
  number_held i h = Flat.number_small l (11 + 4 * i) (good_record l (get_or l 10 0) i (Flat.good l k.flat).numbers h)

-- A value that is left is inside its store.
pub value_held : (lengths : Lengths) (l : List ℕ) (i : ℕ) → i < get_or l 10 0 → bad_values lengths (drop i (records_of (packet_in l))) ≡ false
    → (record_at l (11 + 4 * i)).start + (record_at l (11 + 4 * i)).len ≤ length_in lengths (record_at l (11 + 4 * i)).home
value_held lengths l i h e =
    let r = record_at l (11 + 4 * i) in
    Judged.value_inside lengths r (neither (bad_value lengths r) (bad_values lengths (drop (i + 1) (records_of (packet_in l)))) (ap (bad_values lengths) (sym (here l i h)) ∙ e)).0

-- What is inside the store that a home's number names.
module _ (s : Stores) (home n : ℕ) (h : n ≤ length_in (lengths_of s) (home_of home)) where
  pub in_datagram : home ≡ 0 → n ≤ length s.datagram
  unfolding home_of
  in_datagram e = rw (eq-eqb home 0 e) at h

  pub in_edits : (home ≡ 0 → ⊥) → n ≤ length s.edits
  unfolding home_of
  in_edits e = rw (ne_eqb home 0 e) at h
