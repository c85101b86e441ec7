-- What reading hands over leads back to the packet that was read, so writing it is copying the datagram.
use Prim.Native.Nat.{ℕ, zero, suc, ◌+◌, ◌-◌, ◌/◌, ◌%◌, ◌≤◌}
use mathlib.Core.Path.{◌≡◌, refl, sym, ap, subst, ◌∙◌}
use mathlib.Core.Bool.{Bool, true, false}
use mathlib.Core.List.{List, [], ◌++◌}
use native.Mathlib.Omega.{arith}
use lib.ListN.{length, drop, get_or, replicate}
use lib.Seq.{drop-append_seam}
use borrow.Author.Tests.{le-ltb}
use Rattle.ground.specs.Part.{Bytes}
use Rattle.ground.proofs.Choice.{on_lt, on_le, on_eq}
use Rattle.refusal.specs.Answer.{Answer, given, refused, onward, fitted}
use Rattle.refusal.proofs.Answers.{Given, on_given, given_onward}
use Rattle.rfc.specs.Message.{Message, layout}
use Rattle.class.specs.Class.{byte_of, class_of}
use Rattle.class.specs.declared.MessageClass.{MessageClass}
use Rattle.class.specs.declared.MessageClass.TheVariants.{Empty, Request, Response, Reserved}
use Rattle.header.specs.Header.{header_of, token_of}
use Rattle.header.specs.declared.HeaderRaw.{HeaderRaw}
use Rattle.class.proofs.Class.{class_back}
use Rattle.packet.specs.Packet.{stores, none, bytes_of, records_of}
use Rattle.packet.specs.Meaning.{meaning}
use Rattle.packet.specs.declared.Packet.{Packet}
use Rattle.packet.specs.declared.Range.{Range}
use Rattle.judging.specs.Judge.{lengths_of, is_too_long}
use Rattle.judging.proofs.Good.{good}
use Rattle.option_reading.specs.Option.{Place, ended, option, extended, value_at, length_at, option_at, place_at, end}
use Rattle.reading.specs.Options.{Tail, options, before}
use Rattle.reading.specs.Reading.{longest, packet_of, reading}
use Rattle.reading.proofs.Taken.{Taken, taken}
use Rattle.reading.proofs.Accept.{records_found, means}
use Rattle.reading.proofs.Sound.{given_place}
use Rattle.reading.proofs.Kept.{Kept, kept}
use Rattle.measuring.specs.Measuring.{sent_payload, counted, strictly, limited}
use Rattle.measuring.specs.declared.Limit.TheVariants.{Unlimited}
use Rattle.writing.specs.Writing.{bytes_written, writing}
use Rattle.flat.specs.Flat.{flat}
use Rattle.unflat.specs.Made.{Spared, Made}
use Rattle.unflat.proofs.Inverse.{unflat_flat}
use Rattle.unflat.proofs.Longer.{longer}
use Rattle.flat_writing.specs.FlatWriting.{packet_over, copying}

-- What holds of every packet that is read, whatever the bytes: its class, its spare fields, and its array past the count.
record Filled (p : Packet) : Type 0 where
  class : class_of (byte_of p.header.code) ≡ p.header.code
  spare : Spared (records_of p)
  rest : drop p.count p.options ≡ replicate (128 - p.count) none

-- An option that is read has a spare field of 0.
abbrev Spare : Place → Type 0
Spare (ended marked payload) = Unit {0}
Spare (option r) = r.spare ≡ 0

-- What holds of every value that goes on holds at the end.
ever : {A B : Type 0} (Q : B → Type 0) (a : Answer A) (next : A → Answer B) → ((v : A) → Given Q (next v)) → Given Q (onward a next)
ever Q (given v) next f = f v
ever Q (refused k) next f = tt

spare_value : (s : List ℕ) (number start len : ℕ) → Given Spare (value_at s number start len)
unfolding value_at
spare_value s number start len =
    on_lt (Given Spare) 65535 number (λ _. tt) (λ _. on_lt (Given Spare) (length s - start) len (λ _. tt) (λ _. refl))

spare_place : (most : ℕ) (s : List ℕ) (number at : ℕ) → Given Spare (place_at most s number at)
unfolding place_at option_at length_at
spare_place most s number at =
    on_le (Given Spare) (length s) at (λ _. tt)
    (λ _. on_eq (Given Spare) (get_or s at 0) 255 (λ _. tt)
    (λ _. ever Spare (extended 3 65535 s (at + 1) (get_or s at 0 / 16)) _
    (λ delta. ever Spare (extended 4 most s delta.next (get_or s at 0 % 16)) _
    (λ len. spare_value s (number + delta.value) len.next len.value))))

abbrev SparedTail : Tail → Type 0
SparedTail t = Spared t.records

spared : (most : ℕ) (s : List ℕ) (room number at : ℕ) → Given SparedTail (options most s room number at)
unfolding options
spared most s zero number at =
    given_place Spare SparedTail (place_at most s number at) _ (spare_place most s number at) (λ marked payload _. tt) (λ r _. tt)
spared most s (suc room) number at =
    given_place Spare SparedTail (place_at most s number at) _ (spare_place most s number at) (λ marked payload _. tt)
    (λ r e. given_onward SparedTail SparedTail (options most s room r.number (end r)) (before r) (spared most s room r.number (end r)) (λ t h. (e, h)))

packet_filled : (s : List ℕ) (raw : HeaderRaw) (t : Tail) → Spared t.records → Filled (packet_of s raw t)
unfolding packet_of header_of
packet_filled s raw t h =
    record {
      class = class_back raw.code;
      spare = subst Spared (sym (records_found s raw t)) h;
      rest = drop-append_seam t.records (replicate (128 - length t.records) none);
    }

-- What a payload means that is dropped or sent, where the payload itself means one thing over two edit stores.
same_sent : (s edits : List ℕ) (mode : Bool) (class : MessageClass) (r : Range) → bytes_of (stores s edits) r ≡ bytes_of (stores s []) r
    → bytes_of (stores s edits) (sent_payload mode class r) ≡ bytes_of (stores s []) (sent_payload mode class r)
same_sent s edits true class r h = h
same_sent s edits false Empty r h = refl
same_sent s edits false (Request q) r h = h
same_sent s edits false (Response q) r h = h
same_sent s edits false (Reserved q) r h = h

-- A packet that means one message over two edit stores is written as the same bytes.
same_bytes : (s edits : List ℕ) (mode : Bool) (p : Packet) → meaning (stores s edits) p ≡ meaning (stores s []) p
    → bytes_written mode (stores s edits) p ≡ bytes_written mode (stores s []) p
same_bytes s edits mode p e =
    let payload = same_sent s edits mode p.header.code p.payload (ap (λ (m : Message). m.payload) e) in
    λ i.
    layout
    (record {
      version = (e i).version;
      type = (e i).type;
      code = (e i).code;
      id = (e i).id;
      token = (e i).token;
      options = (e i).options;
      payload = payload i;
    })

module _ (strict : Bool) (s : List ℕ) (b : Bytes s) (p : Packet) (e : reading strict s ≡ given p) where
  read_taken : Taken strict s p
  read_taken = on_given (Taken strict s) (reading strict s) p (taken strict s b) e

  filled : Filled p
  filled =
      let k = read_taken in
      let from = 4 + token_of k.raw in
      rw k.packet (packet_filled s k.raw k.tail (on_given SparedTail (options (longest strict) s 128 0 from) k.tail (spared (longest strict) s 128 0 from) k.options))

  -- A packet that was read is made.
  pub read_made : Made p
  read_made =
      let k : Kept s p = on_given (Kept s) (reading strict s) p (kept strict s b) e in
      let g = good (lengths_of (stores s [])) p (k.0 []) in
      record { version = omega (arith, g.version); class = filled.class; count = g.count; spare = filled.spare; rest = filled.rest }

  module _ (edits : List ℕ) (fits : length edits ≤ 70000) where
    short : is_too_long (lengths_of (stores s edits)) ≡ false
    unfolding is_too_long
    short = rw (le-ltb 70000 (length s) read_taken.fits, le-ltb 70000 (length edits) fits)

    -- Its flat form, with whatever stands after it, is taken for that packet, whatever the edit store holds.
    pub read_back : (rest : List ℕ) → packet_over (stores s edits) (flat p ++ rest) ≡ given p
    unfolding packet_over
    read_back rest =
        let k : Kept s p = on_given (Kept s) (reading strict s) p (kept strict s b) e in
        rw short (longer (flat p) rest p (unflat_flat p k.1 read_made))

    -- Nor does it move what is written of the packet.
    same_written : (mode : Bool) (room : ℕ) → writing mode Unlimited room (stores s edits) p ≡ writing mode Unlimited room (stores s []) p
    unfolding writing is_too_long
    same_written mode room =
        let k : Kept s p = on_given (Kept s) (reading strict s) p (kept strict s b) e in
        rw (le-ltb 70000 (length s) read_taken.fits, le-ltb 70000 (length edits) fits, k.0 edits, k.0 [])
        (ap (λ (l : List ℕ). onward (strictly mode p) (λ _. limited Unlimited (counted mode p) (fitted room l)))
        (same_bytes s edits mode p (means strict s b p read_taken edits ∙ sym (means strict s b p read_taken []))))

    -- So the flat form of what was read is written as the datagram is copied.
    pub write_copies : (mode : Bool) (room : ℕ) (rest : List ℕ)
        → copying mode room (stores s edits) (packet_over (stores s edits) (flat p ++ rest)) ≡ copying mode room (stores s []) (reading strict s)
    write_copies mode room rest =
        ap (copying mode room (stores s edits)) (read_back rest) ∙ (same_written mode room ∙ sym (ap (copying mode room (stores s [])) e))
