-- An accepted datagram: its bytes are the layout of what it means, and one FF more where plain accepts a bare marker; what
-- strict accepts means a well-formed message.
use Prim.Native.Nat.{ℕ, ◌+◌, ◌-◌, ◌*◌, ◌/◌, ◌%◌, ◌<◌, ◌≤◌}
use mathlib.Core.Path.{◌≡◌, refl, sym, ap, ◌∙◌}
use mathlib.Core.Bool.{Bool, true, false}
use mathlib.Core.List.{List, [], ◌∷◌, ◌++◌, map, append_assoc, append-nil}
use native.Mathlib.Omega.{arith}
use lib.ListN.{length, take, drop, replicate, length-drop, length-map, take-append-drop, drop_of_length-le}
use lib.Seq.{take-append_seam, take_all}
use lib.Dec.{eqb}
use borrow.Author.Tests.{eq-eqb, ne_eqb}
use Rattle.ground.specs.Choice.{both}
use Rattle.rfc.specs.Message.{Opt, Message, WellFormed, Bare, layout, header_layout, options_layout, payload_layout, option_layout}
use Rattle.ground.specs.Part.{Bytes}
use Rattle.ground.proofs.Choice.{by_eq}
use Rattle.refusal.proofs.Answers.{Given, on_given}
use Rattle.header.specs.Header.{header_of, version_of, token_of}
use Rattle.header.specs.declared.HeaderRaw.{HeaderRaw}
use Rattle.class.proofs.Class.{byte_back}
use Rattle.header.proofs.Raw.{bytes_back, number_back}
use Rattle.packet.specs.Packet.{stores, bytes_in, records_of, none}
use Rattle.packet.specs.Meaning.{option_of, meaning}
use Rattle.packet.specs.declared.Packet.{Packet}
use Rattle.reading.specs.Options.{Tail, options}
use Rattle.reading.specs.Reading.{longest, packet_of, reading}
use Rattle.reading.proofs.Sound.{option_in, InDatagram, options_in_lem, Follows, follows, marks, inside_bytes, inside_length, inside_are, inside_split}
use Rattle.reading.proofs.Taken.{Taken, taken, bare, given_map}

-- The records of a packet that was read are those that were found.
pub records_found : (s : List ℕ) (raw : HeaderRaw) (t : Tail) → records_of (packet_of s raw t) ≡ t.records
unfolding packet_of
records_found s raw t = take-append_seam t.records (replicate (128 - length t.records) none)

-- What a packet that was read means.
unfoldable pub meant : List ℕ → HeaderRaw → Tail → Message
meant s raw t =
    record {
      version = version_of raw;
      type = raw.ver_type_tkl / 16 % 4;
      code = raw.code;
      id = raw.message_id;
      token = bytes_in s 4 (token_of raw);
      options = map (option_in s) t.records;
      payload = bytes_in s t.payload (length s - t.payload);
    }

-- A message with no payload.
abbrev pub unpaid : Message → Message
unpaid m =
    record { version = m.version; type = m.type; code = m.code; id = m.id; token = m.token; options = m.options; payload = [] }

pub is_meant : (s edits : List ℕ) (raw : HeaderRaw) (t : Tail) → InDatagram t.records → meaning (stores s edits) (packet_of s raw t) ≡ meant s raw t
unfolding meant packet_of header_of
is_meant s edits raw t homes =
    let same = ap (map (option_of (stores s edits))) (records_found s raw t) ∙ options_in_lem s edits t.records homes in
    λ i.
    record {
      version = version_of raw;
      type = number_back (raw.ver_type_tkl / 16) i;
      code = byte_back raw.code i;
      id = raw.message_id;
      token = bytes_in s 4 (token_of raw);
      options = same i;
      payload = bytes_in s t.payload (length s - t.payload);
    }

-- The range from a position to the end names what is left there.
pub rest_bytes : (s : List ℕ) (start : ℕ) → start ≤ length s → bytes_in s start (length s - start) ≡ drop start s
rest_bytes s start h =
    inside_bytes s start (length s - start) (omega arith) ∙ take_all (length s - start) (drop start s) (rw length-drop (omega arith))

pub payload_some : (l : List ℕ) → 0 < length l → payload_layout l ≡ 255 ∷ l
payload_some [] h = absurd (omega arith)
payload_some (x ∷ l) h = refl

-- The payload's layout, and FF more where the marker is bare, is what ends the datagram.
payload_layout_lem : (s : List ℕ) (marked : Bool) (payload : ℕ) → payload ≤ length s → (marked ≡ false → payload ≡ length s)
    → payload_layout (bytes_in s payload (length s - payload)) ++ marks (both marked (eqb payload (length s))) [] ≡ marks marked (drop payload s)
payload_layout_lem s true payload inside unmarked =
    by_eq payload (length s)
    (λ e.
    let none_left : drop payload s ≡ [] = drop_of_length-le s {i = payload} (omega arith) in
    rw (rest_bytes s payload inside, none_left, eq-eqb payload (length s) e) refl)
    (λ e.
    let more : 0 < length (drop payload s) = rw length-drop (omega (arith, e)) in
    rw (rest_bytes s payload inside, payload_some (drop payload s) more, ne_eqb payload (length s) e) (append-nil (255 ∷ drop payload s)))
payload_layout_lem s false payload inside unmarked =
    let none_left : drop payload s ≡ [] = drop_of_length-le s {i = payload} (omega (arith, unmarked refl)) in
    rw (rest_bytes s payload inside, none_left) refl

-- No bytes are the layout of no options and no payload.
no_options : (n : ℕ) (os : List Opt) (rest : List ℕ) → [] ≡ options_layout n os ++ rest → (os ≡ []) × (rest ≡ [])
unfolding option_layout
no_options n [] rest e = (refl, sym e)
no_options n (o ∷ os) rest e = (cc, cc)

no_payload : (marked : Bool) (l : List ℕ) → marks marked l ≡ [] → l ≡ []
no_payload true l e = cc
no_payload false l e = e

-- What either mode accepts.
module _ (strict : Bool) (s : List ℕ) (b : Bytes s) (p : Packet) (k : Taken strict s p) where
  pub found : Follows s 128 0 (4 + token_of k.raw) k.tail
  found =
      on_given (Follows s 128 0 (4 + token_of k.raw)) (options (longest strict) s 128 0 (4 + token_of k.raw)) k.tail
      (follows (longest strict) s b 128 0 (4 + token_of k.raw) k.token_inside) k.options

  pub means : (edits : List ℕ) → meaning (stores s edits) p ≡ meant s k.raw k.tail
  means edits = ap (meaning (stores s edits)) k.packet ∙ is_meant s edits k.raw k.tail found.homes

  head_laid : header_layout (meant s k.raw k.tail) ≡ take 4 s
  unfolding header_layout meant
  head_laid =
      let v : ℕ = k.raw.ver_type_tkl in
      let first : v / 64 * 64 + v / 16 % 4 * 16 + v % 16 ≡ v = omega arith in
      rw (inside_length s 4 (token_of k.raw) k.token_inside, first) (bytes_back s k.raw b k.header)

  -- The datagram is the layout of what it means, and one FF more where a bare marker ends it.
  pub laid_out : layout (meant s k.raw k.tail) ++ marks (bare s k.tail) [] ≡ s
  unfolding layout meant
  laid_out =
      let t = k.tail in
      let token = bytes_in s 4 (token_of k.raw) in
      let os = options_layout 0 (map (option_in s) t.records) in
      let payload = payload_layout (bytes_in s t.payload (length s - t.payload)) in
      let body : token ++ (os ++ (payload ++ marks (bare s t) [])) ≡ drop 4 s =
      rw (payload_layout_lem s t.marked t.payload found.inside found.unmarked, ← found.bytes)
      (sym (inside_split s 4 (token_of k.raw) k.token_inside)) in
      rw (head_laid, append_assoc (take 4 s) (token ++ (os ++ payload)) (marks (bare s t) []), append_assoc token (os ++ payload) (marks (bare s t) []), append_assoc os payload (marks (bare s t) []), body) (take-append-drop 4 s)

  head_unpaid : header_layout (unpaid (meant s k.raw k.tail)) ≡ take 4 s
  unfolding header_layout meant
  head_unpaid = head_laid

  -- Without its payload it is laid out as what stands before the end of its options.
  pub laid_before : layout (unpaid (meant s k.raw k.tail)) ++ marks k.tail.marked (drop k.tail.payload s) ≡ s
  unfolding layout meant
  laid_before =
      let t = k.tail in
      let token = bytes_in s 4 (token_of k.raw) in
      let os = options_layout 0 (map (option_in s) t.records) in
      let rest = marks t.marked (drop t.payload s) in
      let body : token ++ ((os ++ []) ++ rest) ≡ drop 4 s = rw (append-nil os, ← found.bytes) (sym (inside_split s 4 (token_of k.raw) k.token_inside)) in
      rw (head_unpaid, append_assoc (take 4 s) (token ++ (os ++ [])) rest, append_assoc token (os ++ []) rest, body) (take-append-drop 4 s)

-- What strict accepts besides.
module _ (s : List ℕ) (b : Bytes s) (p : Packet) (k : Taken true s p) where
  nothing_more : k.raw.code ≡ 0 → Bare (meant s k.raw k.tail)
  unfolding meant
  nothing_more e =
      let f = found true s b p k in
      let token = token_of k.raw in
      let short : length s ≤ 4 = k.empty refl e in
      let no-token : token ≡ 0 = omega (arith, k.token_inside) in
      let none_left : drop (4 + token) s ≡ [] = drop_of_length-le s {i = 4 + token} (omega arith) in
      let nothing = no_options 0 (map (option_in s) k.tail.records) (marks k.tail.marked (drop k.tail.payload s)) (sym none_left ∙ f.bytes) in
      record {
        token = rw (inside_bytes s 4 token k.token_inside, no-token) refl;
        options = nothing.0;
        payload = rest_bytes s k.tail.payload f.inside ∙ no_payload k.tail.marked (drop k.tail.payload s) nothing.1;
      }

  well_formed : WellFormed (meant s k.raw k.tail)
  unfolding meant
  well_formed =
      let f = found true s b p k in
      record {
        version = k.version refl;
        type = omega arith;
        code = omega (arith, k.small.code);
        id = k.small.id;
        token_length = rw (inside_length s 4 (token_of k.raw) k.token_inside) k.token_short;
        token = inside_are s 4 (token_of k.raw) b k.token_inside;
        count = rw length-map f.count;
        rising = f.rising;
        options = f.options;
        payload = inside_are s k.tail.payload (length s - k.tail.payload) b (omega (arith, f.inside));
        empty = nothing_more;
      }

  accepts : (edits : List ℕ) → WellFormed (meaning (stores s edits) p) × (layout (meaning (stores s edits) p) ≡ s)
  accepts edits = rw (means true s b p k edits) (well_formed, sym (append-nil _) ∙ (rw (k.alone refl) at (laid_out true s b p k)))

-- What strict reading accepts means a well-formed message whose layout is the datagram, whatever the edit store holds.
pub accepted : (s : List ℕ) → Bytes s
    → Given (λ (p : Packet). (edits : List ℕ) → WellFormed (meaning (stores s edits) p) × (layout (meaning (stores s edits) p) ≡ s)) (reading true s)
accepted s b = given_map (accepts s b) (reading true s) (taken true s b)
