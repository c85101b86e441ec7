-- The layout of a well-formed message is accepted, and means that message.
use Prim.Native.Nat.{ℕ, zero, suc, ◌+◌, ◌-◌, ◌*◌, ◌/◌, ◌%◌, ◌<◌, ◌≤◌}
use mathlib.Core.Path.{◌≡◌, refl, sym, ap, ◌∙◌, subst}
use mathlib.Core.Bool.{true, false, not}
use mathlib.Core.List.{List, [], ◌∷◌, ◌++◌, map, append_assoc}
use native.Mathlib.Nat.{add-zero, not-suc-le-zero, le_of_suc-le-suc}
use native.Mathlib.Omega.{arith}
use lib.ListN.{length, get_or, take, drop, length-drop, length-append, get_or-append}
use lib.Seq.{drop-drop, drop-append_seam, take-append_seam, get_or-drop, drop-length}
use lib.Dec.{ltb, eqb}
use borrow.Author.Tests.{lt-ltb, le-ltb, le-leb, lt-leb, eq-eqb, ne_eqb}
use Rattle.ground.specs.Choice.{both, either}
use Rattle.rfc.specs.Message.{Opt, Message, WellFormed, Bare, Rising, Options, layout, header_layout, options_layout, payload_layout, option_layout, nibble_of, extension_of}
use Rattle.ground.proofs.Choice.{by_lt, by_eq}
use Rattle.rfc.proofs.Message.{nibble_none, nibble_one, nibble_two, extension_none, extension_one, extension_two, nibble_small}
use Rattle.refusal.specs.Answer.{given}
use Rattle.packet.specs.Packet.{stores, bytes_in}
use Rattle.packet.specs.Meaning.{meaning}
use Rattle.packet.specs.declared.Packet.{Packet}
use Rattle.packet.specs.declared.Home.TheVariants.{Datagram}
use Rattle.packet.specs.declared.OptionRecord.{OptionRecord}
use Rattle.header.specs.Header.{raw_bytes, version_of, token_of}
use Rattle.header.specs.declared.HeaderRaw.{HeaderRaw}
use Rattle.header.proofs.Raw.{raw_back}
use Rattle.reading.specs.Reading.{packet_of, finished, after_header, reading}
use Rattle.option_reading.specs.Option.{option, extended, value_at, length_at, option_at, place_at, end}
use Rattle.reading.specs.Options.{Tail, options}
use Rattle.reading.proofs.Sound.{option_in, InDatagram, inside_bytes}
use Rattle.reading.proofs.Walk.{options_ended, options_more}
use Rattle.reading.proofs.Accept.{rest_bytes, meant, is_meant}

-- What stands from a position: some bytes and then the rest.
module _ (s : List ℕ) (at : ℕ) (x rest : List ℕ) (e : drop at s ≡ x ++ rest) (inside : at ≤ length s) where
  pub past : drop (at + length x) s ≡ rest
  past = sym (drop-drop (length x) at s) ∙ (ap (drop (length x)) e ∙ drop-append_seam x rest)

  pub fits : at + length x ≤ length s
  fits = let n = sym (length-drop at s) ∙ (ap length e ∙ length-append x rest) in omega (arith, n)

  pub byte : (i : ℕ) → i < length x → get_or s (at + i) 0 ≡ get_or x i 0
  byte i h = sym (get_or-drop at s i 0) ∙ (ap (λ (l : List ℕ). get_or l i 0) e ∙ get_or-append x rest 0 i h)

  pub names : bytes_in s at (length x) ≡ x
  names = inside_bytes s at (length x) fits ∙ (ap (take (length x)) e ∙ take-append_seam x rest)

-- The extension of a number is read as that number.
module _ (over most : ℕ) (s : List ℕ) (at n : ℕ) (rest : List ℕ) (e : drop at s ≡ extension_of n ++ rest) (inside : at ≤ length s) (small : n ≤ 65804) (under : n ≤ most) where
  read_none : n < 13 → extended over most s at (nibble_of n) ≡ given (record { value = n; next = at + length (extension_of n) })
  unfolding extended
  read_none h = rw (nibble_none n h, extension_none n h, lt-ltb n 13 h, add-zero at) refl

  read_one : 13 ≤ n → n < 269 → extended over most s at (nibble_of n) ≡ given (record { value = n; next = at + length (extension_of n) })
  unfolding extended
  read_one h l =
      let x = extension_one n h l in
      let e' : drop at s ≡ ((n - 13) ∷ []) ++ rest = e ∙ ap (λ (v : List ℕ). v ++ rest) x in
      let room : 1 ≤ length s - at = omega (arith, fits s at ((n - 13) ∷ []) rest e' inside) in
      let b : get_or s (at + 0) 0 ≡ n - 13 = byte s at ((n - 13) ∷ []) rest e' inside 0 (omega arith) in
      let v : 13 + get_or s at 0 ≡ n = omega (arith, rw add-zero at b) in
      rw (nibble_one n h l, x, le-ltb (length s - at) 1 room, v) refl

  read_two : 269 ≤ n → extended over most s at (nibble_of n) ≡ given (record { value = n; next = at + length (extension_of n) })
  unfolding extended
  read_two h =
      let x = extension_two n h in
      let e' : drop at s ≡ (((n - 269) / 256) ∷ ((n - 269) % 256) ∷ []) ++ rest = e ∙ ap (λ (v : List ℕ). v ++ rest) x in
      let room : 2 ≤ length s - at = omega (arith, fits s at (((n - 269) / 256) ∷ ((n - 269) % 256) ∷ []) rest e' inside) in
      let b : get_or s (at + 0) 0 ≡ (n - 269) / 256 = byte s at (((n - 269) / 256) ∷ ((n - 269) % 256) ∷ []) rest e' inside 0 (omega arith) in
      let d : get_or s (at + 1) 0 ≡ (n - 269) % 256 = byte s at (((n - 269) / 256) ∷ ((n - 269) % 256) ∷ []) rest e' inside 1 (omega arith) in
      let v : 269 + (get_or s at 0 * 256 + get_or s (at + 1) 0) ≡ n = omega (arith, rw add-zero at b, d) in
      rw (nibble_two n h, x, le-ltb (length s - at) 2 room, v, le-ltb most n under) refl

  pub reads_back : extended over most s at (nibble_of n) ≡ given (record { value = n; next = at + length (extension_of n) })
  reads_back = by_lt n 13 read_none (λ h. by_lt n 269 (read_one h) read_two)

-- An option at a position: the record that is found there, what follows it, and that it means the option.
pub record Finds (s : List ℕ) (number at : ℕ) (o : Opt) (rest : List ℕ) : Type 0 where
  pub found : OptionRecord
  pub is : place_at 65804 s number at ≡ given (option found)
  pub after : drop (end found) s ≡ rest
  pub inside : end found ≤ length s
  pub home : found.home ≡ Datagram
  pub means : option_in s found ≡ o

join : (a b c d : List ℕ) → (a ++ (b ++ c)) ++ d ≡ a ++ (b ++ (c ++ d))
join a b c d = simp append_assoc

-- The bytes of an option, piece by piece.
pieces : (d : ℕ) (v rest : List ℕ) → List ℕ
pieces d v rest = (nibble_of d * 16 + nibble_of (length v)) ∷ (extension_of d ++ (extension_of (length v) ++ (v ++ rest)))

finds_pieces : (s : List ℕ) (number at d : ℕ) (v rest : List ℕ) → number + d ≤ 65535 → length v ≤ 65804 → drop at s ≡ pieces d v rest → at ≤ length s
    → Finds s number at (record { number = number + d; value = v }) rest
unfolding pieces place_at option_at length_at value_at
finds_pieces s number at d v rest low short e inside =
    let h : ℕ = nibble_of d * 16 + nibble_of (length v) in
    let R₁ : List ℕ = extension_of d ++ (extension_of (length v) ++ (v ++ rest)) in
    let p₁ : drop (at + 1) s ≡ R₁ = past s at (h ∷ []) R₁ e inside in
    let f₁ : at + 1 ≤ length s = fits s at (h ∷ []) R₁ e inside in
    let x₁ = reads_back 3 65535 s (at + 1) d (extension_of (length v) ++ (v ++ rest)) p₁ f₁ (omega arith) (omega arith) in
    let a₂ : ℕ = at + 1 + length (extension_of d) in
    let p₂ : drop a₂ s ≡ extension_of (length v) ++ (v ++ rest) = past s (at + 1) (extension_of d) (extension_of (length v) ++ (v ++ rest)) p₁ f₁ in
    let f₂ : a₂ ≤ length s = fits s (at + 1) (extension_of d) (extension_of (length v) ++ (v ++ rest)) p₁ f₁ in
    let x₂ = reads_back 4 65804 s a₂ (length v) (v ++ rest) p₂ f₂ short short in
    let a₃ : ℕ = a₂ + length (extension_of (length v)) in
    let p₃ : drop a₃ s ≡ v ++ rest = past s a₂ (extension_of (length v)) (v ++ rest) p₂ f₂ in
    let f₃ : a₃ ≤ length s = fits s a₂ (extension_of (length v)) (v ++ rest) p₂ f₂ in
    let b : get_or s (at + 0) 0 ≡ h = byte s at (h ∷ []) R₁ e inside 0 (omega arith) in
    let first : get_or s at 0 ≡ h = rw add-zero at b in
    let high : get_or s at 0 / 16 ≡ nibble_of d = omega (arith, nibble_small d, nibble_small (length v)) in
    let low-nibble : get_or s at 0 % 16 ≡ nibble_of (length v) = omega (arith, nibble_small d, nibble_small (length v)) in
    let no-mark : get_or s at 0 < 255 = omega (arith, nibble_small d, nibble_small (length v)) in
    let ends : a₃ + length v ≤ length s = fits s a₃ v rest p₃ f₃ in
    let room : length v ≤ length s - a₃ = omega arith in
    let here : at < length s = omega arith in
    record {
      found = record { number = number + d; home = Datagram; spare = 0; start = a₃; len = length v };
      is = rw (lt-leb (length s) at here, ne_eqb (get_or s at 0) 255 (λ q. omega arith), high, low-nibble, x₁, x₂, le-ltb 65535 (number + d) low, le-ltb (length s - a₃) (length v) room) refl;
      after = past s a₃ v rest p₃ f₃;
      inside = ends;
      home = refl;
      means = ap (λ (l : List ℕ). record { number = number + d; value = l }) (names s a₃ v rest p₃ f₃);
    }

finds : (s : List ℕ) (number at : ℕ) (o : Opt) (rest : List ℕ) → number ≤ o.number → o.number ≤ 65535 → length o.value ≤ 65804
    → drop at s ≡ option_layout number o ++ rest → at ≤ length s → Finds s number at o rest
unfolding option_layout pieces
finds s number at o rest rises low short e inside =
    let n : number + (o.number - number) ≡ o.number = omega arith in
    let whole : drop at s ≡ pieces (o.number - number) o.value rest =
    e ∙ ap (λ (l : List ℕ). (nibble_of (o.number - number) * 16 + nibble_of (length o.value)) ∷ l) (join (extension_of (o.number - number)) (extension_of (length o.value)) o.value rest) in
    subst (λ (k : ℕ). Finds s number at (record { number = k; value = o.value }) rest) n
    (finds_pieces s number at (o.number - number) o.value rest (omega arith) short whole inside)

-- Options and payload from a position: the tail that is read there, and that it means them.
pub record Reads (s : List ℕ) (room number at : ℕ) (os : List Opt) (pl : List ℕ) : Type 0 where
  pub tail : Tail
  pub is : options 65804 s room number at ≡ given tail
  pub homes : InDatagram tail.records
  pub means : map (option_in s) tail.records ≡ os
  pub payload : bytes_in s tail.payload (length s - tail.payload) ≡ pl
  pub alone : both tail.marked (eqb tail.payload (length s)) ≡ false

module _ (s : List ℕ) where
  reads_end : (room number at : ℕ) (pl : List ℕ) → drop at s ≡ payload_layout pl → at ≤ length s → Reads s room number at [] pl
  unfolding place_at
  reads_end room number at [] e inside =
      let long : length s ≤ at = omega (arith, sym (length-drop at s) ∙ ap length e) in
      let none_left : length s - length s ≡ 0 = omega arith in
      record {
        tail = record { records = []; marked = false; payload = length s };
        is = options_ended 65804 s room number at false (length s) (rw (le-leb (length s) at long) refl);
        homes = tt;
        means = refl;
        payload = rest_bytes s (length s) (omega arith) ∙ drop-length s;
        alone = refl;
      }
  reads_end room number at (x ∷ pl) e inside =
      let b : get_or s (at + 0) 0 ≡ 255 = byte s at (255 ∷ []) (x ∷ pl) e inside 0 (omega arith) in
      let first : get_or s at 0 ≡ 255 = rw add-zero at b in
      let p : drop (at + 1) s ≡ x ∷ pl = past s at (255 ∷ []) (x ∷ pl) e inside in
      let f : at + 1 ≤ length s = fits s at (255 ∷ []) (x ∷ pl) e inside in
      let here : at < length s = omega arith in
      let more : at + 1 < length s = omega (arith, sym (length-drop (at + 1) s) ∙ ap length p) in
      record {
        tail = record { records = []; marked = true; payload = at + 1 };
        is = options_ended 65804 s room number at true (at + 1) (rw (lt-leb (length s) at here, eq-eqb (get_or s at 0) 255 first) refl);
        homes = tt;
        means = refl;
        payload = rest_bytes s (at + 1) f ∙ p;
        alone = ne_eqb (at + 1) (length s) (λ q. omega arith);
      }

  pub reads : (os : List Opt) (room number at : ℕ) (pl : List ℕ) → length os ≤ room → Rising number os → Options os
      → drop at s ≡ options_layout number os ++ payload_layout pl → at ≤ length s → Reads s room number at os pl
  reads [] room number at pl count rising fine e inside = reads_end room number at pl e inside
  reads (o ∷ os) zero number at pl count rising fine e inside = absurd (not-suc-le-zero count)
  reads (o ∷ os) (suc room) number at pl count rising fine e inside =
      let more = options_layout o.number os ++ payload_layout pl in
      let f = finds s number at o more rising.0 fine.0 fine.1 (e ∙ append_assoc (option_layout number o) (options_layout o.number os) (payload_layout pl)) inside in
      let same : f.found.number ≡ o.number = ap (λ (p : Opt). p.number) f.means in
      let r = reads os room o.number (end f.found) pl (le_of_suc-le-suc count) rising.1 fine.3 f.after f.inside in
      record {
        tail = record { records = f.found ∷ r.tail.records; marked = r.tail.marked; payload = r.tail.payload };
        is = options_more 65804 s room number at f.found f.is ∙ (rw (same, r.is) refl);
        homes = (f.home, r.homes);
        means = λ i. f.means i ∷ r.means i;
        payload = r.payload;
        alone = r.alone;
      }

-- The header of a message, as its four bytes say it.
abbrev raw : Message → HeaderRaw
raw m = record { ver_type_tkl = m.version * 64 + m.type * 16 + length m.token; code = m.code; message_id = m.id }

abbrev body : Message → List ℕ
body m = m.token ++ (options_layout 0 m.options ++ payload_layout m.payload)

layout_is : (m : Message) → layout m ≡ raw_bytes (raw m) ++ body m
unfolding layout header_layout
layout_is m = refl

-- An empty message has four bytes.
bare_length : (m : Message) → Bare m → length (body m) ≡ 0
bare_length m b = rw (b.token, b.options, b.payload) refl

module _ (m : Message) (w : WellFormed m) where
  s : List ℕ
  s = raw_bytes (raw m) ++ body m

  from : drop 4 s ≡ m.token ++ (options_layout 0 m.options ++ payload_layout m.payload)
  unfolding s
  from = refl

  long : 4 ≤ length s
  unfolding s
  long = omega arith

  token_is : token_of (raw m) ≡ length m.token
  token_is = omega (arith, w.type, w.token_length)

  version_is : version_of (raw m) ≡ 1
  version_is = omega (arith, w.version, w.type, w.token_length)

  token_fits : 4 + length m.token ≤ length s
  token_fits = fits s 4 m.token (options_layout 0 m.options ++ payload_layout m.payload) from long

  tail_reads : Reads s 128 0 (4 + length m.token) m.options m.payload
  tail_reads =
      reads s m.options 128 0 (4 + length m.token) m.payload w.count w.rising w.options
      (past s 4 m.token (options_layout 0 m.options ++ payload_layout m.payload) from long) token_fits

  carries : both (eqb m.code 0) (either (ltb 4 (length s)) (not (eqb (token_of (raw m)) 0))) ≡ false
  unfolding s
  carries =
      by_eq m.code 0
      (λ e.
      let b = w.empty e in
      let short : length (raw_bytes (raw m) ++ body m) ≤ 4 = omega (arith, bare_length m b) in
      let no-token : token_of (raw m) ≡ 0 = token_is ∙ ap length b.token in
      rw (eq-eqb m.code 0 e, le-ltb 4 (length (raw_bytes (raw m) ++ body m)) short, eq-eqb (token_of (raw m)) 0 no-token) refl)
      (λ e. rw (ne_eqb m.code 0 e) refl)

  means_it : meant s (raw m) tail_reads.tail ≡ m
  unfolding meant
  means_it =
      let version : version_of (raw m) ≡ m.version = version_is ∙ sym w.version in
      let type : (raw m).ver_type_tkl / 16 % 4 ≡ m.type = omega (arith, w.type, w.token_length) in
      let token : bytes_in s 4 (token_of (raw m)) ≡ m.token =
      ap (bytes_in s 4) token_is ∙ names s 4 m.token (options_layout 0 m.options ++ payload_layout m.payload) from long in
      λ i.
      record { version = version i; type = type i; code = m.code; id = m.id; token = token i; options = tail_reads.means i; payload = tail_reads.payload i }

  after_reads : after_header true s (raw m) ≡ given (packet_of s (raw m) tail_reads.tail)
  unfolding after_header finished
  after_reads =
      let inside : 4 + token_of (raw m) ≤ length s = omega (arith, token_is, token_fits) in
      let short : token_of (raw m) ≤ 8 = omega (arith, token_is, w.token_length) in
      let options-read : options 65804 s 128 0 (4 + token_of (raw m)) ≡ given tail_reads.tail =
      ap (λ (k : ℕ). options 65804 s 128 0 (4 + k)) token_is ∙ tail_reads.is in
      rw (eq-eqb (version_of (raw m)) 1 version_is, le-ltb 8 (token_of (raw m)) short, le-ltb (length s) (4 + token_of (raw m)) inside, carries, options-read, tail_reads.alone) refl

-- The packet that strict reading gives for the layout of a message, and that it means the message, whatever the edit
-- store holds.
pub record ReadsBack (m : Message) : Type 0 where
  pub packet : Packet
  pub is : reading true (layout m) ≡ given packet
  pub means : (edits : List ℕ) → meaning (stores (layout m) edits) packet ≡ m

pub reads_layout : (m : Message) → WellFormed m → length (layout m) ≤ 70000 → ReadsBack m
unfolding reading s
reads_layout m w fits =
    let same : layout m ≡ raw_bytes (raw m) ++ body m = layout_is m in
    let here : length (raw_bytes (raw m) ++ body m) ≤ 70000 = omega (arith, ap length same) in
    let t = (tail_reads m w).tail in
    record {
      packet = packet_of (s m w) (raw m) t;
      is = rw (same, le-ltb 70000 (length (raw_bytes (raw m) ++ body m)) here, raw_back (raw m) (body m)) (after_reads m w);
      means = λ edits. rw same (is_meant (s m w) edits (raw m) t (tail_reads m w).homes ∙ means_it m w);
    }
