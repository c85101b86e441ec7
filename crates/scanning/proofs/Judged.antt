-- Judging a datagram says what reading it says, and what was judged is the flat form of the packet that is read.
use Prim.Native.Nat.{ℕ, suc, ◌+◌, ◌-◌, ◌*◌, ◌/◌, ◌<◌, ◌≤◌}
use mathlib.Core.Path.{◌≡◌, refl, sym, ap, subst, ◌∙◌}
use mathlib.Core.Bool.{Bool, true, false, not}
use mathlib.Core.List.{List, [], ◌∷◌, ◌++◌, append-nil}
use native.Mathlib.Omega.{arith}
use lib.ListN.{length, get_or, take, set, length-set, length-append}
use lib.Seq.{sets, get_or-set_same, get_or-set_other, take-append-le, take-append_seam}
use lib.Dec.{eqb, ltb}
use borrow.Author.Tests.{le-leb, lt-leb, not-false}
use Rattle.ground.specs.Choice.{both, either}
use Rattle.ground.specs.Part.{Bytes}
use Rattle.ground.proofs.Choice.{on, on_lt, by_lt}
use Rattle.refusal.specs.Answer.{Answer, given, refused, onward, after}
use Rattle.refusal.proofs.Answers.{Given, given_onward, on_given}
use Rattle.class.proofs.Class.{byte_back}
use Rattle.header.specs.Header.{raw_in, header_of, version_of, token_of}
use Rattle.header.specs.declared.HeaderRaw.{HeaderRaw}
use Rattle.header.proofs.Raw.{number_back}
use Rattle.packet.specs.Packet.{records_of}
use Rattle.packet.specs.declared.Packet.{Packet}
use Rattle.packet.specs.declared.OptionRecord.{OptionRecord}
use Rattle.option_reading.specs.Option.{ended, option, place_at, end}
use Rattle.reading.specs.Options.{Tail, options}
use Rattle.reading.specs.Headed.{good_header, headed}
use Rattle.reading.specs.Reading.{longest, packet_of, finished, reading}
use Rattle.reading.proofs.Accept.{records_found, found as follows}
use Rattle.reading.proofs.Headed.{Opened, headed_opens}
use Rattle.reading.proofs.Taken.{Taken, taken}
use Rattle.reading.proofs.Walk.{ahead, ahead_none, ahead_before, options_refused, options_ended, options_full, options_more}
use Rattle.flat.specs.Flat.{flat_head, flat_records}
use Rattle.flat.proofs.Flat.{no_room, puts}
use Rattle.scanning.specs.Scanning.{Span, last_end, span_of, judged, scanned, flat_read}
use Rattle.scanning.proofs.Plain.{last_end_lem}
use Rattle.scanning.specs.Plain.{head_in, start, found, options_from, spanned, spans, Places, stands, Open}

-- The walk that notes places. Before an option: the whole answer is that of what is left with the options so far put before it,
-- whose places are noted.
module _ (longest : ℕ) (s : List ℕ) (from : ℕ) where
  pub record Going (places : List ℕ) (count number at : ℕ) : Type 0 where
    pub passed : List OptionRecord
    pub counted : count ≡ length passed
    pub room : count ≤ 128
    pub inside : at ≤ length s
    pub whole : options longest s 128 0 from ≡ ahead passed (options longest s (128 - count) number at)
    pub ends : at ≡ last_end from passed
    pub noted : Places from passed places

  pub going_start : (places : List ℕ) → from ≤ length s → Going places 0 0 from
  going_start places h =
      record {
        passed = [];
        counted = refl;
        room = omega arith;
        inside = h;
        whole = ahead_none (options longest s 128 0 from);
        ends = refl;
        noted = λ k l r. absurd (omega (arith, l));
      }

  module _ (places : List ℕ) (count number at : ℕ) (g : Going places count number at) where
    noted_more : (r : OptionRecord) → Places from (g.passed ++ (r ∷ [])) (set places count at)
    noted_more r k l z =
        let rs = g.passed in
        let n = g.counted in
        let y : k < length places = omega (arith, z, length-set places count at) in
        by_lt k (length rs)
        (λ m. get_or-set_other places count k at 0 (λ e. omega (arith, e, m, n)) ∙ (g.noted k m y ∙ ap (last_end from) (sym (take-append-le k rs (r ∷ []) (omega arith)))))
        (λ m.
        let e : k ≡ length rs = omega (arith, l, length-append rs (r ∷ [])) in
        ap (λ (i : ℕ). get_or (set places count at) i 0) (e ∙ sym n)
        ∙ (get_or-set_same places count at 0 (omega (arith, y, e, n))
        ∙ (g.ends ∙ ap (last_end from) (sym (take-append_seam rs (r ∷ [])) ∙ ap (λ (i : ℕ). take i (rs ++ (r ∷ []))) (sym e)))))

    pub going_turn : (r : OptionRecord) → place_at longest s number at ≡ given (option r) → count < 128 → end r ≤ length s
        → Going (set places count at) (count + 1) r.number (end r)
    going_turn r e h inside =
        let left : 128 - count ≡ suc (128 - (count + 1)) = omega arith in
        record {
          passed = g.passed ++ (r ∷ []);
          counted = simp length-append (omega (arith, g.counted));
          room = omega arith;
          inside = inside;
          whole = g.whole ∙ (rw left (ap (ahead g.passed) (options_more longest s (128 - (count + 1)) number at r e))
              ∙ ahead_before g.passed r (options longest s (128 - (count + 1)) r.number (end r)));
          ends = sym (last_end_lem from g.passed r);
          noted = noted_more r;
        }

    pub going_refuses : (k : ℕ) → place_at longest s number at ≡ refused k → options longest s 128 0 from ≡ refused k
    going_refuses k e = g.whole ∙ ap (ahead g.passed) (options_refused longest s (128 - count) number at k e)

    pub going_overflows : (r : OptionRecord) → place_at longest s number at ≡ given (option r) → 128 ≤ count → options longest s 128 0 from ≡ refused 6
    going_overflows r e h =
        let left : 128 - count ≡ 0 = omega arith in
        g.whole ∙ rw left (ap (ahead g.passed) (options_full longest s number at r e))

    pub going_ends : (marked : Bool) (payload : ℕ) → place_at longest s number at ≡ given (ended marked payload)
        → options longest s 128 0 from ≡ given (record { records = g.passed; marked = marked; payload = payload })
    going_ends marked payload e =
        g.whole ∙ (ap (ahead g.passed) (options_ended longest s (128 - count) number at marked payload e)
        ∙ ap (λ (l : List OptionRecord). given (record { records = l; marked = marked; payload = payload })) (append-nil g.passed))

-- What a walk tells at its end.
pub told : (strict : Bool) (s : List ℕ) (start most : ℕ) (places : List ℕ) → most ≡ longest strict → (t : Answer Tail) → options most s 128 0 start ≡ t
    → (a : Answer Span) → a ≡ onward t (spanned strict s start) → Places start (found t) places
    → (a ≡ spans strict s start) × Places start (options_from strict s start) places
told strict s start most places m t e a p q =
    let f : options (longest strict) s 128 0 start ≡ t = ap (λ (n : ℕ). options n s 128 0 start) (sym m) ∙ e in
    (p ∙ ap (λ (x : Answer Tail). onward x (spanned strict s start)) (sym f), subst (λ (x : Answer Tail). Places start (found x) places) (sym f) q)

pub told_refused : (strict : Bool) (s : List ℕ) (start most : ℕ) (places : List ℕ) → most ≡ longest strict → (k : ℕ) → options most s 128 0 start ≡ refused k
    → (refused k ≡ spans strict s start) × Places start (options_from strict s start) places
told_refused strict s start most places m k e = told strict s start most places m (refused k) e (refused k) refl (λ i l r. absurd (omega (arith, l)))

-- The span of an end that is no bare marker in strict mode, and the refusal of one that is.
module _ (strict : Bool) (s : List ℕ) (start : ℕ) (t : Tail) where
  pub spanned_alone : both strict (both t.marked (eqb t.payload (length s))) ≡ true → refused 9 ≡ spanned strict s start t
  unfolding spanned
  spanned_alone e = rw e

  pub spanned_well : both strict (both t.marked (eqb t.payload (length s))) ≡ false
      → given (record { count = length t.records; end = last_end start t.records; payload = t.payload }) ≡ spanned strict s start t
  unfolding spanned
  spanned_well e = rw e

-- The span of what was found is that of the packet.
pub spanned_is : (strict : Bool) (s : List ℕ) (raw : HeaderRaw) (a : Answer Tail)
    → onward a (spanned strict s (4 + token_of raw)) ≡ onward (onward a (finished strict s raw)) (λ p. given (span_of p))
unfolding spanned finished packet_of
spanned_is strict s raw (given t) =
    on (λ (a : Answer Span). a ≡ onward (finished strict s raw t) (λ p. given (span_of p))) (both strict (both t.marked (eqb t.payload (length s))))
    (λ e. rw e) (λ e. rw (e, records_found s raw t))
spanned_is strict s raw (refused k) = refl

-- What judging answers, and what of reading.
pub refused_read : {A : Type 0} (a : Answer Packet) (f : Packet → A) (k : ℕ) → refused k ≡ onward a (λ p. given (f p)) → a ≡ refused k
refused_read (given p) f k e = let z : ◌≡◌ {A = ℕ} 0 1 = cc in absurd (omega arith)
refused_read (refused j) f k e = cc

pub given_read : (a : Answer Packet) (m : Span) → given m ≡ onward a (λ p. given (span_of p)) → (p : Packet) × (a ≡ given p) × (m ≡ span_of p)
given_read (given p) m e = (p, refl, cc)
given_read (refused k) m e = let z : ◌≡◌ {A = ℕ} 0 1 = cc in absurd (omega arith)

-- The first four bytes of a datagram as its raw header, which is what reading takes for its header.
abbrev pub raw_header_at : List ℕ → HeaderRaw
raw_header_at s = record { ver_type_tkl = get_or s 0 0; code = get_or s 1 0; message_id = get_or s 2 0 * 256 + get_or s 3 0 }

raw_at : (s : List ℕ) → Given (λ (raw : HeaderRaw). raw ≡ raw_header_at s) (raw_in s)
unfolding raw_in
raw_at s = on_lt (Given (λ (raw : HeaderRaw). raw ≡ raw_header_at s)) (length s) 4 (λ h. tt) (λ h. refl)

pub headed_at : (strict : Bool) (s : List ℕ) → Given (λ (raw : HeaderRaw). raw ≡ raw_header_at s) (headed strict s)
unfolding headed good_header
headed_at strict s =
    let P : HeaderRaw → Type 0 = λ raw. raw ≡ raw_header_at s in
    on (Given P) (ltb 70000 (length s)) (λ h. tt)
    (λ h. given_onward P P (raw_in s) _ (raw_at s)
    (λ raw e. on (Given P) (both strict (not (eqb (version_of raw) 1))) (λ f. tt)
    (λ f. on (Given P) (either (ltb 8 (token_of raw)) (ltb (length s) (4 + token_of raw))) (λ f. tt)
    (λ f. on (Given P) (both strict (both (eqb raw.code 0) (either (ltb 4 (length s)) (not (eqb (token_of raw) 0))))) (λ f. tt) (λ f. e)))))

-- A header that is refused refuses the datagram, and a good one leaves it to the options.
module _ (strict : Bool) (s : List ℕ) where
  pub headed_refused : (k : ℕ) → headed strict s ≡ refused k → reading strict s ≡ refused k
  headed_refused k e = (subst (Opened strict s (reading strict s)) e (headed_opens strict s)).is

  pub headed_open : (raw : HeaderRaw) → headed strict s ≡ given raw → Open strict s (4 + token_of raw)
  headed_open raw e =
      let o = subst (Opened strict s (reading strict s)) e (headed_opens strict s) in
      let first : raw ≡ raw_header_at s = on_given (λ (r : HeaderRaw). r ≡ raw_header_at s) (headed strict s) raw (headed_at strict s) e in
      record {
        is = ap (λ (r : HeaderRaw). 4 + token_of r) first;
        inside = o.roomy.0;
        short = o.roomy.1;
        rest = ap (λ (x : Answer Packet). onward x (λ p. given (span_of p))) o.is
            ∙ sym (spanned_is strict s raw (options (longest strict) s 128 0 (4 + token_of raw)));
      }

never : (strict : Bool) → both strict false ≡ false
never true = refl
never false = refl

-- Where no option stands there are none: the walk ends at the datagram's end, or with the marker.
module _ (strict : Bool) (s : List ℕ) (at : ℕ) where
  none_at_end : at ≤ length s → length s ≤ at → options (longest strict) s 128 0 at ≡ given (record { records = []; marked = false; payload = at })
  unfolding place_at
  none_at_end i h =
      let e : length s ≡ at = omega arith in
      options_ended (longest strict) s 128 0 at false at (rw (le-leb (length s) at h) (ap (λ (n : ℕ). given (ended false n)) e))

  marked_at : at < length s → stands s at ≡ false → options (longest strict) s 128 0 at ≡ given (record { records = []; marked = true; payload = at + 1 })
  unfolding place_at stands
  marked_at h n =
      let b = lt-leb (length s) at h in
      let m : eqb (get_or s at 0) 255 ≡ true = not-false (eqb (get_or s at 0) 255) (rw b at n) in
      options_ended (longest strict) s 128 0 at true (at + 1) (rw (b, m))

  none_stand : at ≤ length s → stands s at ≡ false → options_from strict s at ≡ []
  none_stand i n = by_lt at (length s) (λ h. ap found (marked_at h n)) (λ h. ap found (none_at_end i h))

  pub none_found : Open strict s at → stands s at ≡ false → options_from strict s (start s) ≡ []
  none_found o n = ap (options_from strict s) (sym o.is) ∙ none_stand o.inside n

  spans_as : (t : Tail) → options (longest strict) s 128 0 at ≡ given t → spans strict s at ≡ spanned strict s at t
  spans_as t e = ap (λ (x : Answer Tail). onward x (spanned strict s at)) e

  -- What is told of them.
  pub bare_end : at ≤ length s → length s ≤ at → given (record { count = 0; end = at; payload = at }) ≡ spans strict s at
  bare_end i h =
      let t : Tail = record { records = []; marked = false; payload = at } in
      spanned_well strict s at t (never strict) ∙ sym (spans_as t (none_at_end i h))

  pub bare_alone : at < length s → stands s at ≡ false → both strict (eqb (at + 1) (length s)) ≡ true → refused 9 ≡ spans strict s at
  bare_alone h n e =
      let t : Tail = record { records = []; marked = true; payload = at + 1 } in
      spanned_alone strict s at t e ∙ sym (spans_as t (marked_at h n))

  pub bare_well : at < length s → stands s at ≡ false → both strict (eqb (at + 1) (length s)) ≡ false
      → given (record { count = 0; end = at; payload = at + 1 }) ≡ spans strict s at
  bare_well h n e =
      let t : Tail = record { records = []; marked = true; payload = at + 1 } in
      spanned_well strict s at t e ∙ sym (spans_as t (marked_at h n))

-- The numbers before the options, of the packet that is read.
head_is : (s : List ℕ) (t : Tail) → let p = packet_of s (raw_header_at s) t in head_in s t.payload (length t.records) ≡ flat_head p.header p.token p.payload (length t.records)
unfolding packet_of header_of
head_is s t = rw (number_back (get_or s 0 0 / 16), byte_back (get_or s 1 0))

-- A datagram that was judged good: the packet that is read, and what is needed to put its flat form.
pub record Good (strict : Bool) (s : List ℕ) (m : Span) : Type 0 where
  pub packet : Packet
  pub read : reading strict s ≡ given packet
  pub long : 4 ≤ length s
  pub token : start s ≤ length s
  pub short : length s ≤ 70000
  pub few : m.count ≤ 128
  pub payload : m.payload ≤ length s
  pub records : options_from strict s (start s) ≡ records_of packet
  pub count : m.count ≡ length (records_of packet)
  pub head : head_in s m.payload m.count ≡ flat_head packet.header packet.token packet.payload (length (records_of packet))

good_as : (strict : Bool) (s : List ℕ) (m : Span) (p : Packet) (t : Tail) → reading strict s ≡ given p → 4 ≤ length s → start s ≤ length s → length s ≤ 70000
    → p ≡ packet_of s (raw_header_at s) t → records_of p ≡ t.records → options (longest strict) s 128 0 (start s) ≡ given t → m ≡ span_of (packet_of s (raw_header_at s) t)
    → length t.records ≤ 128 → t.payload ≤ length s → Good strict s m
unfolding packet_of
good_as strict s m p t read long token short is records found_All span few inside =
    let count : m.count ≡ length t.records = ap (λ (x : Span). x.count) span in
    let payload : m.payload ≡ t.payload = ap (λ (x : Span). x.payload) span in
    record {
      packet = p;
      read = read;
      long = long;
      token = token;
      short = short;
      few = rw count few;
      payload = rw payload inside;
      records = ap found found_All ∙ sym records;
      count = count ∙ ap length (sym records);
      head = rw (count, payload, records, is) (head_is s t);
    }

pub good : (strict : Bool) (s : List ℕ) → Bytes s → (m : Span) → given m ≡ judged strict s → Good strict s m
good strict s b m e =
    let g = given_read (reading strict s) m e in
    let p = g.0 in
    let k = on_given (Taken strict s) (reading strict s) p (taken strict s b) g.1 in
    let t = k.tail in
    let f = follows strict s b p k in
    let raw : k.raw ≡ raw_header_at s = on_given (λ (raw : HeaderRaw). raw ≡ raw_header_at s) (raw_in s) k.raw (raw_at s) k.header in
    let is : p ≡ packet_of s (raw_header_at s) t = k.packet ∙ ap (λ (raw : HeaderRaw). packet_of s raw t) raw in
    let records : records_of p ≡ t.records = ap records_of is ∙ records_found s (raw_header_at s) t in
    let read : options (longest strict) s 128 0 (start s) ≡ given t = ap (λ (raw : HeaderRaw). options (longest strict) s 128 0 (4 + token_of raw)) (sym raw) ∙ k.options in
    let span : m ≡ span_of (packet_of s (raw_header_at s) t) = g.2 ∙ ap span_of is in
    good_as strict s m p t g.1 k.small.long (rw raw at k.token_inside) k.fits is records read span f.count f.inside

-- What scanning shows: a refusal, too little room, and the head and the options put one after the other.
module _ (strict : Bool) (s old : List ℕ) where
  pub scan_refused : (k : ℕ) → reading strict s ≡ refused k
      → (refused k ≡ scanned strict (length old) s) × (old ≡ after (scanned strict (length old) s) 0 (flat_read strict s) old)
  scan_refused k e = rw e (refl, refl)

  module _ (m : Span) (g : Good strict s m) where
    pub scan_full : length old < 11 + 4 * m.count
        → (refused 12 ≡ scanned strict (length old) s) × (old ≡ after (scanned strict (length old) s) 0 (flat_read strict s) old)
    scan_full h = rw g.read (no_room g.packet old (omega (arith, g.count)))

    pub scan_puts : 11 + 4 * m.count ≤ length old → (mid new : List ℕ) → mid ≡ sets old 0 (head_in s m.payload m.count)
        → new ≡ sets mid 11 (flat_records (options_from strict s (start s)))
        → (given tt ≡ scanned strict (length old) s) × (new ≡ after (scanned strict (length old) s) 0 (flat_read strict s) old)
    scan_puts h mid new a b =
        rw g.read
        (puts g.packet old mid new (omega (arith, g.count)) (a ∙ ap (sets old 0) g.head) (b ∙ ap (λ (rs : List OptionRecord). sets mid 11 (flat_records rs)) g.records))

    -- A message with no options is its head.
    pub scan_head : options_from strict s (start s) ≡ [] → 11 ≤ length old → (new : List ℕ) → new ≡ sets old 0 (head_in s m.payload m.count)
        → (given tt ≡ scanned strict (length old) s) × (new ≡ after (scanned strict (length old) s) 0 (flat_read strict s) old)
    scan_head none h new a =
        let few : m.count ≡ 0 = g.count ∙ ap length (sym g.records ∙ none) in
        scan_puts (omega arith) new new a (ap (λ (rs : List OptionRecord). sets new 11 (flat_records rs)) (sym none))
