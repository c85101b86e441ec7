-- The flat form and the packet of numbers are inverse: each packet that is made comes back, and so do the numbers that are taken.
use Prim.Native.Nat.{ℕ, zero, suc, ◌+◌, ◌-◌, ◌*◌, ◌%◌, ◌≤◌}
use mathlib.Core.Path.{◌≡◌, refl, sym, ap, ◌∙◌}
use mathlib.Core.Bool.{false}
use mathlib.Core.List.{List, [], ◌∷◌, ◌++◌}
use native.Mathlib.Omega.{arith}
use lib.ListN.{length, take, drop, get_or, replicate, length-take, take-append-drop}
use lib.Dec.{ltb}
use lib.Seq.{take-suc, take-length, take-add, drop-cons, drop-drop, get_or-append-add}
use borrow.Author.Tests.{le-ltb}
use Rattle.ground.proofs.Choice.{on, on_eq, neither, none_of}
use Rattle.refusal.specs.Answer.{Answer, given}
use Rattle.refusal.proofs.Answers.{not_refused, same_given}
use Rattle.class.specs.Class.{byte_of}
use Rattle.header.specs.Header.{number_of_type}
use Rattle.class.proofs.Class.{byte_back}
use Rattle.header.proofs.Raw.{type_small, type_back, number_back}
use Rattle.packet.specs.Packet.{none, records_of}
use Rattle.packet.specs.Shape.{Numbers, Shaped}
use Rattle.packet.specs.declared.Packet.{Packet}
use Rattle.packet.specs.declared.OptionRecord.{OptionRecord}
use Rattle.packet.specs.declared.Home.{Home}
use Rattle.packet.specs.declared.Home.TheVariants.{Datagram, Edits}
use Rattle.flat.specs.Flat.{number_of_home, flat_head, flat_records, flat}
use Rattle.flat.proofs.Flat.{flat_length}
use Rattle.unflat.specs.Made.{Spared, Made}
use Rattle.unflat.specs.Unflat.{bad_head, bad_record, bad_numbers, bad_frame, bad_flat, header_in, home_of, record_at, records_in, packet_in, unflat}
use Rattle.unflat.proofs.Unflat.{good, small, records_length, records_taken, home_small as record-home}

-- A home comes back from its number, and a number that is a home's from its home.
home_back : (h : Home) → home_of (number_of_home h) ≡ h
unfolding home_of
home_back Datagram = refl
home_back Edits = refl

home_small : (h : Home) → number_of_home h ≤ 1
home_small Datagram = omega arith
home_small Edits = omega arith

home_number : (n : ℕ) → n ≤ 1 → number_of_home (home_of n) ≡ n
unfolding home_of
home_number n h = on_eq (λ (x : Home). number_of_home x ≡ n) n 0 (λ e. sym e) (λ e. omega (arith, e))

-- A record is made of the numbers that stand for it; past the last they are 0, as in the empty record.
record_back : (rs : List OptionRecord) (m : ℕ) → Spared rs
    → record_at (flat_records rs) (4 * m) ≡ get_or rs m none
unfolding home_of
record_back [] m s = refl
record_back (r ∷ rs) zero s = λ i. record { number = r.number; home = home_back r.home i; spare = sym s.0 i; start = r.start; len = r.len }
record_back (r ∷ rs) (suc m) s =
    let a : 4 * suc m ≡ suc (suc (suc (suc (4 * m)))) = omega arith in
    let b : 4 * suc m + 1 ≡ suc (suc (suc (suc (4 * m + 1)))) = omega arith in
    let d : 4 * suc m + 2 ≡ suc (suc (suc (suc (4 * m + 2)))) = omega arith in
    let f : 4 * suc m + 3 ≡ suc (suc (suc (suc (4 * m + 3)))) = omega arith in
    rw (b, d, f, a) (record_back rs m s.1)

a_home : (rs : List OptionRecord) (m : ℕ) → get_or (flat_records rs) (4 * m + 1) 0 ≤ 1
a_home [] m = omega arith
a_home (r ∷ rs) zero = home_small r.home
a_home (r ∷ rs) (suc m) =
    let b : 4 * suc m + 1 ≡ suc (suc (suc (suc (4 * m + 1)))) = omega arith in
    rw b (a_home rs m)

number_small : (rs : List OptionRecord) (m : ℕ) → Numbers rs → (get_or rs m none).number ≤ 65535
number_small [] m h = omega arith
number_small (r ∷ rs) zero h = omega (arith, h.0)
number_small (r ∷ rs) (suc m) h = number_small rs m h.1

numbers_take : (n : ℕ) (rs : List OptionRecord) → Numbers rs → Numbers (take n rs)
numbers_take zero rs h = tt
numbers_take (suc n) [] h = tt
numbers_take (suc n) (r ∷ rs) h = (h.0, numbers_take n rs h.1)

module _ (p : Packet) (shaped : Shaped p) (made : Made p) where
  -- The record that stands in the flat form at an index.
  there : (m : ℕ) → record_at (flat p) (11 + 4 * m) ≡ get_or (records_of p) m none
  unfolding flat
  there m =
      let head = flat_head p.header p.token p.payload (length (records_of p)) in
      let rs = flat_records (records_of p) in
      let b : 11 + 4 * m + 1 ≡ 11 + (4 * m + 1) = omega arith in
      let d : 11 + 4 * m + 2 ≡ 11 + (4 * m + 2) = omega arith in
      let f : 11 + 4 * m + 3 ≡ 11 + (4 * m + 3) = omega arith in
      rw (b, d, f, get_or-append-add head rs (4 * m) 0, get_or-append-add head rs (4 * m + 1) 0, get_or-append-add head rs (4 * m + 2) 0, get_or-append-add head rs (4 * m + 3) 0)
      (record_back (records_of p) m made.spare)

  home_there : (m : ℕ) → get_or (flat p) (11 + 4 * m + 1) 0 ≤ 1
  unfolding flat
  home_there m =
      let head = flat_head p.header p.token p.payload (length (records_of p)) in
      let b : 11 + 4 * m + 1 ≡ 11 + (4 * m + 1) = omega arith in
      rw (b, get_or-append-add head (flat_records (records_of p)) (4 * m + 1) 0) (a_home (records_of p) m)

  records_back : (m : ℕ) → m ≤ length (records_of p) → records_in (flat p) m ≡ take m (records_of p)
  records_back zero h = refl
  records_back (suc m) h = rw (records_back m (omega arith), there m) (sym (take-suc (records_of p) m none h))

  in_use : length (records_of p) ≡ p.count
  in_use = omega (arith, length-take p.count p.options, shaped.array, made.count)

  count_back : get_or (flat p) 10 0 ≡ length (records_of p)
  unfolding flat
  count_back = refl

  good_head : bad_head (flat p) ≡ false
  unfolding bad_head flat
  good_head =
      rw (le-ltb 255 p.header.version (omega (arith, made.version)), le-ltb 3 (number_of_type p.header.message_type) (omega (arith, type_small p.header.message_type)), le-ltb 255 (byte_of p.header.code) (omega (arith, shaped.code)), le-ltb 65535 p.header.message_id (omega (arith, shaped.id)), le-ltb 1 (number_of_home p.token.home) (home_small p.token.home), le-ltb 1 (number_of_home p.payload.home) (home_small p.payload.home), le-ltb 128 (length (records_of p)) (omega (arith, in_use, made.count)))

  good_record : (m : ℕ) → bad_record (flat p) (11 + 4 * m) ≡ false
  unfolding bad_record
  good_record m =
      none_of (ltb 65535 (get_or (flat p) (11 + 4 * m) 0)) (ltb 1 (get_or (flat p) (11 + 4 * m + 1) 0))
      (le-ltb 65535 (get_or (flat p) (11 + 4 * m) 0)
      (rw (ap (λ (r : OptionRecord). r.number) (there m)) (number_small (records_of p) m (numbers_take p.count p.options shaped.numbers))))
      (le-ltb 1 (get_or (flat p) (11 + 4 * m + 1) 0) (home_there m))

  good_numbers : (m : ℕ) → bad_numbers (flat p) m ≡ false
  good_numbers zero = refl
  good_numbers (suc m) = none_of (bad_numbers (flat p) m) (bad_record (flat p) (11 + 4 * m)) (good_numbers m) (good_record m)

  good_flat : bad_flat (flat p) ≡ false
  unfolding bad_flat bad_frame
  good_flat =
      rw (le-ltb (length (flat p)) 11 (omega (arith, flat_length p)), good_head, count_back, le-ltb (length (flat p)) (11 + 4 * length (records_of p)) (omega (arith, flat_length p)))
      (good_numbers (length (records_of p)))

  options_back : records_in (flat p) (length (records_of p)) ++ replicate (128 - length (records_of p)) none ≡ p.options
  options_back =
      rw (records_back (length (records_of p)) (omega arith), take-length (records_of p), in_use, sym made.rest) (take-append-drop p.count p.options)

  packet_back : packet_in (flat p) ≡ p
  unfolding packet_in header_in flat
  packet_back =
      λ i.
      record {
        header =
            record {
              version = p.header.version;
              message_type = type_back p.header.message_type i;
              code = made.class i;
              message_id = p.header.message_id;
            };
        token = record { home = home_back p.token.home i; start = p.token.start; len = p.token.len };
        count = in_use i;
        options = options_back i;
        payload = record { home = home_back p.payload.home i; start = p.payload.start; len = p.payload.len };
      }

  -- A packet that is made comes back from its flat form.
  pub unflat_flat : unflat (flat p) ≡ given p
  unfolding unflat
  unflat_flat = rw good_flat (ap given packet_back)

-- So many numbers from a place on.
row : List ℕ → ℕ → ℕ → List ℕ
row l at zero = []
row l at (suc n) = get_or l at 0 ∷ row l (suc at) n

part_row : (l : List ℕ) (at n : ℕ) → at + n ≤ length l → take n (drop at l) ≡ row l at n
unfolding row
part_row l at zero h = refl
part_row l at (suc n) h =
    rw (drop-cons l at 0 (omega arith)) (ap (λ (t : List ℕ). get_or l at 0 ∷ t) (part_row l (suc at) n (omega arith)))

flat_append : (rs qs : List OptionRecord) → flat_records (rs ++ qs) ≡ flat_records rs ++ flat_records qs
flat_append [] qs = refl
flat_append (r ∷ rs) qs = ap (λ (l : List ℕ). r.number ∷ number_of_home r.home ∷ r.start ∷ r.len ∷ l) (flat_append rs qs)

-- The numbers of the first records are those that they were taken from.
records_flat : (l : List ℕ) (m : ℕ) → 11 + 4 * m ≤ length l → bad_numbers l m ≡ false → flat_records (records_in l m) ≡ take (4 * m) (drop 11 l)
unfolding row
records_flat l zero h e = refl
records_flat l (suc m) h e =
    let parts = neither (bad_numbers l m) (bad_record l (11 + 4 * m)) e in
    let home = home_number (get_or l (11 + 4 * m + 1) 0) (record-home l (11 + 4 * m) parts.1) in
    let more : 4 * suc m ≡ 4 * m + 4 = omega arith in
    let one : 11 + 4 * m + 1 ≡ suc (11 + 4 * m) = omega arith in
    let two : 11 + 4 * m + 2 ≡ suc (suc (11 + 4 * m)) = omega arith in
    let three : 11 + 4 * m + 3 ≡ suc (suc (suc (11 + 4 * m))) = omega arith in
    flat_append (records_in l m) (record_at l (11 + 4 * m) ∷ [])
    ∙ rw (more, take-add (4 * m) 4 (drop 11 l), drop-drop (4 * m) 11 l, part_row l (11 + 4 * m) 4 (omega arith), records_flat l m (omega arith) parts.0, home, one, two, three)

module _ (l : List ℕ) (bad : bad_flat l ≡ false) where
  head_taken : flat_head (packet_in l).header (packet_in l).token (packet_in l).payload (get_or l 10 0) ≡ take 11 l
  unfolding packet_in header_in row
  head_taken =
      let fields = small l (good l bad).fields in
      let low : get_or l 1 0 % 4 ≡ get_or l 1 0 = omega (arith, fields.type) in
      rw (number_back (get_or l 1 0), low, byte_back (get_or l 2 0), home_number (get_or l 4 0) fields.token, home_number (get_or l 7 0) fields.payload) (sym (part_row l 0 11 (omega (arith, (good l bad).head))))

  -- Numbers that are taken come back from their packet: the head's, and four for each record.
  pub flat_packet : flat (packet_in l) ≡ take (11 + 4 * get_or l 10 0) l
  unfolding flat
  flat_packet =
      let q = packet_in l in
      let n = get_or l 10 0 in
      ap (λ (rs : List OptionRecord). flat_head q.header q.token q.payload (length rs) ++ flat_records rs) (records_taken l)
      ∙ (ap (λ (k : ℕ). flat_head q.header q.token q.payload k ++ flat_records (records_in l n)) (records_length l n)
      ∙ (ap (λ (h : List ℕ). h ++ flat_records (records_in l n)) head_taken
      ∙ (ap (λ (t : List ℕ). take 11 l ++ t) (records_flat l n (good l bad).records (good l bad).numbers) ∙ sym (take-add 11 (4 * n) l))))

pub flat_unflat : (l : List ℕ) (p : Packet) → unflat l ≡ given p → flat p ≡ take (11 + 4 * p.count) l
unfolding unflat packet_in
flat_unflat l p =
    on (λ (a : Answer Packet). a ≡ given p → flat p ≡ take (11 + 4 * p.count) l) (bad_flat l) (λ t e. not_refused (sym e))
    (λ t e. let q : packet_in l ≡ p = same_given e in rw (sym q) (flat_packet l t))
