-- Laws of numbers that are to be a packet: what makes them one, and how its records are filled in.
use Prim.Native.Nat.{ℕ, zero, suc, ◌+◌, ◌-◌, ◌*◌, ◌<◌, ◌≤◌}
use mathlib.Core.Path.{◌≡◌, refl, sym, ap, ◌∙◌}
use mathlib.Core.Bool.{true, false}
use mathlib.Core.List.{List, [], ◌∷◌, ◌++◌, append_assoc}
use native.Mathlib.Numerals.{add-one}
use native.Mathlib.Omega.{arith}
use lib.ListN.{length, get_or, set, replicate, length-append}
use lib.Seq.{set_at, take_at}
use lib.Dec.{ltb}
use borrow.Author.Tests.{ltb-false}
use Rattle.ground.proofs.Choice.{by_eq, neither, none_of, either_right}
use Rattle.packet.specs.Packet.{none, records_of}
use Rattle.packet.specs.declared.OptionRecord.{OptionRecord}
use Rattle.unflat.specs.Unflat.{bad_head, bad_record, bad_numbers, bad_frame, bad_flat, record_at, records_in, packet_in}

-- One bad record makes all bad.
pub bad_by : (l : List ℕ) (n i : ℕ) → i < n → bad_record l (11 + 4 * i) ≡ true → bad_numbers l n ≡ true
bad_by l zero i h b = let z : ◌≡◌ {A = ℕ} 0 1 = omega arith in cc
bad_by l (suc n) i h b =
    by_eq i n
    (λ e. either_right (bad_numbers l n) (bad_record l (11 + 4 * n)) (rw e at b))
    (λ e. rw (bad_by l n i (omega arith) b))

pub good_more : (l : List ℕ) (i : ℕ) → bad_numbers l i ≡ false → bad_record l (11 + 4 * i) ≡ false → bad_numbers l (i + 1) ≡ false
good_more l i e h = rw add-one (none_of (bad_numbers l i) (bad_record l (11 + 4 * i)) e h)

pub good_record : (l : List ℕ) (n i : ℕ) → bad_numbers l n ≡ false → i < n → bad_record l (11 + 4 * i) ≡ false
good_record l zero i e h = let z : ◌≡◌ {A = ℕ} 0 1 = omega arith in cc
good_record l (suc n) i e h =
    let both = neither (bad_numbers l n) (bad_record l (11 + 4 * n)) e in
    by_eq i n
    (λ q. rw q both.1)
    (λ q. good_record l n i both.0 (omega arith))

-- A good record: the fields hold its number and its home.
module _ (l : List ℕ) (at : ℕ) (e : bad_record l at ≡ false) where
  pub number_small : get_or l at 0 ≤ 65535
  unfolding bad_record
  number_small = ltb-false 65535 (get_or l at 0) (neither (ltb 65535 (get_or l at 0)) (ltb 1 (get_or l (at + 1) 0)) e).0

  pub home_small : get_or l (at + 1) 0 ≤ 1
  unfolding bad_record
  home_small = ltb-false 1 (get_or l (at + 1) 0) (neither (ltb 65535 (get_or l at 0)) (ltb 1 (get_or l (at + 1) 0)) e).1

-- The fields hold their numbers.
pub record Small (l : List ℕ) : Type 0 where
  pub version : get_or l 0 0 ≤ 255
  pub type : get_or l 1 0 ≤ 3
  pub code : get_or l 2 0 ≤ 255
  pub id : get_or l 3 0 ≤ 65535
  pub token : get_or l 4 0 ≤ 1
  pub payload : get_or l 7 0 ≤ 1
  pub count : get_or l 10 0 ≤ 128

pub small : (l : List ℕ) → bad_head l ≡ false → Small l
unfolding bad_head
small l e =
    let a = neither (ltb 255 (get_or l 0 0)) _ e in
    let b = neither (ltb 3 (get_or l 1 0)) _ a.1 in
    let c = neither (ltb 255 (get_or l 2 0)) _ b.1 in
    let d = neither (ltb 65535 (get_or l 3 0)) _ c.1 in
    let f = neither (ltb 1 (get_or l 4 0)) _ d.1 in
    let g = neither (ltb 1 (get_or l 7 0)) (ltb 128 (get_or l 10 0)) f.1 in
    record {
      version = ltb-false 255 (get_or l 0 0) a.0;
      type = ltb-false 3 (get_or l 1 0) b.0;
      code = ltb-false 255 (get_or l 2 0) c.0;
      id = ltb-false 65535 (get_or l 3 0) d.0;
      token = ltb-false 1 (get_or l 4 0) f.0;
      payload = ltb-false 1 (get_or l 7 0) g.0;
      count = ltb-false 128 (get_or l 10 0) g.1;
    }

-- A flat form as far as its head: its length and its fields.
pub record Framed (l : List ℕ) : Type 0 where
  pub head : 11 ≤ length l
  pub fields : bad_head l ≡ false
  pub records : 11 + 4 * get_or l 10 0 ≤ length l

pub framed : (l : List ℕ) → bad_frame l ≡ false → Framed l
unfolding bad_frame
framed l e =
    let a = neither (ltb (length l) 11) _ e in
    let b = neither (bad_head l) (ltb (length l) (11 + 4 * get_or l 10 0)) a.1 in
    record {
      head = ltb-false (length l) 11 a.0;
      fields = b.0;
      records = ltb-false (length l) (11 + 4 * get_or l 10 0) b.1;
    }

-- A flat form: its length, its head and its records.
pub record Good (l : List ℕ) : Type 0 where
  pub head : 11 ≤ length l
  pub fields : bad_head l ≡ false
  pub records : 11 + 4 * get_or l 10 0 ≤ length l
  pub numbers : bad_numbers l (get_or l 10 0) ≡ false

pub good : (l : List ℕ) → bad_flat l ≡ false → Good l
unfolding bad_flat
good l e =
    let both = neither (bad_frame l) (bad_numbers l (get_or l 10 0)) e in
    let f = framed l both.0 in
    record { head = f.head; fields = f.fields; records = f.records; numbers = both.1 }

pub records_length : (l : List ℕ) (n : ℕ) → length (records_in l n) ≡ n
records_length l zero = refl
records_length l (suc n) = simp length-append (omega (arith, records_length l n))

-- The records in use are those of the numbers.
pub records_taken : (l : List ℕ) → records_of (packet_in l) ≡ records_in l (get_or l 10 0)
unfolding packet_in
records_taken l = take_at (records_in l (get_or l 10 0)) (replicate (128 - get_or l 10 0) none) (get_or l 10 0) (records_length l (get_or l 10 0))

-- The array of a packet as far as its first records, and one record more in it.
abbrev pub up_to : List ℕ → ℕ → List OptionRecord
up_to l i = records_in l i ++ replicate (128 - i) none

pub one_more : (l : List ℕ) (records : List OptionRecord) (i : ℕ) → i < 128 → records ≡ up_to l i → set records i (record_at l (11 + 4 * i)) ≡ up_to l (i + 1)
one_more l records i h e =
    let left : 128 - i ≡ suc (128 - (i + 1)) = omega arith in
    let next : records_in l (i + 1) ≡ records_in l i ++ (record_at l (11 + 4 * i) ∷ []) = rw (add-one i) in
    rw (e, left)
    (set_at (records_in l i) none (replicate (128 - (i + 1)) none) (record_at l (11 + 4 * i)) i (records_length l i)
    ∙ (sym (append_assoc (records_in l i) (record_at l (11 + 4 * i) ∷ []) (replicate (128 - (i + 1)) none))
    ∙ ap (λ (rs : List OptionRecord). rs ++ replicate (128 - (i + 1)) none) (sym next)))
