-- The two loops that take a number apart by its low byte: one counts its bytes, one stores them from the last to the first.
use Prim.Native.Nat.{ℕ, zero, suc, ◌+◌, ◌-◌, ◌/◌, ◌%◌, ◌^◌, ◌<◌, ◌≤◌}
use mathlib.Core.Path.{◌≡◌, refl, sym, ap, ◌∙◌}
use mathlib.Core.List.{List, [], ◌∷◌, ◌++◌, append_assoc, append-nil}
use native.Mathlib.Nat.{pow-suc, div-lt_iff_lt-mul, zero-add}
use native.Mathlib.Numerals.{sub-one}
use native.Mathlib.Omega.{arith}
use lib.Dec.{lit<}
use lib.ListN.{length, take, drop, set, length-append, length-drop, length-set, drop_of_length-le}
use lib.Seq.{take_all, drop-cons, drop-set-lt, get_or-set_same}
use Rattle.rfc.specs.Uint.{uint}
use Rattle.rfc.proofs.Uint.{uint_zero, uint_more}

-- `count` bytes of `value` are counted, and `rest` is what is left of it, with room in `width` bytes.
pub record Counting (value rest count : ℕ) : Type 0 where
  pub width : ℕ
  pub left : count + width ≡ 8
  pub room : rest < 256 ^ width
  pub all : count + length (uint width rest) ≡ length (uint 8 value)

pub count_start : (value : ℕ) → value < 256 ^ 8 → Counting value value 0
count_start value h = record { width = 8; left = refl; room = h; all = zero-add (length (uint 8 value)) }

count_more : (width value rest count : ℕ) → 0 < rest → count + width ≡ 8 → rest < 256 ^ width → count + length (uint width rest) ≡ length (uint 8 value) → Counting value (rest / 256) (count + 1)
count_more zero value rest count z l h a = absurd (omega (arith, h))
count_more (suc width) value rest count z l h a =
    record {
      width = width;
      left = omega arith;
      room = (div-lt_iff_lt-mul (lit< tt)).1 (rw pow-suc at h);
      all = omega (arith, simp (uint_more width rest z, length-append) at a);
    }

pub count_turn : {value rest count : ℕ} → 0 < rest → Counting value rest count → Counting value (rest / 256) (count + 1)
count_turn {value} {rest} {count} z s = count_more s.width value rest count z s.left s.room s.all

pub count_end : {value rest count : ℕ} → rest ≡ 0 → Counting value rest count → count ≡ length (uint 8 value)
count_end z s = omega (arith, rw (z, uint_zero) at s.all)

-- The bytes of a number are those of what is left of it, and then those that stand from the place `first` on.
pub record Filling (value : ℕ) (bytes : List ℕ) (first rest : ℕ) : Type 0 where
  pub size : length bytes ≡ 8
  pub place : first ≤ 8
  pub room : rest < 256 ^ first
  pub all : uint 8 value ≡ uint first rest ++ drop first bytes

pub fill_start : (value : ℕ) (bytes : List ℕ) → length bytes ≡ 8 → value < 256 ^ 8 → Filling value bytes 8 value
fill_start value bytes e h =
    record {
      size = e;
      place = omega arith;
      room = h;
      all = sym (rw (drop_of_length-le bytes {i = 8} (omega arith)) (append-nil (uint 8 value)));
    }

-- A number that is not used up has a place before.
pub place_before : {value : ℕ} {bytes : List ℕ} (first rest : ℕ) → Filling value bytes first rest → 0 < rest → 1 ≤ first
place_before zero rest g h = absurd (omega (arith, g.room))
place_before (suc first) rest g h = omega arith

-- A store, and what stands from there on.
pub drop_set : (l : List ℕ) (i v : ℕ) → i < length l → drop i (set l i v) ≡ v ∷ drop (suc i) l
drop_set l i v h =
    drop-cons (set l i v) i 0 (rw length-set h) ∙ rw (get_or-set_same, drop-set-lt (suc i) l i v (omega arith))

-- The low byte is stored, and the others are left.
pub fill_turn : {value : ℕ} {bytes : List ℕ} (first rest : ℕ) → Filling value bytes first rest → 0 < rest → Filling value (set bytes (first - 1) (rest % 256)) (first - 1) (rest / 256)
fill_turn zero rest g h = absurd (omega (arith, place_before zero rest g h))
fill_turn {bytes = bytes} (suc first) rest g h =
    rw (sub-one (suc first))
    (record {
      size = rw length-set g.size;
      place = omega (arith, g.place);
      room = (div-lt_iff_lt-mul (lit< tt)).1 (rw pow-suc at g.room);
      all =
          g.all
          ∙ rw (uint_more first rest h) (append_assoc (uint first (rest / 256)) ((rest % 256) ∷ []) (drop (suc first) bytes))
          ∙ ap (λ (l : List ℕ). uint first (rest / 256) ++ l) (sym (drop_set bytes first (rest % 256) (omega (arith, g.size, g.place))));
    })

-- Nothing is left: the bytes are those from the place on.
pub fill_end : {value : ℕ} {bytes : List ℕ} (first rest : ℕ) → Filling value bytes first rest → rest ≡ 0 → uint 8 value ≡ take (8 - first) (drop first bytes)
fill_end {bytes = bytes} first rest g z =
    g.all
    ∙ rw (z, uint_zero) (sym (take_all (8 - first) (drop first bytes) (simp length-drop (omega (arith, g.size)))))
