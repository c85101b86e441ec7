-- The loop that reads a number byte by byte.
use Prim.Native.Nat.{ℕ, ◌+◌, ◌-◌, ◌*◌, ◌^◌, ◌<◌, ◌≤◌}
use mathlib.Core.Path.{◌≡◌, refl, ap, ◌∙◌}
use mathlib.Core.List.{List}
use native.Mathlib.Nat.{pow-suc, pow-le-pow_right, lt_of_lt_of_le}
use native.Mathlib.Numerals.{add-one}
use native.Mathlib.Omega.{arith}
use lib.Dec.{lit<}
use lib.ListN.{length, get_or, drop, drop_of_length-le}
use lib.Seq.{drop-cons}
use Rattle.ground.specs.Part.{Bytes}
use Rattle.rfc.specs.Uint.{number, number_from, uint}
use Rattle.option_value.specs.Uint.{Padded, with_zeros, leading_zeros, padded}
use Rattle.option_value.proofs.Padding.{pads, pads_length}

-- The first `i` bytes make `value`; with the rest they make the number.
pub record Reading (bs : List ℕ) (value i : ℕ) : Type 0 where
  pub place : i ≤ length bs
  pub room : value < 256 ^ i
  pub all : number_from value (drop i bs) ≡ number bs

pub reading_start : (bs : List ℕ) → Reading bs 0 0
reading_start bs = record { place = omega arith; room = omega arith; all = refl }

-- A value of at most 8 bytes leaves room for one more byte while it is read.
pub reading_room : {bs : List ℕ} {value i : ℕ} → length bs ≤ 8 → i < length bs → Reading bs value i → value < 256 ^ 7
reading_room {i = i} w h s =
    let small : i ≤ 7 = omega arith in
    lt_of_lt_of_le s.room (pow-le-pow_right (lit< tt) small)

pub reading_turn : {bs : List ℕ} {value i : ℕ} → i < length bs → get_or bs i 0 < 256 → Reading bs value i → Reading bs (value * 256 + get_or bs i 0) (i + 1)
reading_turn {bs} {value} {i} h small s =
    record {
      place = omega arith;
      room = rw (add-one, pow-suc) (omega (arith, s.room));
      all = rw add-one (rw (drop-cons bs i 0 h) at s.all);
    }

-- At the end the number is read, and its shortest bytes are those that aren't leading zeros.
pub record Done (bs : List ℕ) (value count : ℕ) : Type 0 where
  pub fits : count ≤ length bs
  pub read : ◌≡◌ {A = Padded ℕ} (with_zeros (length bs - count) value) (padded bs)

pub reading_end : {bs : List ℕ} {value i count : ℕ} → Bytes bs → length bs ≤ 8 → length bs ≤ i → Reading bs value i → count ≡ length (uint 8 value) → Done bs value count
reading_end {bs} {value} {i} {count} b w h s e =
    let v : value ≡ number bs = rw (drop_of_length-le bs h) at s.all in
    let c : count ≡ length (uint 8 (number bs)) = e ∙ ap (λ (n : ℕ). length (uint 8 n)) v in
    let l : length bs ≡ leading_zeros bs + length (uint 8 (number bs)) = pads_length (pads 8 bs b w) in
    let z : length bs - count ≡ leading_zeros bs = omega arith in
    record { fits = omega arith; read = λ j. with_zeros (z j) (v j) }
