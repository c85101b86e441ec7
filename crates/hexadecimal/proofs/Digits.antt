-- Laws of hexadecimal digits in a text: what each is worth, and the bytes that pairs of them stand for.
use Prim.Native.Nat.{ℕ, zero, suc, ◌+◌, ◌-◌, ◌*◌, ◌/◌, ◌%◌, ◌<◌, ◌≤◌}
use mathlib.Core.Path.{◌≡◌, refl, sym}
use mathlib.Core.Bool.{true, false}
use mathlib.Core.List.{List, [], ◌∷◌}
use native.Mathlib.Numerals.{add-one}
use native.Mathlib.Omega.{arith}
use lib.Dec.{ltb, eqb}
use lib.ListN.{length, drop, get_or, length-drop, drop_of_length-le}
use lib.Seq.{drop-cons}
use borrow.Author.Tests.{le-leb, lt-leb, lt-ltb, le-ltb, ltb-true}
use Rattle.ground.proofs.Choice.{both_true, on_lt}
use Rattle.std.specs.Prelude.{Option, Some, None}
use Rattle.hexadecimal.specs.Hex.{hex_digits, hex, digit_of, digit_read, all_digits, is_hex, pairs}

-- A decimal digit, a letter, and any other byte.
pub of_decimal : (b : ℕ) → 48 ≤ b → b ≤ 57 → digit_of b ≡ b - 48
unfolding digit_of
of_decimal b low high = rw (le-leb _ _ low, le-leb _ _ high)

pub of_letter : (b : ℕ) → 97 ≤ b → b ≤ 102 → digit_of b ≡ b - 97 + 10
unfolding digit_of
of_letter b low high =
    let f : 48 ≤ b = omega arith in
    let g : 57 < b = omega arith in
    rw (le-leb _ _ f, lt-leb _ _ g, le-leb _ _ low, le-leb _ _ high)

pub of_below : (b : ℕ) → b < 48 → digit_of b ≡ 16
unfolding digit_of
of_below b h =
    let g : b < 97 = omega arith in
    rw (lt-leb 48 b h, lt-leb 97 b g)

pub of_between : (b : ℕ) → 57 < b → b < 97 → digit_of b ≡ 16
unfolding digit_of
of_between b f g =
    let low : 48 ≤ b = omega arith in
    rw (le-leb 48 b low, lt-leb b 57 f, lt-leb 97 b g)

pub of_above : (b : ℕ) → 102 < b → digit_of b ≡ 16
unfolding digit_of
of_above b h =
    let low : 48 ≤ b = omega arith in
    let high : 57 < b = omega arith in
    let letter : 97 ≤ b = omega arith in
    rw (le-leb 48 b low, lt-leb b 57 high, le-leb 97 b letter, lt-leb b 102 h)

-- What is read of a digit, and of what is none.
pub some_digit : {d n : ℕ} → d ≡ n → d < 16 → Some d ≡ digit_read n
some_digit {d} e h = rw (sym e, lt-ltb d 16 h) refl

pub no_digit : {n : ℕ} → 16 ≡ n → None ≡ digit_read n
no_digit e = rw (sym e) refl

pub was_digit : (n : ℕ) {d : ℕ} → Some d ≡ digit_read n → (d ≡ n) × (n < 16)
was_digit n {d} = on_lt (λ (o : Option ℕ). Some d ≡ o → (d ≡ n) × (n < 16)) n 16 (λ h e. let z : d ≡ n = cc in (z, h)) (λ h e. cc)

-- A hexadecimal text is digits alone, and each of them is one.
pub hex_digits_lem : (s : List ℕ) → is_hex s ≡ true → all_digits s ≡ true
hex_digits_lem s e = (both_true (all_digits s) (eqb (length s % 2) 0) e).0

pub digit_at : (s : List ℕ) (i : ℕ) → all_digits s ≡ true → i < length s → digit_of (get_or s i 0) < 16
digit_at [] i d h = absurd (omega arith)
digit_at (b ∷ s) zero d h = ltb-true (digit_of b) 16 (both_true (ltb (digit_of b) 16) (all_digits s) d).0
digit_at (b ∷ s) (suc i) d h = digit_at s i (both_true (ltb (digit_of b) 16) (all_digits s) d).1 (omega arith)

-- A digit at a place, and a byte there that is none.
pub all_more : (s : List ℕ) (i : ℕ) → i < length s → digit_of (get_or s i 0) < 16 → all_digits (drop i s) ≡ all_digits (drop (i + 1) s)
all_more s i h d = rw (drop-cons s i 0 h, lt-ltb (digit_of (get_or s i 0)) 16 d, add-one)

pub all_not : (s : List ℕ) (i : ℕ) → i < length s → 16 ≤ digit_of (get_or s i 0) → all_digits (drop i s) ≡ false
all_not s i h d = rw (drop-cons s i 0 h, le-ltb (digit_of (get_or s i 0)) 16 d)

pub all_end : (s : List ℕ) (i : ℕ) → length s ≤ i → all_digits (drop i s) ≡ true
all_end s i h = rw (drop_of_length-le s h)

-- The first of the pairs that are left after some of them.
pub pairs_more : (s : List ℕ) (i : ℕ) → 2 * i + 1 < length s → pairs (drop (2 * i) s) ≡ (digit_of (get_or s (2 * i) 0) * 16 + digit_of (get_or s (2 * i + 1) 0)) ∷ pairs (drop (2 * (i + 1)) s)
pairs_more s i h =
    let f : 2 * i < length s = omega arith in
    let g : suc (2 * i) < length s = omega arith in
    let two : 2 * (i + 1) ≡ suc (suc (2 * i)) = omega arith in
    rw (two, add-one (2 * i), drop-cons s (2 * i) 0 f, drop-cons s (suc (2 * i)) 0 g)

-- Where fewer than two digits are left, no pair is.
few : (s : List ℕ) → length s < 2 → pairs s ≡ []
few [] h = refl
few (a ∷ []) h = refl
few (a ∷ b ∷ s) h = absurd (omega arith)

pub pairs_end : (s : List ℕ) (i : ℕ) → length s / 2 ≤ i → pairs (drop (2 * i) s) ≡ []
pairs_end s i h = few (drop (2 * i) s) (simp length-drop (omega arith))

-- There is a byte for each two digits.
pub length_pairs : (s : List ℕ) → length (pairs s) ≡ length s / 2
length_pairs [] = refl
length_pairs (a ∷ []) = refl
length_pairs (a ∷ b ∷ s) = omega (arith, length_pairs s)

-- No bytes are a dash.
pub hex_none : (bytes : List ℕ) → length bytes ≡ 0 → hex bytes ≡ 45 ∷ []
hex_none [] e = refl
hex_none (b ∷ bytes) e = absurd (omega (arith, e))

-- Some bytes are their digits.
pub hex_some : (bytes : List ℕ) → (length bytes ≡ 0 → ⊥) → hex bytes ≡ hex_digits bytes
hex_some [] f = absurd (f refl)
hex_some (b ∷ bytes) f = refl
