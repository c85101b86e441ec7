-- Laws of hexadecimal text: the digits of bytes stand for those bytes, how many there are, and what putting such bytes answers.
use Prim.Native.Nat.{ℕ, ◌+◌, ◌-◌, ◌*◌, ◌/◌, ◌%◌, ◌<◌, ◌≤◌}
use mathlib.Core.Path.{◌≡◌, refl, sym, ◌∙◌}
use mathlib.Core.Bool.{true, false}
use mathlib.Core.List.{List, [], ◌∷◌}
use native.Mathlib.Omega.{arith}
use lib.ListN.{length}
use borrow.Author.Tests.{lt-ltb, eq-eqb}
use Rattle.ground.specs.Part.{Bytes}
use Rattle.ground.proofs.Choice.{on_lt}
use Rattle.refusal.specs.Answer.{given, refused, after}
use Rattle.refusal.proofs.Fitted.{no_place}
use Rattle.placing.specs.Put.{Puts}
use Rattle.placing.proofs.Puts.{puts_placed}
use Rattle.hexadecimal.specs.Hex.{hex_digit, hex_digits, hex, digit_of, all_digits, is_hex, pairs, unhex, unhex_into}
use Rattle.hexadecimal.proofs.Digits.{of_decimal, of_letter, length_pairs}

-- Two digits for each byte.
pub digits_size : (bytes : List ℕ) → length (hex_digits bytes) ≡ 2 * length bytes
digits_size [] = refl
digits_size (b ∷ bytes) = omega (arith, digits_size bytes)

pub hex_size : (bytes : List ℕ) → length (hex bytes) ≤ 2 * length bytes + 1
hex_size [] = omega arith
hex_size (b ∷ bytes) = omega (arith, digits_size (b ∷ bytes))

-- A digit is worth what it was made of.
digit_back : (d : ℕ) → d < 16 → digit_of (hex_digit d) ≡ d
digit_back d h =
    on_lt (λ (b : ℕ). digit_of b ≡ d) d 10
    (λ l. of_decimal (48 + d) (omega arith) (omega arith) ∙ omega arith)
    (λ l. of_letter (97 + (d - 10)) (omega arith) (omega arith) ∙ omega arith)

-- The digits of bytes are digits, and stand for those bytes.
digits_all : (bytes : List ℕ) → Bytes bytes → all_digits (hex_digits bytes) ≡ true
digits_all [] h = refl
digits_all (b ∷ bytes) h =
    rw (digit_back (b / 16) (omega (arith, h.0)), digit_back (b % 16) (omega arith), lt-ltb (b / 16) 16 (omega (arith, h.0)), lt-ltb (b % 16) 16 (omega arith))
    (digits_all bytes h.1)

digits_pairs : (bytes : List ℕ) → Bytes bytes → pairs (hex_digits bytes) ≡ bytes
digits_pairs [] h = refl
digits_pairs (b ∷ bytes) h =
    let e : b / 16 * 16 + b % 16 ≡ b = omega arith in
    rw (digit_back (b / 16) (omega (arith, h.0)), digit_back (b % 16) (omega arith), e, digits_pairs bytes h.1)

-- The digits of bytes read as those bytes.
pub unhex_digits : (bytes : List ℕ) → Bytes bytes → unhex (hex_digits bytes) ≡ given bytes
unhex_digits bytes h =
    rw (digits_all bytes h, eq-eqb (length (hex_digits bytes) % 2) 0 (omega (arith, digits_size bytes)), digits_pairs bytes h)

-- What putting the bytes of a text shows: a text that is none, no room at the place, and bytes put there.
module _ (old text : List ℕ) (at : ℕ) where
  pub unhex_bad : is_hex text ≡ false → (refused 15 ≡ unhex_into (length old) at text) × (old ≡ after (unhex_into (length old) at text) at (pairs text) old)
  unhex_bad e = (rw e refl, rw e refl)

  pub unhex_room : is_hex text ≡ true → length old < at + length text / 2 → (refused 12 ≡ unhex_into (length old) at text) × (old ≡ after (unhex_into (length old) at text) at (pairs text) old)
  unhex_room e h = rw e (no_place old (pairs text) at (length (pairs text)) (omega (arith, length_pairs text)))

  pub unhex_put : {r : ℕ} {new : List ℕ} → is_hex text ≡ true → at + length text / 2 ≤ length old → Puts old at (pairs text) r new → (given (length text / 2) ≡ unhex_into (length old) at text) × (new ≡ after (unhex_into (length old) at text) at (pairs text) old)
  unhex_put e h p =
      rw (e, sym (length_pairs text)) (puts_placed (length (pairs text)) p (omega (arith, length_pairs text)))
