-- Laws of padding, over the width: a value is its leading zeros and then the shortest bytes of its number, in one way only.
use Prim.Native.Nat.{ℕ, zero, suc, ◌+◌, ◌≤◌}
use mathlib.Core.Path.{◌≡◌, refl, sym, ap, ◌∙◌}
use mathlib.Core.List.{List, [], ◌∷◌, ◌++◌}
use native.Mathlib.Nat.{pow-le-pow_right, lt_of_lt_of_le}
use native.Mathlib.Omega.{arith}
use lib.Dec.{lit<}
use lib.ListN.{length, length-append, replicate, length-replicate}
use borrow.Author.Tests.{eq-eqb, ne_eqb}
use Rattle.ground.specs.Part.{Bytes}
use Rattle.rfc.specs.Uint.{number, uint, without_zeros}
use Rattle.ground.proofs.Choice.{by_eq}
use Rattle.rfc.proofs.Uint.{written_read, read_written, number_below}
use Rattle.option_value.specs.Uint.{Padded, with_zeros, leading_zeros, padded, Pads}

-- A value is its leading zeros and then the rest.
zeros_rest : (bs : List ℕ) → bs ≡ replicate (leading_zeros bs) 0 ++ without_zeros bs
zeros_rest [] = refl
zeros_rest (b ∷ bs) =
    by_eq b 0 (λ e. rw (eq-eqb b 0 e, e) (ap (λ (l : List ℕ). 0 ∷ l) (zeros_rest bs)))
    (λ z. rw (ne_eqb b 0 z) refl)

-- So the rule holds of the number and the leading zeros of a value that is no longer than the width.
pub pads : (width : ℕ) (bs : List ℕ) → Bytes bs → length bs ≤ width → Pads width bs (padded bs)
pads width bs b h =
    record {
      short = h;
      room = lt_of_lt_of_le (number_below bs b) (pow-le-pow_right (lit< tt) h);
      bytes =
          zeros_rest bs
          ∙ ap (λ (l : List ℕ). replicate (leading_zeros bs) 0 ++ l) (sym (read_written width bs b h));
    }

-- Leading zeros add nothing to a number.
zeros_read : (z : ℕ) (bs : List ℕ) → number (replicate z 0 ++ bs) ≡ number bs
zeros_read zero bs = refl
zeros_read (suc z) bs = zeros_read z bs

module _ {width : ℕ} {bs : List ℕ} where
  -- The length is the count and the shortest length.
  pub pads_length : {p : Padded ℕ} → Pads width bs p → length bs ≡ p.zeros + length (uint width p.value)
  pads_length {p} h = ap length h.bytes ∙ simp (length-append, length-replicate)

  pads_number : {p : Padded ℕ} → Pads width bs p → p.value ≡ number bs
  pads_number {p} h =
      sym (ap number h.bytes ∙ (zeros_read p.zeros (uint width p.value) ∙ written_read width p.value h.room))

  -- It holds of one number and one count only.
  pub one_pads : {p q : Padded ℕ} → Pads width bs p → Pads width bs q → p ≡ q
  one_pads {p} {q} h k =
      let v : p.value ≡ q.value = pads_number h ∙ sym (pads_number k) in
      let l : length (uint width p.value) ≡ length (uint width q.value) = ap (λ (n : ℕ). length (uint width n)) v in
      let z : p.zeros ≡ q.zeros = omega (arith, pads_length h, pads_length k) in
      λ i. with_zeros (z i) (v i)
