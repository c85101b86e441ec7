-- The laws of a chunk's head and of its unused bytes, as the walk over a stream meets them.
use Prim.Native.Nat.{ℕ, suc, ◌+◌, ◌-◌, ◌<◌, ◌≤◌}
use mathlib.Core.Path.{◌≡◌, refl, sym, ap, ◌∙◌}
use mathlib.Core.Bool.{Bool, true, false}
use mathlib.Core.List.{List}
use native.Mathlib.Omega.{arith}
use lib.Dec.{eqb}
use lib.ListN.{length, get_or, take}
use borrow.Author.Tests.{eq-eqb, ne_eqb, lt-ltb, le-ltb}
use Rattle.ground.specs.Choice.{both}
use Rattle.ground.specs.Part.{part}
use Rattle.ground.specs.Choice.{pick}
use Rattle.refusal.specs.Answer.{given, refused}
use Rattle.stream.specs.declared.Form.{Form}
use Rattle.stream.specs.declared.Form.TheVariants.{Old, New}
use Rattle.stream.specs.Stream.{full, head_size, padding}
use Rattle.stream.specs.Messages.{count_at, zeros, chunk_at, end_of_chunk}
use Rattle.stream.proofs.Sound.{byte_first}

module _ (s : List ℕ) (at b : ℕ) (is : b ≡ get_or s at 0) where
  pub old_chunk : b ≡ 2 → get_or s (at + 1) 0 ≡ count_at Old s at
  unfolding count_at
  old_chunk e = rw (eq-eqb (get_or s at 0) 2 (sym is ∙ e)) refl

  pub old_none : (b ≡ 2 → ⊥) → 0 ≡ count_at Old s at
  unfolding count_at
  old_none e = rw (ne_eqb (get_or s at 0) 2 (λ q. e (is ∙ q))) refl

  pub new_full : b ≡ 4 → 64 ≡ count_at New s at
  unfolding count_at
  new_full e = rw (eq-eqb (get_or s at 0) 4 (sym is ∙ e)) refl

  pub new_high : (b ≡ 4 → ⊥) → 192 ≤ b → 0 ≡ count_at New s at
  unfolding count_at
  new_high e h = rw (ne_eqb (get_or s at 0) 4 (λ q. e (is ∙ q)), le-ltb (get_or s at 0) 192 (omega arith)) refl

  pub new_short : (b ≡ 4 → ⊥) → b < 192 → b - 128 ≡ count_at New s at
  unfolding count_at
  new_short e h = rw (ne_eqb (get_or s at 0) 4 (λ q. e (is ∙ q)), lt-ltb (get_or s at 0) 192 (omega arith)) (ap (λ (n : ℕ). n - 128) is)

-- One byte of those that should be zero.
zeros_first : (s : List ℕ) (at n : ℕ) → at < length s → zeros (part s at (suc n)) ≡ both (eqb (get_or s at 0) 0) (zeros (part s (at + 1) n))
zeros_first s at n h = ap (λ (l : List ℕ). zeros (take (suc n) l)) (byte_first s at h)

module _ (s : List ℕ) (from n i : ℕ) (inside : from + n ≤ length s) where
  pub zeros_turn : i < n → get_or s (from + i) 0 ≡ 0 → zeros (part s (from + i) (n - i)) ≡ zeros (part s (from + (i + 1)) (n - (i + 1)))
  zeros_turn h z =
      let k : n - i ≡ suc (n - (i + 1)) = omega arith in
      let j : from + i + 1 ≡ from + (i + 1) = omega arith in
      ap (λ (m : ℕ). zeros (part s (from + i) m)) k
      ∙ (zeros_first s (from + i) (n - (i + 1)) (omega arith) ∙ rw (eq-eqb (get_or s (from + i) 0) 0 z, j) refl)

  pub zeros_stop : i < n → (get_or s (from + i) 0 ≡ 0 → ⊥) → zeros (part s (from + i) (n - i)) ≡ false
  zeros_stop h z =
      let k : n - i ≡ suc (n - (i + 1)) = omega arith in
      ap (λ (m : ℕ). zeros (part s (from + i) m)) k
      ∙ (zeros_first s (from + i) (n - (i + 1)) (omega arith) ∙ rw (ne_eqb (get_or s (from + i) 0) 0 z) refl)

  pub zeros_end : n ≤ i → zeros (part s (from + i) (n - i)) ≡ true
  zeros_end h =
      let k : n - i ≡ 0 = omega arith in
      ap (λ (m : ℕ). zeros (part s (from + i) m)) k

-- The numbers of a form are small.
pub full_small : (form : Form) → full form ≤ 64
full_small Old = omega arith
full_small New = omega arith

pub head_small : (form : Form) → head_size form ≤ 2
head_small Old = omega arith
head_small New = omega arith

pub padding_small : (form : Form) (n : ℕ) → padding form n ≤ 30
padding_small Old n = omega arith
padding_small New n = omega arith

-- A chunk by the tests on its way.
module _ (form : Form) (s : List ℕ) (at n : ℕ) (is : n ≡ count_at form s at) where
  pub chunk_none : n < 1 → refused 19 ≡ chunk_at form s at
  unfolding chunk_at
  chunk_none h = rw (← is, lt-ltb n 1 h) refl

  pub chunk_over : 1 ≤ n → full form < n → refused 19 ≡ chunk_at form s at
  unfolding chunk_at
  chunk_over a h = rw (← is, le-ltb n 1 a, lt-ltb (full form) n h) refl

  pub chunk_cut : 1 ≤ n → n ≤ full form → length s < end_of_chunk form at n → refused 19 ≡ chunk_at form s at
  unfolding chunk_at
  chunk_cut a b h = rw (← is, le-ltb n 1 a, le-ltb (full form) n b, lt-ltb (length s) (end_of_chunk form at n) h) refl

  pub chunk_whole : 1 ≤ n → n ≤ full form → end_of_chunk form at n ≤ length s → (z : Bool) → z ≡ zeros (part s (at + head_size form + n) (padding form n))
      → pick z (given n) (refused 19) ≡ chunk_at form s at
  unfolding chunk_at
  chunk_whole a b h z e = rw (← is, le-ltb n 1 a, le-ltb (full form) n b, le-ltb (length s) (end_of_chunk form at n) h, e) refl
