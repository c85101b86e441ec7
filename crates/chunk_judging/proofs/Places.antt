-- Where the bytes of a datagram stand: in the order of their indices, and one after the other within a chunk.
use Prim.Native.Nat.{ℕ, zero, suc, ◌+◌, ◌-◌, ◌<◌, ◌≤◌, min}
use mathlib.Core.Path.{◌≡◌, refl, sym, ap, ◌∙◌}
use mathlib.Core.Bool.{true, false}
use mathlib.Core.List.{List}
use native.Mathlib.Nat.{add-zero, add-suc, suc-add}
use native.Mathlib.Omega.{arith}
use lib.ListN.{length, get_or, take, drop, length-take}
use lib.Dec.{ltb, leb}
use lib.Seq.{get_or-take, get_or-drop, ext_get_or}
use borrow.Author.Tests.{lt-ltb, le-ltb, le-leb, lt-leb, leb-false}
use Rattle.ground.specs.Part.{part, Bytes}
use Rattle.ground.proofs.Choice.{by_lt, not_both}
use Rattle.refusal.specs.Answer.{refused}
use Rattle.cursor.specs.Cursor.{accepting}
use Rattle.stream.specs.declared.Form.{Form}
use Rattle.stream.specs.declared.Form.TheVariants.{Old, New}
use Rattle.stream.specs.Stream.{full, head_size}
use Rattle.stream.proofs.Sound.{part_length}
use Rattle.chunk_judging.specs.Chunks.{offset, bytes_from, gathered, past, judged_at}

-- The place of a byte in the first chunk, and of one behind it; places rise with the index, and each is past it.
pub offset_first : (form : Form) (i : ℕ) → i < full form → offset form i ≡ head_size form + i
offset_first Old i h = omega arith
offset_first New i h = omega arith

pub offset_later : (form : Form) (i : ℕ) → offset form (full form + i) ≡ head_size form + full form + offset form i
offset_later Old i = omega arith
offset_later New i = omega arith

pub offset_rises : (form : Form) (i j : ℕ) → i ≤ j → offset form i ≤ offset form j
offset_rises Old i j h = omega arith
offset_rises New i j h = omega arith

pub offset_over : (form : Form) (i : ℕ) → i < offset form i
offset_over Old i = omega arith
offset_over New i = omega arith

-- The first chunk of a datagram that isn't empty ends no later than the datagram.
pub first_ends : (form : Form) (len : ℕ) → 0 < len → head_size form + min (full form) len ≤ offset form (len - 1) + 1
first_ends Old len h = omega arith
first_ends New len h = omega arith

-- It holds header and token.
pub first_holds : (form : Form) (len : ℕ) → min 12 len ≤ min (full form) len
first_holds Old len = omega arith
first_holds New len = omega arith

module _ (form : Form) (s : List ℕ) (from : ℕ) where
  from_length : (i n : ℕ) → length (bytes_from form s from i n) ≡ n
  from_length i zero = refl
  from_length i (suc n) = ap suc (from_length (suc i) n)

  from_at : (i n k : ℕ) → k < n → get_or (bytes_from form s from i n) k 0 ≡ get_or s (from + offset form (i + k)) 0
  from_at i zero k h = absurd (omega arith)
  from_at i (suc n) zero h = rw add-zero refl
  from_at i (suc n) (suc k) h =
      from_at (suc i) n k (omega arith) ∙ ap (λ (j : ℕ). get_or s (from + offset form j) 0) (suc-add i k ∙ sym (add-suc i k))

  from_bytes : ((k : ℕ) → get_or s k 0 < 256) → (i n : ℕ) → Bytes (bytes_from form s from i n)
  from_bytes h i zero = tt
  from_bytes h i (suc n) = (h (from + offset form i), from_bytes h (suc i) n)

  pub gathered_length : (len : ℕ) → length (gathered form s from len) ≡ len
  unfolding gathered
  gathered_length len = from_length 0 len

  pub gathered_at : (len i : ℕ) → i < len → get_or (gathered form s from len) i 0 ≡ get_or s (from + offset form i) 0
  unfolding gathered
  gathered_at len i h = from_at 0 len i h ∙ ap (λ (j : ℕ). get_or s (from + offset form j) 0) (omega arith)

  pub gathered_bytes : ((k : ℕ) → get_or s k 0 < 256) → (len : ℕ) → Bytes (gathered form s from len)
  unfolding gathered
  gathered_bytes h len = from_bytes h 0 len

  -- What stands in the first chunk is the front of the datagram.
  pub gathered_front : (len n : ℕ) → n ≤ len → n ≤ full form → from + head_size form + n ≤ length s → part s (from + head_size form) n ≡ take n (gathered form s from len)
  gathered_front len n few small inside =
      let at : ℕ = from + head_size form in
      let g : List ℕ = gathered form s from len in
      let l : length (part s at n) ≡ n = part_length s at n inside in
      ext_get_or 0 (part s at n) (take n g) (l ∙ omega (arith, length-take n g, gathered_length len))
      (λ i h.
      let k : i < n = omega (arith, h, l) in
      let o : from + head_size form + i ≡ from + offset form i = omega (arith, offset_first form i (omega arith)) in
      get_or-take n (drop at s) i 0 k
      ∙ (get_or-drop at s i 0
      ∙ (ap (λ (j : ℕ). get_or s j 0) o
      ∙ (sym (gathered_at len i (omega arith)) ∙ sym (get_or-take n g i 0 k)))))

  -- Whether the last byte lies past the stream.
  pub past_none : (len : ℕ) → len < 1 → past form s from len ≡ false
  unfolding past
  past_none len h = rw (le-ltb 0 len (omega arith)) refl

  pub past_over : (len : ℕ) → 1 ≤ len → length s ≤ from + offset form (len - 1) → past form s from len ≡ true
  unfolding past
  past_over len h l = rw (lt-ltb 0 len (omega arith), le-leb (length s) (from + offset form (len - 1)) l) refl

  pub past_within : (len : ℕ) → 1 ≤ len → from + offset form (len - 1) < length s → past form s from len ≡ false
  unfolding past
  past_within len h l = rw (lt-ltb 0 len (omega arith), lt-leb (length s) (from + offset form (len - 1)) l) refl

  pub past_last : (len : ℕ) → 1 ≤ len → from ≤ length s → leb (length s - from) (offset form (len - 1)) ≡ past form s from len
  past_last len h l =
      let o : ℕ = offset form (len - 1) in
      by_lt (from + o) (length s)
      (λ i. lt-leb (length s - from) o (omega arith) ∙ sym (past_within len h i))
      (λ i. le-leb (length s - from) o (omega arith) ∙ sym (past_over len h i))

  pub past_not : (len : ℕ) → 1 ≤ len → past form s from len ≡ false → from + offset form (len - 1) < length s
  unfolding past
  past_not len h e = leb-false (length s) (from + offset form (len - 1)) (not_both (ltb 0 len) (leb (length s) (from + offset form (len - 1))) e (lt-ltb 0 len h))

  -- What judging says: 19 for a last byte past the stream, else what strict reading says.
  pub judged_past : (len : ℕ) → past form s from len ≡ true → refused 19 ≡ judged_at form s from len
  unfolding judged_at
  judged_past len e = rw e refl

  pub judged_bytes : (len : ℕ) → past form s from len ≡ false → accepting true (gathered form s from len) ≡ judged_at form s from len
  unfolding judged_at
  judged_bytes len e = rw e refl
