-- The bytes of a message's chunks, where they lie: the datagram that is judged there is the one that is copied.
use Prim.Native.Nat.{ℕ, zero, suc, ◌+◌, ◌-◌, ◌<◌, ◌≤◌, min}
use mathlib.Core.Path.{◌≡◌, refl, sym, ap, ◌∙◌}
use mathlib.Core.Bool.{true}
use mathlib.Core.List.{List, []}
use native.Mathlib.Omega.{arith}
use lib.ListN.{length, get_or, take, drop, length-take, length-drop}
use lib.Seq.{get_or-take, get_or-drop, ext_get_or}
use Rattle.ground.proofs.Choice.{by_lt}
use Rattle.refusal.specs.Answer.{Answer, given, refused, onward}
use Rattle.refusal.proofs.Answers.{not_refused, same_refused}
use Rattle.packet.specs.declared.Packet.{Packet}
use Rattle.reading.specs.Reading.{reading}
use Rattle.stream.specs.declared.Form.{Form}
use Rattle.stream.specs.declared.Form.TheVariants.{Old, New}
use Rattle.stream.specs.Stream.{full, head_size, padding}
use Rattle.stream.specs.Messages.{body_at, end_of_chunk}
use Rattle.stream.specs.Answers.{Extent}
use Rattle.stream.proofs.Sound.{full_some}
use Rattle.cursor.specs.Cursor.{accepting}
use Rattle.chunk_judging.specs.Chunks.{offset, gathered, judged_at}
use Rattle.chunk_judging.proofs.Places.{offset_first, offset_later, gathered_length, gathered_at, past_none, past_within}
use Rattle.thawing.specs.Message.{body_bytes, strict_before}
use Rattle.thawing.proofs.Copy.{Standing, standing_chunk, copy_start}

padding_full : (form : Form) (n : ℕ) → n ≡ full form → padding form n ≡ 0
padding_full Old n e = omega arith
padding_full New n e = refl

module _ (form : Form) (s : List ℕ) where
  -- Each byte of a datagram whose chunks stand at a position.
  pub record There (at i : ℕ) (x : List ℕ) : Type 0 where
    pub is : get_or s (at + offset form i) 0 ≡ get_or x i 0
    pub inside : at + offset form i < length s

  there : (n at : ℕ) (x : List ℕ) → length x ≤ n → Standing form s at x → (i : ℕ) → i < length x → There at i x
  there zero at x few w i h = absurd (omega arith)
  there (suc n) at x few w i h =
      let c : List ℕ = take (full form) x in
      let k = standing_chunk form s at x w (omega arith) in
      let l : length c ≡ min (full form) (length x) = length-take (full form) x in
      by_lt i (full form)
      (λ f.
      let o : at + offset form i ≡ at + head_size form + i = omega (arith, offset_first form i f) in
      record {
        is = ap (λ (j : ℕ). get_or s j 0) o
            ∙ (sym (get_or-drop (at + head_size form) s i 0)
            ∙ (sym (get_or-take (length c) (drop (at + head_size form) s) i 0 (omega arith))
            ∙ (ap (λ (y : List ℕ). get_or y i 0) k.bytes ∙ get_or-take (full form) x i 0 f)));
        inside = omega (arith, o, k.inside);
      })
      (λ f.
      let j : ℕ = i - full form in
      let q : full form + j ≡ i = omega arith in
      let e : length c ≡ full form = omega arith in
      let o : at + offset form i ≡ end_of_chunk form at (length c) + offset form j =
      omega (arith, ap (offset form) q, offset_later form j, padding_full form (length c) e, e) in
      let r = there n (end_of_chunk form at (length c)) (drop (full form) x) (omega (arith, length-drop (full form) x, full_some form))
      (record { rest = w.rest; inside = k.inside; bytes = k.after }) j (omega (arith, length-drop (full form) x)) in
      record {
        is = ap (λ (p : ℕ). get_or s p 0) o ∙ (r.is ∙ (get_or-drop (full form) x j 0 ∙ ap (λ (p : ℕ). get_or x p 0) q));
        inside = omega (arith, o, r.inside);
      })

  -- The bytes at these places are the datagram, and judging them is judging it.
  module _ (from len : ℕ) (x : List ℕ) (long : len ≡ length x) (w : 0 < length x → Standing form s from x) where
    each : (i : ℕ) → i < len → There from i x
    each i h = there len from x (omega arith) (w (omega arith)) i (omega arith)

    pub standing_gathered : gathered form s from len ≡ x
    standing_gathered =
        ext_get_or 0 (gathered form s from len) x (gathered_length form s from len ∙ long)
        (λ i h. let k : i < len = omega (arith, h, gathered_length form s from len) in gathered_at form s from len i k ∙ (each i k).is)

    pub standing_judged : judged_at form s from len ≡ accepting true x
    unfolding judged_at
    standing_judged =
        by_lt len 1
        (λ none. rw (past_none form s from len none) (ap (accepting true) standing_gathered))
        (λ some. rw (past_within form s from len some (each (len - 1) (omega arith)).inside) (ap (accepting true) standing_gathered))

  module _ (from len : ℕ) (long : len ≡ length (body_bytes (body_at form s (length s) (full form) from))) where
    pub body_gathered : gathered form s from len ≡ body_bytes (body_at form s (length s) (full form) from)
    body_gathered = standing_gathered from len (body_bytes (body_at form s (length s) (full form) from)) long (copy_start form s [] 0 from).stands

    pub body_judged : judged_at form s from len ≡ accepting true (body_bytes (body_at form s (length s) (full form) from))
    body_judged = standing_judged from len (body_bytes (body_at form s (length s) (full form) from)) long (copy_start form s [] 0 from).stands

-- What judging says of a datagram is said of its message.
read_refused : (a : Answer Packet) (e : Extent) (k : ℕ) → ◌≡◌ {A = Answer (Unit {0})} (refused k) (onward a (λ p. given tt)) → refused k ≡ onward a (λ p. given e)
read_refused (given p) e k h = not_refused (sym h)
read_refused (refused j) e k h = ap refused (same_refused h)

read_given : (a : Answer Packet) (e : Extent) → ◌≡◌ {A = Answer (Unit {0})} (given tt) (onward a (λ p. given tt)) → given e ≡ onward a (λ p. given e)
read_given (given p) e h = refl
read_given (refused j) e h = not_refused h

module _ (d : List ℕ) (next : ℕ) where
  pub apart_refused : (k : ℕ) → refused k ≡ accepting true d → refused k ≡ strict_before d next
  apart_refused k h = read_refused (reading true d) (record { len = length d; next = next }) k h

  pub apart_given : (len : ℕ) → len ≡ length d → given tt ≡ accepting true d → given (record { len = len; next = next }) ≡ strict_before d next
  apart_given len e h = rw e (read_given (reading true d) (record { len = length d; next = next }) h)
