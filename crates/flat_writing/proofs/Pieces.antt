-- An option put loosely: the byte of the nibbles, two bytes for each extension, and a run of bytes of which the value is the first.
use Prim.Native.Nat.{ℕ, ◌+◌, ◌*◌, ◌<◌, ◌≤◌}
use mathlib.Core.Path.{◌≡◌, refl, sym, ap, ◌∙◌}
use mathlib.Core.Bool.{true}
use mathlib.Core.List.{List, [], ◌∷◌, ◌++◌, append_assoc}
use native.Mathlib.Nat.{sub-zero}
use native.Mathlib.Omega.{arith}
use lib.ListN.{length, take, drop, get_or, set, length-append, length-set, length-take, length-drop, take-append-drop}
use lib.Seq.{length-take-le, take-take}
use lib.Dec.{leb}
use borrow.Author.Tests.{leb-true}
use Rattle.std.specs.Prelude.{Result}
use Rattle.ground.specs.Choice.{both}
use Rattle.ground.specs.Part.{part}
use Rattle.ground.proofs.Choice.{by_lt, both_true}
use Rattle.rfc.specs.Message.{Opt, nibble_of, extension_of, option_layout}
use Rattle.rfc.proofs.Message.{nibble_none, extension_none, extension_one}
use Rattle.judging.proofs.Good.{extension_small}
use Rattle.refusal.specs.Answer.{given, written}
use Rattle.refusal.specs.declared.Refusal.{Refusal}
use Rattle.laying.specs.Laying.{size_of, laid_option, LaysOption}
use Rattle.laying.proofs.Pieces.{extension_length, option_length}
use Rattle.laying.proofs.Laid.{option_laid, lays_put}
use Rattle.placing.specs.Put.{Put, Puts}
use Rattle.placing.proofs.Puts.{put_one, put_two, puts_whole}
use Rattle.flat_writing.specs.Loosely.{Loosely, nibbles_of}
use Rattle.flat_writing.proofs.Loosely.{loosely_more, loosely_put, loosely_then, loosely_wider}

-- At most two bytes, with zeros behind them where they are fewer.
padded : (l : List ℕ) → length l ≤ 2 → (ws : List ℕ) × ((get_or l 0 0 ∷ get_or l 1 0 ∷ []) ≡ l ++ ws)
padded [] h = (0 ∷ 0 ∷ [], refl)
padded (a ∷ []) h = (0 ∷ [], refl)
padded (a ∷ b ∷ []) h = ([], refl)
padded (a ∷ b ∷ c ∷ l) h = absurd (omega arith)

pub extension_short : (n : ℕ) → length (extension_of n) ≤ 2
extension_short n = rw (extension_length n) (extension_small n)

pub no_second : (n : ℕ) → n < 269 → 0 ≡ get_or (extension_of n) 1 0
no_second n h = by_lt n 13 (λ k. rw (extension_none n k)) (λ k. rw (extension_one n k h))

pub extension_loosely : (old : List ℕ) (at n : ℕ) → at + 2 ≤ length old
    → Loosely old at (extension_of n) (at + 2) (at + length (extension_of n)) (set (set old at (get_or (extension_of n) 0 0)) (at + 1) (get_or (extension_of n) 1 0))
extension_loosely old at n h =
    let e = extension_of n in
    let p = padded e (extension_short n) in
    let two : 2 ≡ length (e ++ p.0) = ap length p.1 in
    loosely_more old at (at + 2) h e p.0 _ _ (rw p.1 at (put_two old at (get_or e 0 0) (get_or e 1 0))) (omega (arith, two))

-- The byte of the nibbles is all that stands before the value of a short option.
pub nibbles_short : (delta len : ℕ) (old : List ℕ) (at : ℕ) → delta < 13 → len < 13 → at + 5 ≤ length old → Loosely old at (nibbles_of delta len) (at + 5) (at + 1) (set old at (delta * 16 + len))
nibbles_short delta len old at d n room =
    rw (nibble_none delta d, nibble_none len n, extension_none delta d, extension_none len n)
    (loosely_put old at (at + 5) room ((delta * 16 + len) ∷ []) _ (at + 1) (put_one old at (delta * 16 + len)) (omega arith))

-- That byte, and then the two extensions.
pub nibbles_loosely : (delta len : ℕ) (old k m : List ℕ) (at first a b : ℕ) → at + 5 ≤ length old → first ≡ nibble_of delta * 16 + nibble_of len
    → Loosely (set old at first) (at + 1) (extension_of delta) (at + 1 + 2) a k → Loosely k a (extension_of len) (a + 2) b m → Loosely old at (nibbles_of delta len) (at + 5) b m
nibbles_loosely delta len old k m at first a b room e p q =
    let d = extension_short delta in
    let n = extension_short len in
    let kept : length (set old at first) ≡ length old = length-set old at first in
    let one = loosely_put old at (at + 5) room (first ∷ []) (set old at first) (at + 1) (put_one old at first) (omega arith) in
    let two = loosely_wider _ _ _ (at + 1 + 2) (at + 5) a k (omega arith) p in
    let three = loosely_wider _ _ _ (a + 2) (at + 5) b m (omega (arith, p.next, d)) q in
    let both = loosely_then (set old at first) (at + 1) (at + 5) (omega (arith, kept)) (extension_of delta) (extension_of len) k m a b two three (omega (arith, p.next, q.next, d, n)) in
    rw (sym e) (loosely_then old at (at + 5) room (first ∷ []) (extension_of delta ++ extension_of len) (set old at first) m (at + 1) b one both (omega (arith, p.next, q.next, d, n)))

-- An option is what stands before its value, and its value.
option_parts : (delta : ℕ) (value : List ℕ) → nibbles_of delta (length value) ++ value ≡ option_layout 0 (record { number = delta; value = value })
unfolding option_layout
option_parts delta value = rw (sub-zero delta, append_assoc (extension_of delta) (extension_of (length value)) value)

pub nibbles_few : (delta len : ℕ) → length (nibbles_of delta len) ≤ 5
nibbles_few delta len = omega (arith, length-append (extension_of delta) (extension_of len), extension_short delta, extension_short len)

-- What stands before the value, and then a run of bytes of which the value is the first.
pub option_loosely : (delta len : ℕ) (bytes old m n : List ℕ) (at b r : ℕ) → len ≤ 32 → 32 ≤ length bytes → at + 37 ≤ length old
    → Loosely old at (nibbles_of delta len) (at + 5) b m → Puts m b (take 32 bytes) r n
    → Loosely old at (option_layout 0 (record { number = delta; value = take len bytes })) (at + 37) (b + len) n
option_loosely delta len bytes old m n at b r few long room p w =
    let value = take len bytes in
    let rest = drop len (take 32 bytes) in
    let size : length value ≡ len = length-take-le len bytes (omega arith) in
    let run : length (take 32 bytes) ≡ 32 = length-take-le 32 bytes long in
    let split : take 32 bytes ≡ value ++ rest =
    sym (take-append-drop len (take 32 bytes)) ∙ ap (λ (v : List ℕ). v ++ rest) (take-take len 32 bytes few) in
    let near : b ≤ at + 5 = omega (arith, p.next, nibbles_few delta len) in
    let whole : Put m b (take 32 bytes) r n = puts_whole w (omega (arith, run, p.kept)) in
    let value-put = loosely_more m b (at + 37) (omega (arith, p.kept)) value rest n r (rw split at whole) (omega (arith, run, ap length split)) in
    let all = loosely_then old at (at + 37) room (nibbles_of delta len) value m n b (b + length value) (loosely_wider _ _ _ (at + 5) (at + 37) b m (omega arith) p) value-put (omega (arith, size)) in
    let named : nibbles_of delta len ++ value ≡ option_layout 0 (record { number = delta; value = value }) = ap (λ (k : ℕ). nibbles_of delta k ++ value) (sym size) ∙ option_parts delta value in
    rw named at (rw size at all)

-- What the tests say that let an option be put loosely.
pub all_loose : (len held room : ℕ) → both (leb len 32) (both (leb 32 held) (leb 37 room)) ≡ true → (len ≤ 32) × (32 ≤ held) × (37 ≤ room)
all_loose len held room e =
    let a = both_true (leb len 32) _ e in
    let b = both_true (leb 32 held) _ a.1 in
    (leb-true len 32 a.0, leb-true 32 held b.0, leb-true 37 room b.1)

-- Any other option is laid as it is: there is room for it.
module _ (delta len start at end : ℕ) (store out : List ℕ) (short : len ≤ 65804) (inside : start + len ≤ length store) (fits : at + size_of delta len ≤ end) (room : end ≤ length out) where
  abbrev option : Opt
  option = record { number = delta; value = part store start len }

  size : length (part store start len) ≡ len
  size = omega (arith, length-take len (drop start store), length-drop start store, inside)

  pub option_size : length (option_layout 0 option) ≡ size_of delta len
  option_size = option_length 0 option ∙ rw (size, sub-zero delta)

  pub option_given : laid_option 0 option (length out) at ≡ given (length (option_layout 0 option))
  option_given = option_laid 0 option (length out) at (omega arith) (omega (arith, size)) (omega (arith, option_size))

  pub option_exactly : (piece : Result ℕ Refusal) (n : ℕ) (new : List ℕ) → LaysOption 0 option at out piece new → written piece ≡ given n → Loosely out at (option_layout 0 option) end (at + n) new
  option_exactly piece n new l e =
      let p = lays_put _ at _ out piece n new option_given l e in
      loosely_put out at end room (option_layout 0 option) new (at + n) p (omega (arith, p.next, option_size))
