-- The walk that puts the options: what is left of them, and how a turn goes.
use Prim.Native.Nat.{ℕ, ◌+◌, ◌≤◌}
use mathlib.Core.Path.{◌≡◌, refl, sym, ap, ◌∙◌}
use mathlib.Core.Bool.{false}
use mathlib.Core.List.{List, [], ◌∷◌, ◌++◌, map}
use native.Mathlib.Omega.{arith}
use lib.ListN.{length, drop, length-append, length-take}
use lib.Dec.{ltb}
use borrow.Author.Tests.{ltb-false}
use Rattle.std.specs.Prelude.{Result}
use Rattle.rfc.specs.Message.{option_layout, options_layout}
use Rattle.ground.proofs.Choice.{on_le, neither}
use Rattle.placing.specs.Put.{Put}
use Rattle.placing.proofs.Puts.{put_none, put_length, put_put}
use Rattle.refusal.specs.Answer.{given, written}
use Rattle.refusal.specs.declared.Refusal.{Refusal}
use Rattle.laying.specs.Laying.{laid_option, LaysOption}
use Rattle.laying.proofs.Laid.{option_laid, lays_put}
use Rattle.packet.specs.Packet.{Stores, store_of, bytes_in, value_of}
use Rattle.packet.specs.Meaning.{option_of}
use Rattle.judging.specs.Judge.{lengths_of, falling, bad_value, bad_values}
use Rattle.packet.specs.declared.OptionRecord.{OptionRecord}
use Rattle.judging.proofs.Good.{value_length}
use Rattle.judging.proofs.Order.{falls_later}

-- A range names at most as many bytes as it says.
pub bytes_at_most : (s : List ℕ) (start len : ℕ) → length (bytes_in s start len) ≤ len
unfolding bytes_in
bytes_at_most s start len = on_le (λ (bs : List ℕ). length bs ≤ len) (start + len) (length s) (λ h. omega (arith, length-take len (drop start s))) (λ h. omega arith)

-- The bytes of the options that are left at an index, after one of the number `before`.
abbrev pub leftover : Stores → List OptionRecord → ℕ → ℕ → List ℕ
leftover s rs before i = options_layout before (map (option_of s) (drop i rs))

-- Before the option at an index: there is room for what is left, nothing bad is left, and once it is put all is put.
pub record Putting (s : Stores) (rs : List OptionRecord) (old : List ℕ) (from : ℕ) (out : List ℕ) (before next i : ℕ) : Type 0 where
  pub fits : next + length (leftover s rs before i) ≤ length old
  pub kept : length out ≡ length old
  pub ordered : falling before (drop i rs) ≡ false
  pub values : bad_values (lengths_of s) (drop i rs) ≡ false
  pub whole : (r : ℕ) (new : List ℕ) → Put out next (leftover s rs before i) r new → Put old from (leftover s rs 0 0) r new

module _ (s : Stores) (rs : List OptionRecord) (old : List ℕ) (from : ℕ) where
  pub start : from + length (leftover s rs 0 0) ≤ length old → falling 0 rs ≡ false → bad_values (lengths_of s) rs ≡ false → Putting s rs old from old 0 from 0
  start h o v = record { fits = h; kept = refl; ordered = o; values = v; whole = λ r new p. p }

  module _ (out : List ℕ) (before next i : ℕ) (w : Putting s rs old from out before next i) where
    module _ (r : OptionRecord) (d : drop i rs ≡ r ∷ drop (i + 1) rs) where
      -- The option's bytes, and then those that are left after it.
      pub split : leftover s rs before i ≡ option_layout before (option_of s r) ++ leftover s rs r.number (i + 1)
      split = ap (λ (l : List OptionRecord). options_layout before (map (option_of s) l)) d

      pub rises : before ≤ r.number
      rises = ltb-false r.number before (neither (ltb r.number before) (falling r.number (drop (i + 1) rs)) (ap (falling before) (sym d) ∙ w.ordered)).0

      pub good : (bad_value (lengths_of s) r ≡ false) × (bad_values (lengths_of s) (drop (i + 1) rs) ≡ false)
      good = neither (bad_value (lengths_of s) r) (bad_values (lengths_of s) (drop (i + 1) rs)) (ap (bad_values (lengths_of s)) (sym d) ∙ w.values)

      pub short : length (value_of s r) ≤ 65804
      short = omega (arith, bytes_at_most (store_of s r.home) r.start r.len, value_length (lengths_of s) r good.0)

      pub room : next + length (option_layout before (option_of s r)) ≤ length out
      room = omega (arith, w.kept, w.fits, simp length-append at (ap length split))

      -- So it is laid, and then the others are left.
      pub option_given : laid_option before (option_of s r) (length out) next ≡ given (length (option_layout before (option_of s r)))
      option_given = option_laid before (option_of s r) (length out) next rises short room

      pub turn : (piece : Result ℕ Refusal) (n : ℕ) (new : List ℕ) → LaysOption before (option_of s r) next out piece new → written piece ≡ given n → Putting s rs old from new r.number (next + n) (i + 1)
      turn piece n new l e =
          let p = lays_put _ next _ out piece n new option_given l e in
          record {
            fits = omega (arith, p.next, w.fits, simp length-append at (ap length split));
            kept = put_length out new _ next (next + n) p ∙ w.kept;
            ordered = sym (falls_later before _ r _ d rises) ∙ w.ordered;
            values = good.1;
            whole = λ k m q. w.whole k m (rw split (put_put _ _ _ _ _ _ _ _ p q));
          }

    pub all : drop i rs ≡ [] → Put old from (leftover s rs 0 0) next out
    all e = w.whole next out (rw (ap (λ (l : List OptionRecord). options_layout before (map (option_of s) l)) e) (put_none out next))
