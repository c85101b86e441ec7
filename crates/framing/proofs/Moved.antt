-- Options are judged by the bytes from where they start: what stands before those only moves the positions that are found.
use Prim.Native.Nat.{ℕ, zero, suc, ◌+◌, ◌-◌, ◌/◌, ◌%◌, ◌≤◌}
use mathlib.Core.Path.{◌≡◌, refl, sym, ◌∙◌}
use mathlib.Core.Bool.{Bool, true, false}
use mathlib.Core.List.{List, []}
use native.Mathlib.Omega.{arith}
use lib.ListN.{length, get_or, drop, length-drop}
use lib.Seq.{get_or-drop}
use lib.Dec.{leb, eqb}
use borrow.Author.Tests.{le-leb, lt-leb, eq-eqb, ne_eqb}
use Rattle.ground.specs.Choice.{pick}
use Rattle.ground.proofs.Choice.{by_lt, by_eq}
use Rattle.refusal.specs.Answer.{Answer, given, refused, onward}
use Rattle.packet.specs.declared.OptionRecord.{OptionRecord}
use Rattle.option_reading.specs.Option.{Value, Place, ended, option, extended, value_at, length_at, option_at, place_at, end}
use Rattle.reading.specs.Options.{Tail, options, on_place, before}
use Rattle.framing.specs.Judging.{end_judged, options_judged}

-- A value and a place that are found `k` bytes further on.
abbrev value_moved : ℕ → Value → Answer Value
value_moved k v = given (record { value = v.value; next = k + v.next })

abbrev place_on : ℕ → Place → Answer Place
place_on k (ended marked payload) = given (ended marked (k + payload))
place_on k (option r) = given (option (record { number = r.number; home = r.home; spare = r.spare; start = k + r.start; len = r.len }))

onward_pick : {A B : Type 0} (t : Bool) (x y : Answer A) (next : A → Answer B) → onward (pick t x y) next ≡ pick t (onward x next) (onward y next)
onward_pick true x y next = refl
onward_pick false x y next = refl

-- An option before those that follow changes no judgement of theirs.
pub forget : (t : List ℕ) (r : OptionRecord) (a : Answer Tail) → onward (onward a (before r)) (end_judged t) ≡ onward a (end_judged t)
forget t r (given tail) = refl
forget t r (refused j) = refl

module _ (s : List ℕ) (k : ℕ) (inside : k ≤ length s) where
  left : (at : ℕ) → length s - (k + at) ≡ length (drop k s) - at
  left at = rw length-drop (omega arith)

  byte : (at : ℕ) → get_or s (k + at) 0 ≡ get_or (drop k s) at 0
  byte at = sym (get_or-drop k s at 0)

  past : (at i : ℕ) → k + at + i ≡ k + (at + i)
  past at i = omega arith

  whole : length s ≡ k + length (drop k s)
  whole = rw length-drop (omega arith)

  extended_on : (over most at nibble : ℕ) → extended over most s (k + at) nibble ≡ onward (extended over most (drop k s) at nibble) (value_moved k)
  unfolding extended
  extended_on over most at nibble = rw (left at, past at 1, past at 2, byte at, byte (at + 1)) (sym (simp onward_pick))

  value_on : (number start len : ℕ) → value_at s number (k + start) len ≡ onward (value_at (drop k s) number start len) (place_on k)
  unfolding value_at
  value_on number start len = rw (left start) (sym (simp onward_pick))

  after_length : (number : ℕ) (a : Answer Value) → onward (onward a (value_moved k)) (λ len. value_at s number len.next len.value) ≡ onward (onward a (λ len. value_at (drop k s) number len.next len.value)) (place_on k)
  after_length number (given v) = value_on number v.next v.value
  after_length number (refused j) = refl

  length_on : (longest number at nibble : ℕ) → length_at longest s number (k + at) nibble ≡ onward (length_at longest (drop k s) number at nibble) (place_on k)
  unfolding length_at
  length_on longest number at nibble = rw (extended_on 4 longest at nibble) (after_length number (extended 4 longest (drop k s) at nibble))

  after_delta : (longest before nibble : ℕ) (a : Answer Value) → onward (onward a (value_moved k)) (λ delta. length_at longest s (before + delta.value) delta.next nibble) ≡ onward (onward a (λ delta. length_at longest (drop k s) (before + delta.value) delta.next nibble)) (place_on k)
  after_delta longest before nibble (given v) = length_on longest (before + v.value) v.next nibble
  after_delta longest before nibble (refused j) = refl

  option_on : (longest before at : ℕ) → option_at longest s before (k + at) ≡ onward (option_at longest (drop k s) before at) (place_on k)
  unfolding option_at
  option_on longest before at =
      rw (past at 1, byte at, extended_on 3 65535 (at + 1) (get_or (drop k s) at 0 / 16))
      (after_delta longest before (get_or (drop k s) at 0 % 16) (extended 3 65535 (drop k s) (at + 1) (get_or (drop k s) at 0 / 16)))

  ends_on : (at : ℕ) → leb (length s) (k + at) ≡ leb (length (drop k s)) at
  ends_on at =
      rw length-drop
      (by_lt (k + at) (length s)
      (λ h. lt-leb (length s) (k + at) h ∙ sym (lt-leb (length s - k) at (omega arith)))
      (λ h. le-leb (length s) (k + at) h ∙ sym (le-leb (length s - k) at (omega arith))))

  -- What stands at a position stands there `k` bytes further on.
  place_on_lem : (longest before at : ℕ) → place_at longest s before (k + at) ≡ onward (place_at longest (drop k s) before at) (place_on k)
  unfolding place_at
  place_on_lem longest before at =
      rw (ends_on at, byte at, past at 1, option_on longest before at, whole) (sym (simp onward_pick))

  alone_on : (payload : ℕ) → eqb (k + payload) (length s) ≡ eqb payload (length (drop k s))
  alone_on payload =
      rw length-drop
      (by_eq (k + payload) (length s)
      (λ e. eq-eqb (k + payload) (length s) e ∙ sym (eq-eqb payload (length s - k) (omega arith)))
      (λ n. ne_eqb (k + payload) (length s) n ∙ sym (ne_eqb payload (length s - k) (λ e. n (omega arith)))))

  end_on : (marked : Bool) (payload : ℕ) → end_judged s (record { records = []; marked = marked; payload = k + payload }) ≡ end_judged (drop k s) (record { records = []; marked = marked; payload = payload })
  end_on marked payload = rw (alone_on payload)

  none_more : (a : Answer Place) → onward (on_place (onward a (place_on k)) (λ r. refused 6)) (end_judged s) ≡ onward (on_place a (λ r. refused 6)) (end_judged (drop k s))
  none_more (given (ended marked payload)) = end_on marked payload
  none_more (given (option r)) = refl
  none_more (refused j) = refl

  one_more : (room : ℕ) → ((number at : ℕ) → options_judged s room number (k + at) ≡ options_judged (drop k s) room number at) → (a : Answer Place)
      → onward (on_place (onward a (place_on k)) (λ r. onward (options 65804 s room r.number (end r)) (before r))) (end_judged s)
      ≡ onward (on_place a (λ r. onward (options 65804 (drop k s) room r.number (end r)) (before r))) (end_judged (drop k s))
  unfolding options_judged
  one_more room same (given (ended marked payload)) = end_on marked payload
  one_more room same (given (option r)) =
      rw (forget s _ (options 65804 s room r.number (k + r.start + r.len)), forget (drop k s) r (options 65804 (drop k s) room r.number (end r)), past r.start r.len)
      (same r.number (end r))
  one_more room same (refused j) = refl

  -- So the judgement is that of the bytes from there on.
  pub judged_on : (room number at : ℕ) → options_judged s room number (k + at) ≡ options_judged (drop k s) room number at
  unfolding options_judged options
  judged_on zero number at = rw (place_on_lem 65804 number at) (none_more (place_at 65804 (drop k s) number at))
  judged_on (suc room) number at = rw (place_on_lem 65804 number at) (one_more room (judged_on room) (place_at 65804 (drop k s) number at))
