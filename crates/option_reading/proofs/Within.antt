-- Where reading goes: positions stay inside the datagram, and what is read is small.
use Prim.Native.Nat.{ℕ, ◌+◌, ◌-◌, ◌*◌, ◌/◌, ◌%◌, ◌<◌, ◌≤◌}
use mathlib.Core.Path.{◌≡◌, sym, ◌∙◌}
use mathlib.Core.List.{List}
use native.Mathlib.Omega.{arith}
use lib.ListN.{length, get_or}
use borrow.Author.Tests.{le-ltb}
use Rattle.ground.specs.Part.{Bytes}
use Rattle.ground.proofs.Choice.{on_lt, on_le, on_eq}
use Rattle.ground.proofs.Part.{byte_at}
use Rattle.refusal.specs.Answer.{Answer, given}
use Rattle.refusal.proofs.Answers.{Given, given_onward, on_given}
use Rattle.option_reading.specs.Option.{Value, Place, ended, option, extended, value_at, length_at, option_at, place_at, placed, end}

-- A number that was read is small, and what follows it is in the datagram.
pub record Small (s : List ℕ) (at : ℕ) (v : Value) : Type 0 where
  pub onwards : at ≤ v.next
  pub inside : v.next ≤ length s
  pub small : v.value ≤ 65804

pub extended_small : (over most : ℕ) (s : List ℕ) (at nibble : ℕ) → Bytes s → at ≤ length s → Given (Small s at) (extended over most s at nibble)
unfolding extended
extended_small over most s at nibble b h =
    on_lt (Given (Small s at)) nibble 13 (λ l. record { onwards = omega arith; inside = h; small = omega arith })
    (λ l.
    on_eq (Given (Small s at)) nibble 13
    (λ e. on_lt (Given (Small s at)) (length s - at) 1 (λ r. tt) (λ r. record { onwards = omega arith; inside = omega arith; small = omega (arith, byte_at s at b) }))
    (λ e.
    on_eq (Given (Small s at)) nibble 14
    (λ f. on_lt (Given (Small s at)) (length s - at) 2 (λ r. tt)
    (λ r. on_lt (Given (Small s at)) most (269 + (get_or s at 0 * 256 + get_or s (at + 1) 0)) (λ m. tt)
    (λ m. record { onwards = omega arith; inside = omega arith; small = omega (arith, byte_at s at b, byte_at s (at + 1) b) })))
    (λ f. tt)))

-- A place is inside the datagram: its payload starts there, or its option's value ends there.
abbrev pub Inside : List ℕ → Place → Type 0
Inside s (ended marked payload) = payload ≤ length s
Inside s (option r) = end r ≤ length s

pub value_inside : (s : List ℕ) (number start len : ℕ) → start ≤ length s → Given (Inside s) (value_at s number start len)
unfolding value_at
value_inside s number start len h =
    on_lt (Given (Inside s)) 65535 number (λ l. tt)
    (λ l. on_lt (Given (Inside s)) (length s - start) len (λ r. tt) (λ r. omega arith))

pub length_inside : (longest : ℕ) (s : List ℕ) (number at nibble : ℕ) → Bytes s → at ≤ length s → Given (Inside s) (length_at longest s number at nibble)
unfolding length_at
length_inside longest s number at nibble b h =
    given_onward (Small s at) (Inside s) (extended 4 longest s at nibble) _ (extended_small 4 longest s at nibble b h)
    (λ v small. value_inside s number v.next v.value small.inside)

pub option_inside : (longest : ℕ) (s : List ℕ) (before at : ℕ) → Bytes s → at < length s → Given (Inside s) (option_at longest s before at)
unfolding option_at
option_inside longest s before at b h =
    given_onward (Small s (at + 1)) (Inside s) (extended 3 65535 s (at + 1) (get_or s at 0 / 16)) _ (extended_small 3 65535 s (at + 1) (get_or s at 0 / 16) b (omega arith))
    (λ v small. length_inside longest s (before + v.value) v.next (get_or s at 0 % 16) b small.inside)

pub place_inside : (longest : ℕ) (s : List ℕ) (before at : ℕ) → Bytes s → Given (Inside s) (place_at longest s before at)
unfolding place_at
place_inside longest s before at b =
    on_le (Given (Inside s)) (length s) at (λ l. omega arith)
    (λ l. on_eq (Given (Inside s)) (get_or s at 0) 255 (λ e. omega arith) (λ e. option_inside longest s before at b l))

-- In a datagram that is not too long, what is placed is what stands there, and it is inside.
module _ (longest : ℕ) (s : List ℕ) (before at : ℕ) (short : length s ≤ 70000) where
  pub here : {a : Answer Place} → a ≡ placed longest s before at → place_at longest s before at ≡ a
  unfolding placed
  here e = sym (e ∙ rw (le-ltb _ _ short))

  pub inside_here : (p : Place) → Bytes s → given p ≡ placed longest s before at → Inside s p
  inside_here p b e = on_given (Inside s) (place_at longest s before at) p (place_inside longest s before at b) (here e)
