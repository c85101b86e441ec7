-- What stands at a place, to one who steps: an option is its number and a range of the datagram.
use Prim.Native.Nat.{ℕ, ◌+◌, ◌-◌, ◌/◌, ◌%◌, ◌≤◌}
use mathlib.Core.Path.{◌≡◌, refl, sym, ap, ◌∙◌}
use mathlib.Core.List.{List}
use lib.ListN.{length, get_or}
use borrow.Author.Tests.{le-ltb}
use Rattle.ground.proofs.Choice.{on_lt, on_le, on_eq}
use Rattle.refusal.specs.Answer.{Answer, given, refused, onward}
use Rattle.refusal.proofs.Answers.{Given, given_onward}
use Rattle.packet.specs.Packet.{in_datagram}
use Rattle.option_reading.specs.Option.{Value, Place, ended, option, extended, value_at, length_at, option_at, place_at, placed}
use Rattle.reading.specs.Reading.{longest}
use Rattle.cursor.specs.Cursor.{record_of, seen_at, step_of}
use Rattle.cursor.specs.declared.Cursor.{Cursor}

-- Its record is made of these two.
abbrev pub Recorded : Place → Type 0
Recorded (ended marked payload) = Unit
Recorded (option r) = r ≡ record_of r.number (in_datagram r.start r.len)

-- Of every value of an answer something holds.
anyhow : {A : Type 0} (a : Answer A) → Given (λ (v : A). Unit {0}) a
anyhow (given v) = tt
anyhow (refused k) = tt

value_recorded : (s : List ℕ) (number start len : ℕ) → Given Recorded (value_at s number start len)
unfolding value_at
value_recorded s number start len =
    on_lt (Given Recorded) 65535 number (λ l. tt) (λ l. on_lt (Given Recorded) (length s - start) len (λ r. tt) (λ r. refl))

length_recorded : (longest : ℕ) (s : List ℕ) (number at nibble : ℕ) → Given Recorded (length_at longest s number at nibble)
unfolding length_at
length_recorded longest s number at nibble =
    given_onward (λ (v : Value). Unit {0}) Recorded (extended 4 longest s at nibble) _ (anyhow (extended 4 longest s at nibble)) (λ v u. value_recorded s number v.next v.value)

option_recorded : (longest : ℕ) (s : List ℕ) (before at : ℕ) → Given Recorded (option_at longest s before at)
unfolding option_at
option_recorded longest s before at =
    given_onward (λ (v : Value). Unit {0}) Recorded (extended 3 65535 s (at + 1) (get_or s at 0 / 16)) _ (anyhow (extended 3 65535 s (at + 1) (get_or s at 0 / 16)))
    (λ v u. length_recorded longest s (before + v.value) v.next (get_or s at 0 % 16))

pub place_recorded : (longest : ℕ) (s : List ℕ) (before at : ℕ) → Given Recorded (place_at longest s before at)
unfolding place_at
place_recorded longest s before at =
    on_le (Given Recorded) (length s) at (λ l. tt) (λ l. on_eq (Given Recorded) (get_or s at 0) 255 (λ e. tt) (λ e. option_recorded longest s before at))

-- A step from inside a datagram that is not too long is what stands there.
pub step_inside : (s : List ℕ) (c : Cursor) → length s ≤ 70000 → c.at ≤ length s
    → step_of s c ≡ onward (place_at (longest c.strict) s c.number c.at) (seen_at s c)
unfolding step_of
step_inside s c short h = rw (le-ltb _ _ short, le-ltb _ _ h)

-- The same, of what was found there with this bound of a value.
pub step_found : (s : List ℕ) (c : Cursor) → length s ≤ 70000 → c.at ≤ length s → (most : ℕ) → most ≡ longest c.strict
    → (p : Answer Place) → p ≡ placed most s c.number c.at → step_of s c ≡ onward p (seen_at s c)
unfolding placed
step_found s c short h most m p e =
    let q : p ≡ place_at most s c.number c.at = e ∙ rw (le-ltb _ _ short) in
    step_inside s c short h
    ∙ ap (λ (a : Answer Place). onward a (seen_at s c)) (ap (λ (n : ℕ). place_at n s c.number c.at) (sym m) ∙ sym q)
