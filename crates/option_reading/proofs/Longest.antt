-- Another longest value: what is read with one is read with another, or refused 4 where its value is longer.
use Prim.Native.Nat.{ℕ, ◌+◌, ◌-◌, ◌*◌, ◌/◌, ◌%◌, ◌≤◌}
use mathlib.Core.Path.{◌≡◌, refl}
use mathlib.Core.List.{List}
use native.Mathlib.Omega.{arith}
use lib.ListN.{length, get_or}
use lib.Dec.{leb}
use borrow.Author.Tests.{lt-ltb, le-ltb, le-leb, lt-leb, eq-eqb, ne_eqb}
use Rattle.ground.specs.Choice.{pick}
use Rattle.ground.specs.Part.{Bytes}
use Rattle.ground.proofs.Choice.{on_lt, on_le, on_eq, by_lt}
use Rattle.ground.proofs.Part.{byte_at}
use Rattle.refusal.specs.Answer.{Answer, given, refused, onward}
use Rattle.refusal.proofs.Answers.{Given, given_onward}
use Rattle.option_reading.specs.Option.{Value, Place, ended, option, extended, value_at, length_at, option_at, place_at}

-- What another longest value makes of a number that was read, and of a place.
abbrev capped : ℕ → ℕ → Value → Answer Value
capped over most v = pick (leb v.value most) (given v) (refused over)

abbrev pub capped_place : ℕ → Place → Answer Place
capped_place most (ended marked payload) = given (ended marked payload)
capped_place most (option r) = pick (leb r.len most) (given (option r)) (refused 4)

-- Steps that go on alike go on from one answer alike.
onward_alike : {A B : Type 0} (f g : A → Answer B) (cap : B → Answer B) (a : Answer A) → ((v : A) → Given (λ (b : B). g v ≡ cap b) (f v)) → Given (λ (b : B). onward a g ≡ cap b) (onward a f)
onward_alike f g cap (given v) h = h v
onward_alike f g cap (refused k) h = tt

-- Numbers below 269 have at most one byte of extension, which nothing caps.
module _ (longest most : ℕ) (wide : 268 ≤ most) (s : List ℕ) (b : Bytes s) where
  extended_capped : (over at nibble : ℕ) → Given (λ (v : Value). extended over most s at nibble ≡ capped over most v) (extended over longest s at nibble)
  unfolding extended
  extended_capped over at nibble =
      let P : Answer Value → Type 0 = Given (λ (v : Value). extended over most s at nibble ≡ capped over most v) in
      let one = 13 + get_or s at 0 in
      let two = 269 + (get_or s at 0 * 256 + get_or s (at + 1) 0) in
      on_lt P nibble 13 (λ l. rw (lt-ltb nibble 13 l, le-leb nibble most (omega arith)) refl)
      (λ l. on_eq P nibble 13
      (λ e. on_lt P (length s - at) 1 (λ r. tt)
      (λ r. rw (le-ltb nibble 13 l, eq-eqb nibble 13 e, le-ltb (length s - at) 1 r, le-leb one most (omega (arith, byte_at s at b))) refl))
      (λ e. on_eq P nibble 14
      (λ f. on_lt P (length s - at) 2 (λ r. tt)
      (λ r. on_lt P longest two (λ m. tt)
      (λ m. rw (le-ltb nibble 13 l, ne_eqb nibble 13 e, eq-eqb nibble 14 f, le-ltb (length s - at) 2 r)
      (by_lt most two (λ h. rw (lt-ltb most two h, lt-leb two most h) refl) (λ h. rw (le-ltb most two h, le-leb two most h) refl)))))
      (λ f. tt)))

  length_capped : (number at nibble : ℕ) → Given (λ (p : Place). length_at most s number at nibble ≡ capped_place most p) (length_at longest s number at nibble)
  unfolding length_at value_at
  length_capped number at nibble =
      let P : Answer Place → Type 0 = Given (λ (p : Place). length_at most s number at nibble ≡ capped_place most p) in
      given_onward (λ (v : Value). extended 4 most s at nibble ≡ capped 4 most v) (λ (p : Place). length_at most s number at nibble ≡ capped_place most p) (extended 4 longest s at nibble) _
      (extended_capped 4 at nibble)
      (λ v e. on_lt P 65535 number (λ l. tt)
      (λ l. on_lt P (length s - v.next) v.value (λ r. tt)
      (λ r. rw e (by_lt most v.value (λ h. rw (lt-leb v.value most h) refl)
      (λ h. rw (le-leb v.value most h, le-ltb 65535 number l, le-ltb (length s - v.next) v.value r) refl)))))

  pub place_capped : (before at : ℕ) → Given (λ (p : Place). place_at most s before at ≡ capped_place most p) (place_at longest s before at)
  unfolding place_at option_at
  place_capped before at =
      let P : Answer Place → Type 0 = Given (λ (p : Place). place_at most s before at ≡ capped_place most p) in
      on_le P (length s) at (λ l. rw (le-leb (length s) at l) refl)
      (λ l. on_eq P (get_or s at 0) 255 (λ e. rw (lt-leb (length s) at l, eq-eqb (get_or s at 0) 255 e) refl)
      (λ e. rw (lt-leb (length s) at l, ne_eqb (get_or s at 0) 255 e)
      (onward_alike _ _ (capped_place most) (extended 3 65535 s (at + 1) (get_or s at 0 / 16)) (λ delta. length_capped (before + delta.value) delta.next (get_or s at 0 % 16)))))
