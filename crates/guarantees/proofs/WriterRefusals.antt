-- The refusals of a writer: the order of its tests, walked in each mode.
use Prim.Native.Nat.{ℕ}
use mathlib.Core.Path.{◌≡◌, refl, sym, ap, ◌∙◌, subst}
use mathlib.Core.Bool.{Bool, true, false, not}
use lib.Dec.{T, ltb, eqb}
use lib.ListN.{length}
use native.Mathlib.Omega.{arith}
use Rattle.std.specs.Prelude.{Result, Ok, Err}
use Rattle.ground.specs.Table.{listed}
use Rattle.ground.specs.Choice.{both}
use Rattle.ground.proofs.Choice.{on, on_lt}
use Rattle.refusal.specs.Answer.{Answer, refused, onward, written, fitted}
use Rattle.refusal.specs.Number.{number_of}
use Rattle.refusal.specs.declared.Refusal.{Refusal}
use Rattle.refusal.proofs.Answers.{Refusing, on_refused, refusing_onward, not_refused, same_refused}
use Rattle.packet.specs.Packet.{Stores}
use Rattle.packet.specs.declared.Packet.{Packet}
use Rattle.judging.specs.Judge.{lengths_of, is_too_long, bad_packet}
use Rattle.measuring.specs.Measuring.{counted, over, empty_carries, strictly, limited}
use Rattle.measuring.specs.declared.Limit.{Limit}
use Rattle.writing.specs.Writing.{bytes_written, writing}
use Rattle.guarantees.specs.WriterRefusals.{writer_numbers, WriterRefusals, Neither, SoundExactly}
use Rattle.guarantees.specs.StrictWriting.{Sound}

-- An answer that is refused, if it is, with one of the mode's numbers.
abbrev Among : Bool → {A : Type 0} → Answer A → Type 0
Among strict a = Refusing (λ k. T (listed k (writer_numbers strict))) a

strict_asks : (strict : Bool) (p : Packet) → Among strict (strictly strict p)
unfolding strictly
strict_asks true p =
    on (Among true) (not (eqb p.header.version 1)) (λ v. tt)
    (λ v. on (Among true) (ltb 8 p.token.len) (λ t. tt) (λ t. on (Among true) (empty_carries p) (λ c. tt) (λ c. tt)))
strict_asks false p = tt

-- Those that both modes give.
common : (strict : Bool) → T (listed 10 (writer_numbers strict)) × T (listed 11 (writer_numbers strict)) × T (listed 5 (writer_numbers strict)) × T (listed 12 (writer_numbers strict))
common true = (tt, tt, tt, tt)
common false = (tt, tt, tt, tt)

module _ (strict : Bool) (limit : Limit) (room : ℕ) (s : Stores) (p : Packet) where
  size_asks : Among strict (limited limit (counted strict p) (fitted room (bytes_written strict s p)))
  unfolding limited
  size_asks =
      on (Among strict) (over limit (counted strict p)) (λ o. (common strict).2)
      (λ o. on_lt (Among strict) room (length (bytes_written strict s p)) (λ r. (common strict).3) (λ r. tt))

  among : Among strict (writing strict limit room s p)
  unfolding writing
  among =
      on (Among strict) (is_too_long (lengths_of s)) (λ h. (common strict).0)
      (λ h. on (Among strict) (bad_packet (lengths_of s) p) (λ b. (common strict).1)
      (λ b. refusing_onward _ (strictly strict p) _ (strict_asks strict p) (λ _. size_asks)))

pub writer_refusals : WriterRefusals
writer_refusals strict limit p s old r new promise e is =
    on_refused (λ k. T (listed k (writer_numbers strict))) (writing strict limit (length old) s p) (number_of e) (among strict limit (length old) s p) (sym promise.answer ∙ ap written is)

-- What is asked after 10 and 11 is refused neither.
module _ (strict : Bool) (limit : Limit) (room : ℕ) (s : Stores) (p : Packet) where
  abbrev after : Answer ℕ
  after = onward (strictly strict p) (λ _. limited limit (counted strict p) (fitted room (bytes_written strict s p)))

  abbrev Other : {A : Type 0} → Answer A → Type 0
  Other a = Refusing Neither a

  strict_other : Other (strictly strict p)
  unfolding strictly
  strict_other =
      on Other (both strict (not (eqb p.header.version 1))) (λ v. (λ e. omega (arith, e), λ e. omega (arith, e)))
      (λ v. on Other (both strict (ltb 8 p.token.len)) (λ t. (λ e. omega (arith, e), λ e. omega (arith, e)))
      (λ t. on Other (both strict (empty_carries p)) (λ c. (λ e. omega (arith, e), λ e. omega (arith, e))) (λ c. tt)))

  size_other : Other (limited limit (counted strict p) (fitted room (bytes_written strict s p)))
  unfolding limited
  size_other =
      on Other (over limit (counted strict p)) (λ o. (λ e. omega (arith, e), λ e. omega (arith, e)))
      (λ o. on_lt Other room (length (bytes_written strict s p)) (λ r. (λ e. omega (arith, e), λ e. omega (arith, e))) (λ r. tt))

  other : Other after
  other = refusing_onward Neither (strictly strict p) _ strict_other (λ _. size_other)

  -- A writer's answer, and that it is neither.
  module _ (r : Result ℕ Refusal) (answer : written r ≡ writing strict limit room s p) where
    sound_then : Sound s p → (e : Refusal) → r ≡ Err e → Neither (number_of e)
    unfolding writing
    sound_then k e is =
        let rest : written r ≡ after = answer ∙ rw (k.short, k.records) refl in
        on_refused Neither after (number_of e) other (sym rest ∙ ap written is)

    module _ (f : (e : Refusal) → r ≡ Err e → Neither (number_of e)) where
      not_so : (w : Result ℕ Refusal) → r ≡ w → (k : ℕ) → written w ≡ refused k → Neither k
      not_so (Ok n) is k e = not_refused e
      not_so (Err e) is k q = subst Neither (same_refused q) (f e is)

      good : (t : Bool) → bad_packet (lengths_of s) p ≡ t → is_too_long (lengths_of s) ≡ false → bad_packet (lengths_of s) p ≡ false
      unfolding writing
      good true b h = absurd ((not_so r refl 11 (answer ∙ rw (h, b) refl)).1 refl)
      good false b h = b

      short : (t : Bool) → is_too_long (lengths_of s) ≡ t → is_too_long (lengths_of s) ≡ false
      unfolding writing
      short true long = absurd ((not_so r refl 10 (answer ∙ rw long refl)).0 refl)
      short false h = h

      then_sound : Sound s p
      then_sound =
          let fits = short (is_too_long (lengths_of s)) refl in
          record { short = fits; records = good (bad_packet (lengths_of s) p) refl fits }

pub sound_exactly : SoundExactly
sound_exactly strict limit p s old r new promise =
    (sound_then strict limit (length old) s p r promise.answer, then_sound strict limit (length old) s p r promise.answer)
