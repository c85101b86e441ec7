-- No two refusals have one number: a number leads back to its refusal.
use Prim.Native.Nat.{ℕ}
use mathlib.Core.Path.{◌≡◌, refl, sym, ap, ◌∙◌}
use mathlib.Core.List.{List, [], ◌∷◌, map}
use lib.Dec.{T, eqb}
use Rattle.std.specs.Prelude.{Result, Ok, Err}
use Rattle.ground.specs.Choice.{pick}
use Rattle.ground.specs.Table.{listed}
use Rattle.refusal.specs.Answer.{written, outcome}
use Rattle.refusal.specs.Number.{number_of, refusals, numbers}
use Rattle.refusal.specs.declared.Refusal.{Refusal}
use Rattle.refusal.specs.declared.Refusal.TheVariants.{InvalidHeader, InvalidTokenLength, InvalidOptionDelta, InvalidOptionLength, InvalidPacketLength, TooManyOptions, WrongVersion, EmptyCarries, MarkerAlone, TooLong, BadRecord, NoRoom, BadUint, BadBlockSize, BadText, BadOption, BlockNumber, BadFreeze, BadFrame, ClockBack, BadPlan}

-- The first of these refusals that has a number.
among : List Refusal → ℕ → Refusal
among [] n = InvalidHeader
among (r ∷ rs) n = pick (eqb n (number_of r)) r (among rs n)

-- Its number leads back to a refusal, and is listed: computed, case by case.
known : (r : Refusal) → (among refusals (number_of r) ≡ r) × T (listed (number_of r) numbers)
unfolding among
known InvalidHeader = (refl, tt)
known InvalidTokenLength = (refl, tt)
known InvalidOptionDelta = (refl, tt)
known InvalidOptionLength = (refl, tt)
known InvalidPacketLength = (refl, tt)
known TooManyOptions = (refl, tt)
known WrongVersion = (refl, tt)
known EmptyCarries = (refl, tt)
known MarkerAlone = (refl, tt)
known TooLong = (refl, tt)
known BadRecord = (refl, tt)
known NoRoom = (refl, tt)
known BadUint = (refl, tt)
known BadBlockSize = (refl, tt)
known BadText = (refl, tt)
known BadOption = (refl, tt)
known BlockNumber = (refl, tt)
known BadFreeze = (refl, tt)
known BadFrame = (refl, tt)
known ClockBack = (refl, tt)
known BadPlan = (refl, tt)

pub distinct : (a b : Refusal) → number_of a ≡ number_of b → a ≡ b
distinct a b e = sym (known a).0 ∙ (ap (among refusals) e ∙ (known b).0)

pub number_listed : (r : Refusal) → T (listed (number_of r) numbers)
number_listed r = (known r).1

-- Each number that is listed is a refusal's.
pub numbers_are : map number_of refusals ≡ numbers
numbers_are = refl

-- An answer in the words of the promises is that of one value only.
pub one_written : (a b : Result ℕ Refusal) → written a ≡ written b → a ≡ b
one_written (Ok m) (Ok n) e = cc
one_written (Ok m) (Err y) e = cc
one_written (Err x) (Ok n) e = cc
one_written (Err x) (Err y) e = let k : number_of x ≡ number_of y = cc in rw (distinct x y k)

pub one_outcome : (a b : Result (Unit {0}) Refusal) → outcome a ≡ outcome b → a ≡ b
one_outcome (Ok u) (Ok v) e = refl
one_outcome (Ok u) (Err y) e = cc
one_outcome (Err x) (Ok v) e = cc
one_outcome (Err x) (Err y) e = let k : number_of x ≡ number_of y = cc in rw (distinct x y k)
