-- What judging says of reading.
use Prim.Native.Nat.{ℕ}
use mathlib.Core.Path.{◌≡◌, ap}
use mathlib.Core.Bool.{Bool}
use mathlib.Core.List.{List}
use Rattle.refusal.specs.Answer.{Answer, given, refused, onward}
use Rattle.refusal.proofs.Answers.{not_refused, same_refused, onward_given}
use Rattle.packet.specs.declared.Packet.{Packet}
use Rattle.reading.specs.Reading.{reading}
use Rattle.cursor.specs.Cursor.{accepting}

refused_so : (a : Answer Packet) (k : ℕ) → onward {B = Unit {0}} a (λ _. given tt) ≡ refused k → a ≡ refused k
refused_so (given p) k e = not_refused e
refused_so (refused j) k e = ap refused (same_refused e)

-- A datagram that is judged bad is refused by reading, with that number.
pub accepting_refused : (strict : Bool) (s : List ℕ) (k : ℕ) → accepting strict s ≡ refused k → reading strict s ≡ refused k
accepting_refused strict s k e = refused_so (reading strict s) k e

-- One that is judged good is read, as some packet.
pub accepting_given : (strict : Bool) (s : List ℕ) → accepting strict s ≡ given tt → (p : Packet) × (reading strict s ≡ given p)
accepting_given strict s e = let r = onward_given (reading strict s) _ tt e in (r.0, r.1)
