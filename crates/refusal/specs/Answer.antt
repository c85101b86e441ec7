-- What an operation answers, in the words of the promises: a value, or a refusal's number.
use Rattle.std.specs.Prelude.{ℕ, ◌+◌, List, length, ltb, Result, Ok, Err}
use Rattle.std.proofs.lemmas.List.Edits.{sets}
use Rattle.ground.specs.Choice.{pick}
use Rattle.refusal.specs.Number.{number_of}
use Rattle.refusal.specs.declared.Refusal.{Refusal}

pub data Answer (A : Type 0) : Type 0 where
  given : A → Answer A
  refused : ℕ → Answer A

-- Go on with the value of an answer; a refusal stays what it is.
abbrev pub onward : {A B : Type 0} → Answer A → (A → Answer B) → Answer B
onward (given a) next = next a
onward (refused k) next = refused k

-- The answer of a writer: the length of what it wrote.
abbrev pub written : Result ℕ Refusal → Answer ℕ
written (Ok n) = given n
written (Err e) = refused (number_of e)

-- The answer of an operation with no value of its own.
abbrev pub outcome : Result (Unit {0}) Refusal → Answer (Unit {0})
outcome (Ok u) = given tt
outcome (Err e) = refused (number_of e)

-- Bytes for an output with this much room: their length, or NoRoom (12).
abbrev pub fitted : ℕ → List ℕ → Answer ℕ
fitted room bytes = pick (ltb room (length bytes)) (refused 12) (given (length bytes))

-- Bytes for a place in an output of this length: where it ends before they do, or before the place, NoRoom (12).
abbrev pub room_from : {A : Type 0} → ℕ → ℕ → List ℕ → A → Answer A
room_from room at bytes a = pick (ltb room (at + length bytes)) (refused 12) (given a)

-- What a lent output holds after an answer: the bytes from a place on, and every other byte as it was; after a refusal what
-- it held.
abbrev pub after : {A : Type 0} → Answer A → ℕ → List ℕ → List ℕ → List ℕ
after (given a) at bytes old = sets old at bytes
after (refused k) at bytes old = old

-- An outcome with a value beside it in every case: what an operation answers that hands a packet or a header back.
pub record Beside (A : Type 0) : Type 0 where
  pub answer : Answer (Unit {0})
  pub value : A

-- The value of an answer, or the old one beside a refusal.
abbrev pub beside : {A : Type 0} → A → Answer A → Beside A
beside old (given v) = record { answer = given tt; value = v }
beside old (refused k) = record { answer = refused k; value = old }

-- The answer that an outcome and the value beside it stand for.
abbrev pub answered : {A : Type 0} → Beside A → Answer A
answered b = onward b.answer (λ _. given b.value)
