-- Every operation answers a value or one numbered refusal, and a refused call changes no lent byte or number, no packet and no
-- header. Here is what is said of all of them; what a refused call leaves stands on the page of its subject.
use Rattle.std.specs.Prelude.{ℕ, ◌≡◌, List, map, ◌⊎◌, T, Result, Ok, Err}
use Rattle.ground.specs.Table.{listed}
use Rattle.refusal.specs.Answer.{Answer, given, refused, written, after, Beside}
use Rattle.refusal.specs.Number.{number_of, refusals, numbers}
use Rattle.refusal.specs.declared.Refusal.{Refusal}

-- A refusal's number is one of those that there are, and each of those is a refusal's.
abbrev pub Numbered : Type 0
Numbered = ((e : Refusal) → T (listed (number_of e) numbers)) × (map number_of refusals ≡ numbers)

-- A refused writer leaves the output as it was, whatever its answer and its bytes are, and wherever it puts them.
abbrev pub OutputKept : Type 0
OutputKept =
    (a : Answer ℕ) (at : ℕ) (bytes old : List ℕ) (r : Result ℕ Refusal) (new : List ℕ) → written r ≡ a → new ≡ after a at bytes old
    → (e : Refusal) → r ≡ Err e → new ≡ old

-- How an operation ended, without its value.
abbrev pub ended : {A : Type 0} → Result A Refusal → Result (Unit {0}) Refusal
ended (Ok v) = Ok tt
ended (Err e) = Err e

-- It is done, with its value; or it is refused, and what stands beside the refusal's number is the old value. (`told` is what is
-- said of the answer: its outcome, and a value beside it in every case.)
abbrev pub DoneOr : {A : Type 0} → Result A Refusal → Beside A → A → Type 0
DoneOr {A} r told old =
    ((v : A) × (r ≡ Ok v) × (told ≡ record { answer = given tt; value = v }))
    ⊎ ((e : Refusal) × (r ≡ Err e) × (told ≡ record { answer = refused (number_of e); value = old }))
