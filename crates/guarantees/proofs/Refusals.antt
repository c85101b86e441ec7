-- What a refused call leaves, from the shapes of the promises.
use Prim.Native.Nat.{ℕ}
use mathlib.Core.Path.{◌≡◌, refl, sym, ap, ◌∙◌}
use mathlib.Core.List.{List}
use mathlib.Core.Logic.{inl, inr}
use native.Mathlib.Omega.{arith}
use Rattle.std.specs.Prelude.{Result, Ok, Err}
use Rattle.refusal.specs.Answer.{Answer, given, refused, written, Beside, after}
use Rattle.refusal.specs.Number.{number_of}
use Rattle.refusal.specs.declared.Refusal.{Refusal}
use Rattle.refusal.proofs.Answers.{not_refused, same_given, same_refused}
use Rattle.refusal.proofs.Distinct.{distinct, number_listed, numbers_are}
use Rattle.guarantees.specs.Apart.{TellsApart}
use Rattle.guarantees.specs.Refusals.{Numbered, OutputKept, DoneOr}

pub numbered : Numbered
numbered = (number_listed, numbers_are)

pub output_kept : OutputKept
output_kept (given n) at bytes old r new w s e is = not_refused (sym w ∙ ap written is)
output_kept (refused k) at bytes old r new w s e is = s

-- A result is a value or a refusal, and of one value.
pub not_err {ℓ} : {C : Type ℓ} {A E : Type 0} {a : A} {x : E} → ◌≡◌ {A = Result A E} (Ok a) (Err x) → C
not_err e = absurd (let z : ◌≡◌ {A = ℕ} 0 1 = cc in omega arith)

pub same_ok : {A E : Type 0} {a b : A} → ◌≡◌ {A = Result A E} (Ok a) (Ok b) → a ≡ b
same_ok e = cc

-- What is told of an answer where its value, or the old one beside a refusal, stands in every case.
pub record Telling (A : Type 0) (told : Result A Refusal → Beside A) (old : A) : Type 0 where
  pub value : (v : A) → told (Ok v) ≡ record { answer = given tt; value = v }
  pub refusal : (e : Refusal) → told (Err e) ≡ record { answer = refused (number_of e); value = old }

pub besides : (A : Type 0) (told : Result A Refusal → Beside A) (old : A) → Telling A told old → (r : Result A Refusal) → DoneOr r (told r) old
besides A told old t (Ok v) = inl (v, refl, t.value v)
besides A told old t (Err e) = inr (e, refl, t.refusal e)

-- It tells answers apart.
pub apart : (A : Type 0) (told : Result A Refusal → Beside A) (old : A) → Telling A told old → TellsApart told
apart A told old t (Ok v) (Ok w) e = ap Ok (ap (λ (b : Beside A). b.value) (sym (t.value v) ∙ (e ∙ t.value w)))
apart A told old t (Ok v) (Err y) e = not_refused (ap (λ (b : Beside A). b.answer) (sym (t.value v) ∙ (e ∙ t.refusal y)))
apart A told old t (Err x) (Ok w) e = not_refused (sym (ap (λ (b : Beside A). b.answer) (sym (t.refusal x) ∙ (e ∙ t.value w))))
apart A told old t (Err x) (Err y) e = ap Err (distinct x y (same_refused (ap (λ (b : Beside A). b.answer) (sym (t.refusal x) ∙ (e ∙ t.refusal y)))))

-- What is told of an answer where there is nothing beside a refusal: it tells answers apart where it does so with values.
pub record Saying (A B : Type 0) (told : Result A Refusal → Answer B) (said : A → B) : Type 0 where
  pub value : (v : A) → told (Ok v) ≡ given (said v)
  pub refusal : (e : Refusal) → told (Err e) ≡ refused (number_of e)
  pub one : (v w : A) → said v ≡ said w → v ≡ w

pub said_apart : (A B : Type 0) (told : Result A Refusal → Answer B) (said : A → B) → Saying A B told said → TellsApart told
said_apart A B told said t (Ok v) (Ok w) e = ap Ok (t.one v w (same_given (sym (t.value v) ∙ (e ∙ t.value w))))
said_apart A B told said t (Ok v) (Err y) e = not_refused (sym (t.value v) ∙ (e ∙ t.refusal y))
said_apart A B told said t (Err x) (Ok w) e = not_refused (sym (t.value w) ∙ (sym e ∙ t.refusal x))
said_apart A B told said t (Err x) (Err y) e = ap Err (distinct x y (same_refused (sym (t.refusal x) ∙ (e ∙ t.refusal y))))

-- What follows a refusal, whatever the value would have been.
pub kept_by : {A : Type 0} (a : Answer A) (at : ℕ) (bytes old new : List ℕ) (k : ℕ) → a ≡ refused k → new ≡ after a at bytes old → new ≡ old
kept_by (given x) at bytes old new k e p = not_refused e
kept_by (refused j) at bytes old new k e p = p
