-- Laws of answers: a refusal is no value, what holds of a value, and what stands beside an outcome.
use Prim.Native.Nat.{ℕ}
use mathlib.Core.Path.{◌≡◌, refl, sym, ap, subst, ◌∙◌}
use native.Mathlib.Omega.{arith}
use Rattle.refusal.specs.Answer.{Answer, given, refused, onward, Beside, beside, answered}

-- A value is no refusal.
pub not_refused {ℓ} : {C : Type ℓ} {A : Type 0} {a : A} {k : ℕ} → given a ≡ refused k → C
not_refused e = absurd (let z : ◌≡◌ {A = ℕ} 0 1 = cc in omega arith)

-- One value, one number.
pub same_given : {A : Type 0} {a b : A} → given a ≡ given b → a ≡ b
same_given e = cc

pub same_refused : {A : Type 0} {j k : ℕ} → ◌≡◌ {A = Answer A} (refused j) (refused k) → j ≡ k
same_refused e = cc

-- What holds of the value of an answer, if it has one.
abbrev pub Given : {A : Type 0} → (A → Type 0) → Answer A → Type 0
Given P (given a) = P a
Given P (refused k) = Unit {0}

pub on_given : {A : Type 0} (P : A → Type 0) (a : Answer A) (v : A) → Given P a → a ≡ given v → P v
on_given P a v h e = subst (Given P) e h

pub given_onward : {A B : Type 0} (P : A → Type 0) (Q : B → Type 0) (a : Answer A) (next : A → Answer B) → Given P a → ((v : A) → P v → Given Q (next v)) → Given Q (onward a next)
given_onward P Q (given v) next h f = f v h
given_onward P Q (refused k) next h f = tt

-- What holds of the number of a refusal, if an answer is one.
abbrev pub Refusing : {A : Type 0} → (ℕ → Type 0) → Answer A → Type 0
Refusing P (given a) = Unit {0}
Refusing P (refused k) = P k

pub on_refused : {A : Type 0} (P : ℕ → Type 0) (a : Answer A) (k : ℕ) → Refusing P a → a ≡ refused k → P k
on_refused P a k h e = subst (Refusing P) e h

pub refusing_onward : {A B : Type 0} (P : ℕ → Type 0) (a : Answer A) (next : A → Answer B) → Refusing P a → ((v : A) → Refusing P (next v)) → Refusing P (onward a next)
refusing_onward P (given v) next h f = f v
refusing_onward P (refused k) next h f = h

-- Where going on gives a value, there was one to go on with.
pub onward_given : {A B : Type 0} (a : Answer A) (next : A → Answer B) (b : B) → onward a next ≡ given b → (v : A) × (a ≡ given v) × (next v ≡ given b)
onward_given (given v) next b e = (v, refl, e)
onward_given (refused k) next b e = not_refused (sym e)

-- What was answered, from an outcome and what stands beside it.
module _ {A : Type 0} (old : A) where
  pub was_refused : (a : Answer A) (b : Beside A) → b ≡ beside old a → (k : ℕ) → b.answer ≡ refused k → a ≡ refused k
  was_refused (given v) b e k h = not_refused (sym (ap (λ (x : Beside A). x.answer) e) ∙ h)
  was_refused (refused j) b e k h = ap refused (same_refused (sym (ap (λ (x : Beside A). x.answer) e) ∙ h))

  pub was_given : (a : Answer A) (b : Beside A) → b ≡ beside old a → b.answer ≡ given tt → a ≡ given b.value
  was_given (given v) b e h = ap (λ (x : Beside A). given x.value) (sym e)
  was_given (refused j) b e h = not_refused (sym h ∙ ap (λ (x : Beside A). x.answer) e)

  pub answered_beside : (a : Answer A) → answered (beside old a) ≡ a
  answered_beside (given v) = refl
  answered_beside (refused k) = refl

  -- Beside a refusal stands the old one.
  pub old_beside : (a : Answer A) (b : Beside A) → b ≡ beside old a → (k : ℕ) → b.answer ≡ refused k → b.value ≡ old
  old_beside (given v) b e k h = not_refused (sym (ap (λ (x : Beside A). x.answer) e) ∙ h)
  old_beside (refused j) b e k h = ap (λ (x : Beside A). x.value) e
