-- Laws of a choice by a test on numbers: to show something of both choices, each with what its test says.
use Prim.Native.Nat.{ℕ, ◌<◌, ◌≤◌}
use mathlib.Core.Bool.{Bool, true, false}
use mathlib.Core.Path.{◌≡◌, refl}
use lib.Dec.{ltb, leb, eqb}
use borrow.Author.Tests.{ltb-true, ltb-false, leb-true, leb-false, eqb-true, eqb-false}
use Rattle.ground.specs.Choice.{pick, both, either}

pub on {ℓ κ} : {A : Type ℓ} (P : A → Type κ) (t : Bool) {x y : A} → (t ≡ true → P x) → (t ≡ false → P y) → P (pick t x y)
on P true f g = f refl
on P false f g = g refl

pub on_lt {ℓ κ} : {A : Type ℓ} (P : A → Type κ) (a b : ℕ) {x y : A} → (a < b → P x) → (b ≤ a → P y) → P (pick (ltb a b) x y)
on_lt P a b f g = on P (ltb a b) (λ e. f (ltb-true a b e)) (λ e. g (ltb-false a b e))

pub on_le {ℓ κ} : {A : Type ℓ} (P : A → Type κ) (a b : ℕ) {x y : A} → (a ≤ b → P x) → (b < a → P y) → P (pick (leb a b) x y)
on_le P a b f g = on P (leb a b) (λ e. f (leb-true a b e)) (λ e. g (leb-false a b e))

pub on_eq {ℓ κ} : {A : Type ℓ} (P : A → Type κ) (a b : ℕ) {x y : A} → (a ≡ b → P x) → ((a ≡ b → ⊥) → P y) → P (pick (eqb a b) x y)
on_eq P a b f g = on P (eqb a b) (λ e. f (eqb-true a b e)) (λ e. g (eqb-false a b e))

-- To show anything by two cases of an order.
pub by_lt {κ} : {A : Type κ} (a b : ℕ) → (a < b → A) → (b ≤ a → A) → A
by_lt {A} a b f g = on_lt (λ (_ : Unit {0}). A) a b {x = tt} {y = tt} f g

pub by_eq {κ} : {A : Type κ} (a b : ℕ) → (a ≡ b → A) → ((a ≡ b → ⊥) → A) → A
by_eq {A} a b f g = on_eq (λ (_ : Unit {0}). A) a b {x = tt} {y = tt} f g

-- Neither test holds exactly where `either` doesn't; `either` holds where the second does.
pub neither : (a b : Bool) → either a b ≡ false → (a ≡ false) × (b ≡ false)
neither true b e = (e, cc)
neither false b e = (refl, e)

pub none_of : (a b : Bool) → a ≡ false → b ≡ false → either a b ≡ false
none_of a b p q = rw (p, q)

pub either_right : (a b : Bool) → b ≡ true → either a b ≡ true
either_right true b e = refl
either_right false b e = e

-- Both tests hold exactly where `both` does.
pub both_true : (a b : Bool) → both a b ≡ true → (a ≡ true) × (b ≡ true)
both_true true b e = (refl, e)
both_true false b e = (e, cc)

pub true_both : (a b : Bool) → a ≡ true → b ≡ true → both a b ≡ true
true_both a b p q = rw (p, q)

-- Where two tests don't both hold and the first does, the second doesn't.
pub not_both : (a b : Bool) → both a b ≡ false → a ≡ true → b ≡ false
not_both true b e t = e
not_both false b e t = cc
