-- Tests that decide a fact.
use Prim.Native.Nat.{ℕ, ◌-◌}
use mathlib.Core.Path.{◌≡◌, refl, sym, ◌∙◌}
use mathlib.Core.Bool.{Bool, true, false, not}
use mathlib.Core.List.{List}
use native.Mathlib.Omega.{arith}
use Rattle.ground.specs.Part.{part}
use Rattle.image.specs.Image.{alike, NoneMissing, NoneHeld}
use Rattle.image.proofs.Spans.{held_to, to_held, missing_to, to_missing}
use Rattle.plan_checking.specs.Steps.{Decides, yes, no}

pub decides : (P : Type 0) (t : Bool) → (t ≡ true → P) → (t ≡ false → P → ⊥) → Decides P t
decides P true f g = yes (f refl)
decides P false f g = no (g refl)

-- What a test says that came out true, or false.
pub told : {P : Type 0} {t : Bool} → Decides P t → t ≡ true → P
told (yes p) e = p
told (no n) e = let z : ◌≡◌ {A = Bool} false true = e in absurd (let k : ◌≡◌ {A = ℕ} 0 1 = cc in omega arith)

pub told_not : {P : Type 0} {t : Bool} → Decides P t → t ≡ false → P → ⊥
told_not (no n) e = n
told_not (yes p) e = λ _. let z : ◌≡◌ {A = Bool} true false = e in let k : ◌≡◌ {A = ℕ} 0 1 = cc in omega arith

-- A bit that is to be true, or false.
pub is_true : (t s : Bool) → s ≡ true → Decides (t ≡ s) t
is_true true s e = yes (sym e)
is_true false s e = no (λ h. let k : ◌≡◌ {A = ℕ} 0 1 = cc in omega arith)

pub is_false : (t s : Bool) → s ≡ false → Decides (t ≡ s) (not t)
is_false false s e = yes (sym e)
is_false true s e = no (λ h. let k : ◌≡◌ {A = ℕ} 0 1 = cc in omega arith)

pub carry : {P Q : Type 0} {t : Bool} → (P → Q) → (Q → P) → Decides P t → Decides Q t
carry f g (yes p) = yes (f p)
carry f g (no n) = no (λ q. n (g q))

pub clash : {t : Bool} → t ≡ true → t ≡ false → ⊥
clash p q = let k : ◌≡◌ {A = ℕ} 0 1 = cc in omega arith

-- What `all_are` answers.
module _ (held : List ℕ) (from to : ℕ) {t : Bool} where
  pub asked_held : t ≡ alike false (part held from (to - from)) → Decides (NoneMissing held from to) t
  asked_held e = decides (NoneMissing held from to) t (λ y. held_to held from to (sym e ∙ y)) (λ n f. clash (e ∙ to_held held from to f) n)

  pub asked_missing : t ≡ alike true (part held from (to - from)) → Decides (NoneHeld held from to) t
  asked_missing e = decides (NoneHeld held from to) t (λ y. missing_to held from to (sym e ∙ y)) (λ n f. clash (e ∙ to_missing held from to f) n)
