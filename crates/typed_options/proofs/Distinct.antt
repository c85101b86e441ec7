-- An answer in the words of the promises is that of one value only, so no second answer meets a promise.
use Prim.Native.Nat.{ℕ}
use mathlib.Core.Path.{◌≡◌, refl}
use Rattle.std.specs.Prelude.{Option, None, Some, Result, Ok, Err}
use Rattle.refusal.specs.Number.{number_of}
use Rattle.refusal.specs.declared.Refusal.{Refusal}
use Rattle.refusal.proofs.Distinct.{distinct}
use Rattle.refusal.proofs.Answers.{same_given}
use Rattle.option_value.specs.Uint.{Padded, with_zeros}
use Rattle.typed_options.specs.Getters.{number, observed}
use Rattle.typed_options.specs.declared.Observe.{Observe}

same_number : {p q : Padded ℕ} → number p ≡ number q → p ≡ q
same_number e = cc

pub one_observe : (a b : Result (Option Observe) Refusal) → observed a ≡ observed b → a ≡ b
one_observe (Ok (Some x)) (Ok (Some y)) e =
    let p : ◌≡◌ {A = Padded ℕ} (with_zeros x.zeros x.value) (with_zeros y.zeros y.value) = same_number (same_given e) in
    λ i. Ok (Some (record { value = (p i).value; zeros = (p i).zeros }))
one_observe (Ok (Some x)) (Ok None) e = cc
one_observe (Ok (Some x)) (Err y) e = cc
one_observe (Ok None) (Ok (Some y)) e = cc
one_observe (Ok None) (Ok None) e = refl
one_observe (Ok None) (Err y) e = cc
one_observe (Err x) (Ok (Some y)) e = cc
one_observe (Err x) (Ok None) e = cc
one_observe (Err x) (Err y) e = let k : number_of x ≡ number_of y = cc in rw (distinct x y k)
