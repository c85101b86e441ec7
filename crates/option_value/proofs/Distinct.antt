-- An answer in the words of the promises is that of one value only, so no second answer meets a promise.
use Prim.Native.Nat.{ℕ}
use mathlib.Core.Path.{◌≡◌, refl}
use Rattle.std.specs.Prelude.{Result, Ok, Err}
use Rattle.refusal.specs.Number.{number_of}
use Rattle.refusal.specs.declared.Refusal.{Refusal}
use Rattle.refusal.proofs.Distinct.{distinct}
use Rattle.refusal.proofs.Answers.{same_given}
use Rattle.option_value.specs.Uint.{with_zeros, uint_of, read_value}
use Rattle.option_value.specs.Text.{text_of}
use Rattle.option_value.specs.declared.Uint.{Uint}
use Rattle.option_value.specs.declared.Padded.{Padded as Read}

pub one_uint : (a b : Result Uint Refusal) → uint_of a ≡ uint_of b → a ≡ b
one_uint (Ok u) (Ok v) e =
    let p : with_zeros u.zeros u.number ≡ with_zeros v.zeros v.number = same_given e in
    λ i. Ok (record { number = (p i).value; zeros = (p i).zeros })
one_uint (Ok u) (Err x) e = cc
one_uint (Err x) (Ok u) e = cc
one_uint (Err x) (Err y) e = let k : number_of x ≡ number_of y = cc in rw (distinct x y k)

pub one_value : (a b : Result (Read ℕ) Refusal) → read_value a ≡ read_value b → a ≡ b
one_value (Ok u) (Ok v) e =
    let p : with_zeros u.zeros u.value.0 ≡ with_zeros v.zeros v.value.0 = same_given e in
    λ i. Ok (record { value = record { 0 = (p i).value }; zeros = (p i).zeros })
one_value (Ok u) (Err x) e = cc
one_value (Err x) (Ok u) e = cc
one_value (Err x) (Err y) e = let k : number_of x ≡ number_of y = cc in rw (distinct x y k)

pub one_text : (a b : Result (Unit {0}) Refusal) → text_of a ≡ text_of b → a ≡ b
one_text (Ok u) (Ok v) e = refl
one_text (Ok u) (Err y) e = cc
one_text (Err x) (Ok u) e = cc
one_text (Err x) (Err y) e = let k : number_of x ≡ number_of y = cc in rw (distinct x y k)
