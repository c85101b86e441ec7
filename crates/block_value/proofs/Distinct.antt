-- An answer in the words of the promises is that of one value only.
use mathlib.Core.Path.{◌≡◌, ap}
use Rattle.refusal.specs.Number.{number_of}
use Rattle.refusal.proofs.Distinct.{distinct}
use Rattle.refusal.proofs.Answers.{same_given}
use Rattle.rfc.specs.Block.{Block}
use Rattle.option_value.specs.Uint.{Padded, with_zeros}
use Rattle.block_value.specs.Answers.{meant, built, block_read, sized}
use Rattle.block_value.specs.declared.BlockValue.{BlockValue}
use Rattle.std.specs.Prelude.{ℕ, Result, Ok, Err}
use Rattle.refusal.specs.declared.Refusal.{Refusal}
use Rattle.block_value.specs.declared.BlockRead.{BlockRead}

pub one_meant : (a b : BlockValue) → meant a ≡ meant b → a ≡ b
one_meant a b e = λ i. record { num = (e i).num; more = (e i).more; size_exponent = (e i).szx }

pub one_built : (a b : Result BlockValue Refusal) → built a ≡ built b → a ≡ b
one_built (Ok a) (Ok b) e = let m : meant a ≡ meant b = cc in ap Ok (one_meant a b m)
one_built (Ok a) (Err y) e = cc
one_built (Err x) (Ok b) e = cc
one_built (Err x) (Err y) e = let k : number_of x ≡ number_of y = cc in rw (distinct x y k)

pub one_block_read : (a b : Result BlockRead Refusal) → block_read a ≡ block_read b → a ≡ b
one_block_read (Ok a) (Ok b) e =
    let p : ◌≡◌ {A = Padded Block} (with_zeros a.zeros (meant a.block)) (with_zeros b.zeros (meant b.block)) = same_given e in
    let m : a.block ≡ b.block = one_meant a.block b.block (ap (λ (p : Padded Block). p.value) p) in
    λ i. Ok (record { block = m i; zeros = (p i).zeros })
one_block_read (Ok a) (Err x) e = cc
one_block_read (Err x) (Ok b) e = cc
one_block_read (Err x) (Err y) e = let k : number_of x ≡ number_of y = cc in rw (distinct x y k)

pub one_sized : (a b : Result ℕ Refusal) → sized a ≡ sized b → a ≡ b
one_sized (Ok m) (Ok n) e = cc
one_sized (Ok m) (Err y) e = cc
one_sized (Err x) (Ok n) e = cc
one_sized (Err x) (Err y) e = let k : number_of x ≡ number_of y = cc in rw (distinct x y k)
