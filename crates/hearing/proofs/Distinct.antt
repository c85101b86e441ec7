-- What was heard is told apart: a verdict from every other, and from each refusal.
use mathlib.Core.Path.{◌≡◌, refl, sym}
use Rattle.refusal.proofs.Answers.{not_refused, same_given, same_refused}
use Rattle.refusal.proofs.Distinct.{distinct}
use Rattle.hearing.specs.declared.Verdict.{Verdict}
use Rattle.hearing.specs.declared.Verdict.TheVariants.{New, Duplicate, Passed}
use Rattle.std.specs.Prelude.{Result, Ok, Err}
use Rattle.refusal.specs.declared.Refusal.{Refusal}
use Rattle.hearing.specs.Hearing.{verdict_of, heard_of}

one_verdict : (x y : Verdict) → verdict_of x ≡ verdict_of y → x ≡ y
one_verdict New New e = refl
one_verdict New Duplicate e = cc
one_verdict New Passed e = cc
one_verdict Duplicate New e = cc
one_verdict Duplicate Duplicate e = refl
one_verdict Duplicate Passed e = cc
one_verdict Passed New e = cc
one_verdict Passed Duplicate e = cc
one_verdict Passed Passed e = refl

pub one_heard : (x y : Result Verdict Refusal) → heard_of x ≡ heard_of y → x ≡ y
one_heard (Ok v) (Ok w) e = rw (one_verdict v w (same_given e))
one_heard (Ok v) (Err y) e = not_refused e
one_heard (Err x) (Ok w) e = not_refused (sym e)
one_heard (Err x) (Err y) e = rw (distinct x y (same_refused e))
