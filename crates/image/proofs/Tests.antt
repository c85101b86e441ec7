-- What a test says that compares two.
use mathlib.Core.Path.{◌≡◌, refl, sym}
use mathlib.Core.Bool.{Bool, true, false, beq}

-- Two tests that come out the same, and two that don't.
pub same_test : (a b : Bool) → beq a b ≡ true → a ≡ b
same_test true true e = refl
same_test true false e = sym e
same_test false true e = e
same_test false false e = refl

pub test_same : (a b : Bool) → a ≡ b → beq a b ≡ true
test_same true b e = rw (sym e) refl
test_same false b e = rw (sym e) refl
