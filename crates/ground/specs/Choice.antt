-- A choice by a test, and a test made of two: what every definition by cases is written with.
use Rattle.std.specs.Prelude.{ℕ, Bool, true, false, leb}

-- `a` where the test holds, else `b`.
abbrev pub pick {ℓ} : {A : Type ℓ} → Bool → A → A → A
pick true a b = a
pick false a b = b

-- Both tests hold.
abbrev pub both : Bool → Bool → Bool
both a b = pick a b false

-- One of the tests holds, or both do.
abbrev pub either : Bool → Bool → Bool
either a b = pick a true b

-- The number is one of `low` to `high`.
abbrev pub within : ℕ → ℕ → ℕ → Bool
within low high n = both (leb low n) (leb n high)
