-- A walk over all parts of a text: where each ends, how many there are, and how many bytes their values have.
use Rattle.std.specs.Prelude.{ℕ, suc, ◌+◌, List, [], ◌∷◌, eqb, length, Result, Ok, Err}
use Rattle.ground.specs.Choice.{pick}
use Rattle.rfc.specs.Percent.{Read, good, bad_text, bad_option, on_good}
use Rattle.rfc.specs.Target.{Target}
use Rattle.uri_text.specs.declared.BadPart.{BadPart}
use Rattle.uri_text.specs.declared.BadPart.TheVariants.{Text, Option as AnOption}
use Rattle.uri_text.specs.declared.Tally.{Tally as Values}

-- How many characters stand before the first separator, or in all.
unfoldable pub first_length : (separator : ℕ) → List ℕ → ℕ
first_length sep [] = 0
first_length sep (c ∷ s) = pick (eqb c sep) 0 (suc (first_length sep s))

-- How many values, and how many bytes they have together.
pub record Tally : Type 0 where
  pub count : ℕ
  pub bytes : ℕ

abbrev pub total : List (List ℕ) → ℕ
total [] = 0
total (v ∷ vs) = length v + total vs

-- The tally of values after some that were passed.
unfoldable pub tally_from : (count bytes : ℕ) → Read (List (List ℕ)) → Read Tally
tally_from count bytes r = on_good r (λ vs. good (record { count = count + length vs; bytes = bytes + total vs }))

-- The tally of what a text says.
unfoldable pub tally : Read Target → Read Tally
tally r =
    on_good r (λ t.
    good (record { count = length t.path + length t.query; bytes = total t.path + total t.query }))

-- What the code answers, as it is defined.
abbrev pub tallied : Result Values BadPart → Read Tally
tallied (Ok t) = good (record { count = t.count; bytes = t.bytes })
tallied (Err Text) = bad_text
tallied (Err (AnOption index)) = bad_option index
