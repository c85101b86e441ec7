-- Text, judged byte by byte: the walk over the rows of RFC 3629's grammar.
use Rattle.std.specs.Prelude.{ℕ, Bool, true, false, List, [], ◌∷◌}
use Rattle.ground.specs.Choice.{pick, both}
use Rattle.rfc.specs.Text.{Range, rows, in_range}

-- What a first byte calls for: bytes in these ranges; or it begins no character.
pub data Lead : Type 0 where
  due : (rest : List Range) → Lead
  never : Lead

-- The rest of the row that the byte begins.
abbrev pub lead_in : List (List Range) → ℕ → Lead
lead_in [] b = never
lead_in ([] ∷ more) b = lead_in more b
lead_in ((r ∷ rest) ∷ more) b = pick (in_range r b) (due rest) (lead_in more b)

abbrev pub lead : ℕ → Lead
lead b = lead_in rows b

-- Go on by what a first byte calls for.
abbrev pub on_lead : Lead → (List Range → Bool) → Bool
on_lead (due rest) go = go rest
on_lead never go = false

-- The rest of a text, where bytes in these ranges are due first; a text ends only where none are.
unfoldable pub text_from : List Range → List ℕ → Bool
text_from [] [] = true
text_from [] (b ∷ bs) = on_lead (lead b) (λ rest. text_from rest bs)
text_from (r ∷ rs) [] = false
text_from (r ∷ rs) (b ∷ bs) = both (in_range r b) (text_from rs bs)

abbrev pub text : List ℕ → Bool
text bs = text_from [] bs
