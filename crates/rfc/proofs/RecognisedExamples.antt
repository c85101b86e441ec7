-- What becomes of options (RFC 7252, sections 5.4.1, 5.4.3 and 5.4.5), by the formats, lengths and repetitions of its table of
-- options (section 5.10): at both ends of a range, and at a second occurrence.
use Prim.Native.Nat.{ℕ}
use mathlib.Core.Path.{◌≡◌, refl}
use mathlib.Core.Bool.{Bool, true, false}
use mathlib.Core.List.{List, [], ◌∷◌, map}
use Rattle.rfc.specs.Recognised.{Definition, recognised, Fate, kept, ignored, rejected, fate}

defined : ℕ → ℕ → Bool → Definition
defined shortest longest repeatable = record { shortest = shortest; longest = longest; repeatable = repeatable }

-- An occurrence of an option: the length of its value, whether the option has occurred before, and what becomes of it.
record Case : Type 0 where
  number : ℕ
  definition : Definition
  len : ℕ
  before : Bool
  becomes : Fate

case : ℕ → Definition → ℕ → Bool → Fate → Case
case number definition len before becomes =
    record { number = number; definition = definition; len = len; before = before; becomes = becomes }

uri_host : Definition
uri_host = defined 1 255 false

e_tag : Definition
e_tag = defined 1 8 true

if_none_match : Definition
if_none_match = defined 0 0 false

content_format : Definition
content_format = defined 0 2 false

cases : List Case
cases =
    case 3 uri_host 0 false rejected
    ∷ case 3 uri_host 1 false kept
    ∷ case 3 uri_host 255 false kept
    ∷ case 3 uri_host 256 false rejected
    ∷ case 4 e_tag 0 false ignored
    ∷ case 4 e_tag 8 true kept
    ∷ case 4 e_tag 9 false ignored
    ∷ case 5 if_none_match 0 false kept
    ∷ case 5 if_none_match 0 true rejected
    ∷ case 5 if_none_match 1 false rejected
    ∷ case 12 content_format 0 false kept
    ∷ case 12 content_format 2 true ignored
    ∷ case 12 content_format 3 false ignored
    ∷ []

-- What the definitions make of a case.
run : Case → Fate
run c = fate c.number (recognised c.definition c.len c.before)

recognised_cases : map run cases ≡ map (λ (c : Case). c.becomes) cases
unfolding cases run case defined uri_host e_tag if_none_match content_format recognised fate
recognised_cases = refl
