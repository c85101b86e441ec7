-- The path and query of a coap URI as text, and the options that they are: RFC 7252, sections 6.4 and 6.5.
use Rattle.std.specs.Prelude.{ℕ, zero, suc, Bool, true, false, List, [], ◌∷◌, ◌++◌, map, eqb, length}
use Rattle.ground.specs.Choice.{pick, both, either, within}
use Rattle.ground.specs.Part.{Bytes}
use Rattle.ground.specs.Table.{listed}
use Rattle.rfc.specs.Message.{Opt}
use Rattle.rfc.specs.Uri.{Kind, segment, query, separator, literal}
use Rattle.rfc.specs.Percent.{code, Read, good, bad_text}

-- The values of the Uri-Path options, number 11, and of the Uri-Query options, number 15 (section 5.10.1).
pub record Target : Type 0 where
  pub path : List (List ℕ)
  pub query : List (List ℕ)

-- Each value is bytes.
abbrev pub Values : List (List ℕ) → Type 0
Values [] = Unit {0}
Values (v ∷ vs) = Bytes v × Values vs

-- One value, and it is empty: its text is that of none.
abbrev pub one_empty : List (List ℕ) → Bool
one_empty [] = false
one_empty (v ∷ []) = eqb (length v) 0
one_empty (v ∷ w ∷ vs) = false

-- The values of the options of a number, in their order.
abbrev pub values : ℕ → List Opt → List (List ℕ)
values n [] = []
values n (o ∷ os) = pick (eqb o.number n) (o.value ∷ values n os) (values n os)

-- What options say of path and query.
abbrev pub target_of : List Opt → Target
target_of os = record { path = values 11 os; query = values 15 os }

-- An option of this number for each value.
abbrev pub options_for : ℕ → List (List ℕ) → List Opt
options_for n vs = map (λ (v : List ℕ). record { number = n; value = v }) vs

-- The options of a path and a query.
abbrev pub options_of : Target → List Opt
options_of t = options_for 11 t.path ++ options_for 15 t.query

-- Values in their text, the first behind `mark`, each other behind the separator.
abbrev pub behind : Kind → ℕ → List (List ℕ) → List ℕ
behind kind mark [] = []
behind kind mark (v ∷ vs) = mark ∷ (code kind v ++ behind kind (separator kind) vs)

-- Each segment behind `/` (section 6.5, step 6); no segment is `/` alone (step 7).
abbrev pub path_text : List (List ℕ) → List ℕ
path_text [] = 0x2F ∷ []
path_text (v ∷ vs) = behind segment 0x2F (v ∷ vs)

-- The first part behind `?`, each other behind `&` (section 6.5, step 8).
abbrev pub query_text : List (List ℕ) → List ℕ
query_text vs = behind query 0x3F vs

-- The text of path and query.
abbrev pub text_of : Target → List ℕ
text_of t = path_text t.path ++ query_text t.query

-- The text before the first `?`, and the text after it (RFC 3986, sections 3.3 and 3.4).
unfoldable pub path_of : List ℕ → List ℕ
path_of [] = []
path_of (c ∷ s) = pick (eqb c 0x3F) [] (c ∷ path_of s)

unfoldable pub query_of : List ℕ → List ℕ
query_of [] = []
query_of (c ∷ s) = pick (eqb c 0x3F) s (query_of s)

-- A character before the first of some parts.
abbrev pub onto : ℕ → List (List ℕ) → List (List ℕ)
onto c [] = (c ∷ []) ∷ []
onto c (p ∷ ps) = (c ∷ p) ∷ ps

-- What stands between the separators: one part more than there are separators.
unfoldable pub split : ℕ → List ℕ → List (List ℕ)
split sep [] = [] ∷ []
split sep (c ∷ s) = pick (eqb c sep) ([] ∷ split sep s) (onto c (split sep s))

-- The parts of a text; no text has none.
abbrev pub parts : ℕ → List ℕ → List (List ℕ)
parts sep [] = []
parts sep (c ∷ s) = split sep (c ∷ s)

-- The segments of a path, still coded (section 6.4, step 8): a path that isn't empty starts with `/`, and `/` alone has none.
abbrev pub segments_of : List ℕ → Read (List (List ℕ))
segments_of [] = good []
segments_of (c ∷ s) = pick (eqb c 0x2F) (good (parts 0x2F s)) bad_text

-- Nothing but dots.
abbrev pub dots : List ℕ → Bool
dots [] = true
dots (c ∷ v) = both (eqb c 0x2E) (dots v)

-- The segments `.` and `..`, which no Uri-Path option has (section 5.10.1).
abbrev pub dotted : Kind → List ℕ → Bool
dotted segment v = both (within 1 2 (length v)) (dots v)
dotted query v = false

-- A text with only characters of paths and queries, and two upper-case digits after each `%`, of which `due` are still due.
unfoldable pub spelt : (due : ℕ) → List ℕ → Bool
spelt zero [] = true
spelt (suc n) [] = false
spelt zero (c ∷ s) =
    pick (eqb c 0x25) (spelt 2 s) (pick (either (literal segment c) (listed c (0x2F ∷ 0x3F ∷ []))) (spelt zero s) false)
spelt (suc n) (c ∷ s) = pick (either (within 0x30 0x39 c) (within 0x41 0x46 c)) (spelt n s) false
