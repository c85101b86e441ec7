-- The register of options: the listed numbers with the lengths of their values, and which records are recognised.
use Rattle.std.specs.Prelude.{ℕ, Bool, true, false, List, [], ◌∷◌, eqb, Option, Some, None}
use Rattle.ground.specs.Choice.{pick}
use Rattle.rfc.specs.Recognised.{Definition, recognised}
use Rattle.packet.specs.declared.OptionRecord.{OptionRecord}
use Rattle.register.specs.declared.row.Row.{Row}

-- A row: a number, its shortest and its longest value, and whether it is repeatable.
abbrev pub row : ℕ → ℕ → ℕ → Bool → Row
row number shortest longest repeatable =
    record { number = number; shortest = shortest; longest = longest; repeatable = repeatable }

-- The listed numbers and value lengths; 1, 4, 8, 11, 15 and 20 are repeatable.
unfoldable pub register : List Row
register =
    row 1 0 8 true ∷
    row 3 1 255 false ∷
    row 4 1 8 true ∷
    row 5 0 0 false ∷
    row 6 0 3 false ∷
    row 7 0 2 false ∷
    row 8 0 255 true ∷
    row 11 0 255 true ∷
    row 12 0 2 false ∷
    row 14 0 4 false ∷
    row 15 0 255 true ∷
    row 17 0 2 false ∷
    row 20 0 255 true ∷
    row 23 0 3 false ∷
    row 27 0 3 false ∷
    row 35 1 1034 false ∷
    row 39 1 255 false ∷
    row 60 0 4 false ∷
    []

-- The row of no option: what stands past the last.
abbrev pub no_row : Row
no_row = row 0 0 0 false

-- The row of a number among rows.
abbrev pub row_in : ℕ → List Row → Option Row
row_in n [] = None
row_in n (r ∷ rs) = pick (eqb r.number n) (Some r) (row_in n rs)

-- A listing is that of a listed number.
abbrev pub is_row : Option Row → Bool
is_row (Some r) = true
is_row None = false

-- The register lists the number.
unfoldable pub registered : ℕ → Bool
registered n = is_row (row_in n register)

-- What a row defines of its option.
abbrev pub definition_of : Row → Definition
definition_of r = record { shortest = r.shortest; longest = r.longest; repeatable = r.repeatable }

-- What a listing says of a record: one that is listed goes by its definition, and no other is recognised.
abbrev pub recognised_by : Option Row → ℕ → Bool → Bool
recognised_by (Some r) len before = recognised (definition_of r) len before
recognised_by None len before = false

-- A record is recognised, where `before` says that a kept record before it has its number.
unfoldable pub is_recognised : Bool → OptionRecord → Bool
is_recognised before r = recognised_by (row_in r.number register) r.len before
