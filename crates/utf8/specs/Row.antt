-- What the first byte of a character calls for, as the code has it: a count of bytes and the range of the first of them.
use Rattle.std.specs.Prelude.{ℕ, ◌≡◌, ◌-◌, zero, suc, List, [], ◌∷◌, length, replicate, eqb, ltb, Option, Some, None}
use Rattle.ground.specs.Choice.{pick, either}
use Rattle.rfc.specs.Text.{Range, tail}
use Rattle.utf8.specs.Walk.{Lead as Row, due, never, lead, on_lead, text_from}
use Rattle.utf8.specs.declared.Due.{Due}

-- This many bytes, the first of them from `low` to `high`, the others UTF8-tail.
abbrev pub dues : ℕ → ℕ → ℕ → List Range
dues zero low high = []
dues (suc n) low high = (low, high) ∷ replicate n tail

-- The rest of a row, as a count and the range of its first byte; that of UTF8-tail where there is none.
abbrev pub led_by : Row → Option Due
led_by (due []) = Some (record { count = 0; low = tail.0; high = tail.1 })
led_by (due (r ∷ rest)) = Some (record { count = suc (length rest); low = r.0; high = r.1 })
led_by never = None

-- What a first byte calls for, as the rest of its row.
abbrev pub row_of : Option Due → Row
row_of (Some d) = due (dues d.count d.low d.high)
row_of None = never

-- What a byte leaves due: behind a whole character, what it calls for itself; else one byte less, each of them UTF8-tail, where it
-- is one of those that are due.
abbrev pub left_due : Due → ℕ → Option Due
left_due d b =
    pick (eqb d.count 0) (led_by (lead b))
    (pick (either (ltb b d.low) (ltb d.high b)) None (Some (record { count = d.count - 1; low = tail.0; high = tail.1 })))

-- So it leaves a character's rest due, whatever comes after it.
pub record LeftDue (d : Due) (b : ℕ) (r : Option Due) : Type 0 where
  pub is : (bs : List ℕ) → text_from (dues d.count d.low d.high) (b ∷ bs) ≡ on_lead (row_of r) (λ rest. text_from rest bs)
