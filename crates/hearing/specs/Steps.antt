-- What the steps of a call answer.
use Rattle.std.specs.Prelude.{ℕ, ◌*◌, ◌<◌, ◌≡◌, Bool, false, List, Option, Some, None}
use Rattle.ground.specs.Choice.{both}
use Rattle.ground.specs.Part.{part}
use Rattle.rfc.specs.Uint.{number}
use Rattle.rfc.specs.Duplicates.{Arrival, unexpired, same}
use Rattle.hearing.specs.Table.{Place, unused, holds, lowest}
use Rattle.hearing.specs.Bytes.{table_size, places}

-- The number of two bytes of a list; of four.
pub record Two (s : List ℕ) (i r : ℕ) : Type 0 where
  pub is : r ≡ number (part s i 2)
  pub small : r < 65536

pub record Four (s : List ℕ) (i r : ℕ) : Type 0 where
  pub is : r ≡ number (part s i 4)
  pub small : r < 4294967296

-- The place's entry is the same message, and unexpired when it comes.
abbrev pub stands_at : Arrival → Place → Bool
stands_at m unused = false
stands_at m (holds e) = both (unexpired m.time e) (same m e)

-- Where the lowest free place starts, if one is free.
abbrev pub Lowest : ℕ → List ℕ → Option ℕ → Type 0
Lowest now s (Some at) = (at ≡ lowest now (places s) * 25) × (at < table_size)
Lowest now s None = table_size ≡ lowest now (places s) * 25
