-- Each number of the two tables occurs once, by one computed test for each, so that an entry's place is where it stands.
use Prim.Native.Nat.{ℕ, ◌<◌}
use mathlib.Core.Path.{◌≡◌, refl}
use lib.Dec.{T}
use lib.ListN.{length, get_or}
use Rattle.ground.specs.Table.{once}
use Rattle.ground.proofs.Table.{one_place}
use Rattle.tables.specs.Numbers.{option_numbers, content_formats}
use Rattle.tables.specs.Place.{place_of}
use Rattle.std.specs.Prelude.{Some}
use Rattle.tables.proofs.Places.{entry_place}

-- How many there are.
pub counts : (length option_numbers ≡ 21) × (length content_formats ≡ 60)
unfolding option_numbers content_formats
counts = (refl, refl)

options_once : T (once option_numbers)
unfolding option_numbers
options_once = tt

formats_once : T (once content_formats)
unfolding content_formats
formats_once = tt

-- Two places of one option number are one place, and so of one content format.
pub one_option : (i j : ℕ) → i < length option_numbers → j < length option_numbers → get_or option_numbers i 0 ≡ get_or option_numbers j 0 → i ≡ j
one_option = one_place option_numbers options_once

pub one_format : (i j : ℕ) → i < length content_formats → j < length content_formats → get_or content_formats i 0 ≡ get_or content_formats j 0 → i ≡ j
one_format = one_place content_formats formats_once

-- The place of an entry is where it stands, in each table.
pub option_place : (k : ℕ) → k < length option_numbers → place_of (get_or option_numbers k 0) option_numbers ≡ Some k
option_place = entry_place option_numbers options_once

pub format_place : (k : ℕ) → k < length content_formats → place_of (get_or content_formats k 0) content_formats ≡ Some k
format_place = entry_place content_formats formats_once
