-- The answers of the functions that read an option, in the words of the definitions.
use Rattle.std.specs.Prelude.{ℕ, ◌<◌, ◌≡◌, List, get_or, Result, Ok, Err}
use Rattle.refusal.specs.Answer.{Answer, given, refused}
use Rattle.refusal.specs.Number.{number_of}
use Rattle.refusal.specs.declared.Refusal.{Refusal}
use Rattle.option_reading.specs.Option.{Value, Place, ended, option}
use Rattle.option_reading.specs.declared.Extension.{Extension}
use Rattle.option_reading.specs.declared.Found.{Found}
use Rattle.option_reading.specs.declared.Found.TheVariants.{End, Option}

-- A byte that was read: the element, and that it is small.
pub record ByteAt (s : List ℕ) (i r : ℕ) : Type 0 where
  pub is : r ≡ get_or s i 0
  pub small : r < 256

abbrev pub value_of : Extension → Value
value_of x = record { value = x.value; next = x.next }

abbrev pub extended_of : Result Extension Refusal → Answer Value
extended_of (Ok x) = given (value_of x)
extended_of (Err e) = refused (number_of e)

abbrev pub found_of : Result Found Refusal → Answer Place
found_of (Ok (End marked payload)) = given (ended marked payload)
found_of (Ok (Option r)) = given (option r)
found_of (Err e) = refused (number_of e)
