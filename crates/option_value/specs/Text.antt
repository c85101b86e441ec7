-- What a value of format string answers: text is UTF-8, and all else is BadText (15).
use Rattle.std.specs.Prelude.{ℕ, List, [], Result, Ok, Err}
use Rattle.ground.specs.Choice.{pick}
use Rattle.utf8.specs.Walk.{text}
use Rattle.refusal.specs.Number.{number_of}
use Rattle.refusal.specs.declared.Refusal.{Refusal}
use Rattle.refusal.specs.Answer.{Answer, given, refused, fitted}

-- Reading accepts exactly the texts of RFC 3629.
abbrev pub read_text : List ℕ → Answer (Unit {0})
read_text bs = pick (text bs) (given tt) (refused 15)

-- The part of a value that is text: the whole of it, or nothing.
abbrev pub text_part : List ℕ → List ℕ
text_part bs = pick (text bs) bs []

-- Writing a text into an output with this much room: BadText (15) before NoRoom (12).
abbrev pub write_text : ℕ → List ℕ → Answer ℕ
write_text room bs = pick (text bs) (fitted room bs) (refused 15)

-- The answer of reading a text.
abbrev pub text_of : Result (Unit {0}) Refusal → Answer (Unit {0})
text_of (Ok u) = given tt
text_of (Err e) = refused (number_of e)
