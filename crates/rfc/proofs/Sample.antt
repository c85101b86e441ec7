-- Messages and options written short, for the examples.
use Prim.Native.Nat.{ℕ}
use mathlib.Core.List.{List}
use Rattle.rfc.specs.Message.{Message, Opt}

-- An option of a number with a value.
abbrev pub option : ℕ → List ℕ → Opt
option number value = record { number = number; value = value }

-- A message by its fields, in the order of the format.
abbrev pub message : (version type code id : ℕ) → List ℕ → List Opt → List ℕ → Message
message version type code id token options payload =
    record { version = version; type = type; code = code; id = id; token = token; options = options; payload = payload }

-- A confirmable GET with the id 1.
abbrev pub get : List ℕ → List Opt → List ℕ → Message
get token options payload = message 1 0 1 1 token options payload
