-- Reading all options of a datagram, one after the other, while there is room for their records.
use Rattle.std.specs.Prelude.{ℕ, zero, suc, Bool, List, [], ◌∷◌}
use Rattle.refusal.specs.Answer.{Answer, given, refused, onward}
use Rattle.packet.specs.declared.OptionRecord.{OptionRecord}
use Rattle.option_reading.specs.Option.{Place, ended, option, place_at, end}

-- The options that were read, whether FF ended them, and where the payload starts.
pub record Tail : Type 0 where
  pub records : List OptionRecord
  pub marked : Bool
  pub payload : ℕ

-- Go on after an option; an end is a tail with no records.
abbrev pub on_place : Answer Place → (OptionRecord → Answer Tail) → Answer Tail
on_place (given (ended marked payload)) next = given (record { records = []; marked = marked; payload = payload })
on_place (given (option r)) next = next r
on_place (refused k) next = refused k

-- One more option before those that follow.
abbrev pub before : OptionRecord → Tail → Answer Tail
before r t = given (record { records = r ∷ t.records; marked = t.marked; payload = t.payload })

-- The options from a position, left to right, while there is room for records; one more gives 6, judged last in its option.
unfoldable pub options : ℕ → List ℕ → ℕ → ℕ → ℕ → Answer Tail
options longest s zero number at = on_place (place_at longest s number at) (λ r. refused 6)
options longest s (suc room) number at =
    on_place (place_at longest s number at) (λ r. onward (options longest s room r.number (end r)) (before r))
