-- The messages of a trace, found position by position, or 19 where a time is missing or out of place, and for all that is no
-- message of the form.
use Rattle.std.specs.Prelude.{ℕ, zero, suc, ◌+◌, Bool, List, [], ◌∷◌, length, get_or, ltb, leb, eqb}
use Rattle.ground.specs.Choice.{pick, both}
use Rattle.ground.specs.Part.{part}
use Rattle.rfc.specs.Uint.{number}
use Rattle.refusal.specs.Answer.{Answer, given, refused, onward}
use Rattle.stream.specs.declared.Form.{Form}
use Rattle.stream.specs.declared.Form.TheVariants.{Old, New}
use Rattle.stream.specs.Messages.{Found, message_at}
use Rattle.tracing.specs.Trace.{Timed}

-- The form of a trace: the kind of its first chunk, behind the first time and the first peer, is 2 in the old form only.
unfoldable pub form_of : List ℕ → Form
form_of s = pick (eqb (get_or s 24 0) 2) Old New

-- The record of a time stands at a position: kind 8, and its four bytes are there.
unfoldable pub is_time : List ℕ → ℕ → Bool
is_time s at = both (eqb (get_or s at 0) 8) (leb (at + 5) (length s))

-- The time of a record at a position: the number of its four bytes, high byte first.
abbrev pub time_at : List ℕ → ℕ → ℕ
time_at s at = number (part s (at + 1) 4)

-- A message with its time, and the position after it.
pub record TimedFound : Type 0 where
  pub timed : Timed
  pub next : ℕ

abbrev pub timed_with : ℕ → Found → TimedFound
timed_with time m = record { timed = record { time = time; message = m.message }; next = m.next }

-- The message at a position with its time: the time's record, then the message.
unfoldable pub timed_at : Form → List ℕ → ℕ → Answer TimedFound
timed_at form s at =
    pick (is_time s at)
    (onward (message_at form s (at + 5)) (λ m. given (timed_with (time_at s at) m)))
    (refused 19)

-- So many messages at most, from a position to the end of the trace.
unfoldable pub traced_at : Form → List ℕ → ℕ → ℕ → Answer (List Timed)
traced_at form s zero at = pick (ltb at (length s)) (refused 19) (given [])
traced_at form s (suc most) at =
    pick (ltb at (length s))
    (onward (timed_at form s at) (λ m. onward (traced_at form s most m.next) (λ l. given (m.timed ∷ l))))
    (given [])

-- The messages from a position: a trace has fewer than it has bytes.
abbrev pub traced_from : Form → List ℕ → ℕ → Answer (List Timed)
traced_from form s at = traced_at form s (length s) at

-- The messages of a trace: 19 where it is none of its form.
abbrev pub traced : List ℕ → Answer (List Timed)
traced s = traced_from (form_of s) s 0
