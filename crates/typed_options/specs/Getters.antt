-- What the getters of the content format and of Observe read (docs/RULES.md, Edits): the first record of their number, as a
-- uint.
use Rattle.std.specs.Prelude.{ℕ, ◌≡◌, List, [], ◌∷◌, Option, None, Some, Result, Ok, Err}
use Rattle.ground.specs.Choice.{pick}
use Rattle.ground.specs.Table.{listed}
use Rattle.refusal.specs.Answer.{Answer, given, refused, onward}
use Rattle.refusal.specs.Number.{number_of}
use Rattle.refusal.specs.declared.Refusal.{Refusal}
use Rattle.option_value.specs.Uint.{Padded, with_zeros, read_uint}
use Rattle.tables.specs.Numbers.{content_formats}
use Rattle.packet.specs.Packet.{Stores, value_of, records_of, of_number}
use Rattle.packet.specs.declared.Packet.{Packet}
use Rattle.packet.specs.declared.OptionRecord.{OptionRecord}
use Rattle.typed_options.specs.declared.ContentFormat.{ContentFormat}
use Rattle.typed_options.specs.declared.Observe.{Observe}

-- By the first record of a list, or by there being none.
abbrev pub on_first {ℓ} : {A : Type ℓ} → List OptionRecord → A → (OptionRecord → A) → A
on_first [] absent found = absent
on_first (r ∷ rs) absent found = found r

-- No content format, and no zeros.
abbrev pub no_format : ContentFormat
no_format = record { format = None; zeros = 0 }

-- A content format is a number that is listed; an unlisted number reads as none, with its zeros beside it, and an over-long
-- value as none with no zeros.
abbrev pub format_of : Answer (Padded ℕ) → ContentFormat
format_of (given n) = record { format = pick (listed n.value content_formats) (Some n.value) None; zeros = n.zeros }
format_of (refused k) = no_format

-- The content format: the first record of number 12 counts, and an absent one reads as none with no zeros.
unfoldable pub format_in : Stores → Packet → ContentFormat
format_in s p = on_first (of_number 12 (records_of p)) no_format (λ r. format_of (read_uint 2 (value_of s r)))

-- The promise of the getter of the content format.
abbrev pub GetsFormat : Stores → Packet → ContentFormat → Type 0
GetsFormat s p r = r ≡ format_in s p

-- A number with its zeros, which may be absent.
pub data Found : Type 0 where
  number : Padded ℕ → Found
  absent : Found

-- Observe: the first record of number 6 counts; it is absent, or a number, or over-long (13).
unfoldable pub observe_in : Stores → Packet → Answer Found
observe_in s p = on_first (of_number 6 (records_of p)) (given absent) (λ r. onward (read_uint 4 (value_of s r)) (λ n. given (number n)))

-- The answer of the getter of Observe.
abbrev pub observed : Result (Option Observe) Refusal → Answer Found
observed (Ok (Some o)) = given (number (with_zeros o.zeros o.value))
observed (Ok None) = given absent
observed (Err e) = refused (number_of e)

-- The promise of the getter of Observe.
abbrev pub GetsObserve : Stores → Packet → Result (Option Observe) Refusal → Type 0
GetsObserve s p r = observed r ≡ observe_in s p
