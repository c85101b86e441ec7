-- What each edit makes of a message, whatever ranges and stores stand behind it.
use Rattle.std.specs.Prelude.{ℕ, List, [], ◌∷◌, map}
use Rattle.rfc.specs.Message.{Message, Opt}
use Rattle.editing.specs.Numbered.{inserted_by, removed_by}

-- The message with these options, this token or this payload.
abbrev pub with_options : Message → List Opt → Message
with_options m os =
    record { version = m.version; type = m.type; code = m.code; id = m.id; token = m.token; options = os; payload = m.payload }

abbrev pub with_token : Message → List ℕ → Message
with_token m bytes =
    record { version = m.version; type = m.type; code = m.code; id = m.id; token = bytes; options = m.options; payload = m.payload }

abbrev pub with_payload : Message → List ℕ → Message
with_payload m bytes =
    record { version = m.version; type = m.type; code = m.code; id = m.id; token = m.token; options = m.options; payload = bytes }

-- One more option, after the last of the same or a lower number.
abbrev pub option_added : Message → ℕ → List ℕ → Message
option_added m n value = with_options m (inserted_by (λ o. o.number) n (record { number = n; value = value } ∷ []) m.options)

-- No option of a number.
abbrev pub options_cleared : Message → ℕ → Message
options_cleared m n = with_options m (removed_by (λ o. o.number) n m.options)

-- These values, in their order, for all options of a number.
abbrev pub options_set : Message → ℕ → List (List ℕ) → Message
options_set m n values =
    with_options m (inserted_by (λ o. o.number) n (map (λ v. record { number = n; value = v }) values) (removed_by (λ o. o.number) n m.options))
