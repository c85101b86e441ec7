-- Reading one option of a datagram: nibbles, extensions, the value, the order of refusals.
use Rattle.std.specs.Prelude.{ℕ, ◌+◌, ◌-◌, ◌*◌, ◌/◌, ◌%◌, Bool, true, false, List, length, get_or, ltb, leb, eqb}
use Rattle.ground.specs.Choice.{pick}
use Rattle.refusal.specs.Answer.{Answer, given, refused, onward}
use Rattle.packet.specs.Limits.{max_store, max_number}
use Rattle.packet.specs.declared.Home.TheVariants.{Datagram}
use Rattle.packet.specs.declared.OptionRecord.{OptionRecord}

-- A number that was read, and the position after it.
pub record Value : Type 0 where
  pub value : ℕ
  pub next : ℕ

-- The number of a nibble with its extension at a position, for a delta and for a length alike: 0 to 12 stand for themselves,
-- 13 adds one byte to 13, 14 adds two bytes, high byte first, to 269. A cut-off extension gives 4; nibble 15, or a number
-- over `most`, gives `over`.
unfoldable pub extended : ℕ → ℕ → List ℕ → ℕ → ℕ → Answer Value
extended over most s at nibble =
    pick (ltb nibble 13) (given (record { value = nibble; next = at }))
    (pick (eqb nibble 13)
    (pick (ltb (length s - at) 1) (refused 4) (given (record { value = 13 + get_or s at 0; next = at + 1 })))
    (pick (eqb nibble 14)
    (pick (ltb (length s - at) 2) (refused 4)
    (pick (ltb most (269 + (get_or s at 0 * 256 + get_or s (at + 1) 0))) (refused over)
    (given (record { value = 269 + (get_or s at 0 * 256 + get_or s (at + 1) 0); next = at + 2 }))))
    (refused over)))

-- What stands at a position where an option may: the end of the options, with whether FF marks it and where the payload
-- starts; or an option.
pub data Place : Type 0 where
  ended : Bool → ℕ → Place
  option : OptionRecord → Place

-- An option whose value starts at a position of the datagram: a number over 65535 gives 3, then a value past the end 4.
unfoldable pub value_at : List ℕ → ℕ → ℕ → ℕ → Answer Place
value_at s number start len =
    pick (ltb max_number number) (refused 3)
    (pick (ltb (length s - start) len) (refused 4)
    (given (option (record { number = number; home = Datagram; spare = 0; start = start; len = len }))))

-- An option whose length is a nibble with its extension at a position, at most `longest`; then its value.
unfoldable pub length_at : ℕ → List ℕ → ℕ → ℕ → ℕ → Answer Place
length_at longest s number at nibble =
    onward (extended 4 longest s at nibble) (λ len. value_at s number len.next len.value)

-- The option at a position after one of the number `before`: the high nibble is the delta, at most 65535, the low one the length.
unfoldable pub option_at : ℕ → List ℕ → ℕ → ℕ → Answer Place
option_at longest s before at =
    onward (extended 3 max_number s (at + 1) (get_or s at 0 / 16))
    (λ delta. length_at longest s (before + delta.value) delta.next (get_or s at 0 % 16))

-- The datagram's end and FF end the options; the payload starts there, or after FF. All else is an option.
unfoldable pub place_at : ℕ → List ℕ → ℕ → ℕ → Answer Place
place_at longest s before at =
    pick (leb (length s) at) (given (ended false (length s)))
    (pick (eqb (get_or s at 0) 255) (given (ended true (at + 1))) (option_at longest s before at))

-- The same of a datagram of any length: over 70,000 bytes gives TooLong (10).
unfoldable pub placed : ℕ → List ℕ → ℕ → ℕ → Answer Place
placed longest s before at = pick (ltb max_store (length s)) (refused 10) (place_at longest s before at)

-- The position after an option.
abbrev pub end : OptionRecord → ℕ
end r = r.start + r.len
