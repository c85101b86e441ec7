-- Reading the options of a datagram a second time, where nothing is left to judge.
use Rattle.std.specs.Prelude.{ℕ, ◌+◌, ◌-◌, ◌*◌, ◌/◌, ◌%◌, ◌<◌, ◌≤◌, ◌≡◌, Bool, false, not, List, [], ◌∷◌, length, get_or, take, ltb, leb, eqb}
use Rattle.ground.specs.Choice.{pick, both}
use Rattle.refusal.specs.Answer.{Answer, given, refused, onward}
use Rattle.packet.specs.declared.OptionRecord.{OptionRecord}
use Rattle.option_reading.specs.Option.{Value}
use Rattle.reading.specs.Options.{Tail, options}
use Rattle.reading.specs.Reading.{longest}
use Rattle.scanning.specs.Scanning.{Span, last_end, judged}

-- How many bytes of extension a nibble has that is not 15.
unfoldable pub extra : ℕ → ℕ
extra nibble = pick (ltb nibble 13) 0 (pick (eqb nibble 13) 1 2)

-- The number of a nibble with its extension at a position, and the position after it.
unfoldable pub plainly : List ℕ → ℕ → ℕ → Value
plainly s at nibble =
    pick (ltb nibble 13) (record { value = nibble; next = at })
    (pick (eqb nibble 13) (record { value = 13 + get_or s at 0; next = at + 1 })
    (record { value = 269 + (get_or s at 0 * 256 + get_or s (at + 1) 0); next = at + 2 }))

-- The first numbers of a flat form, from the bytes of a datagram: version, type, code byte, id, token, payload, count.
abbrev pub head_in : List ℕ → ℕ → ℕ → List ℕ
head_in s payload count =
    (get_or s 0 0 / 64) ∷ (get_or s 0 0 / 16 % 4) ∷ get_or s 1 0 ∷ (get_or s 2 0 * 256 + get_or s 3 0) ∷
    0 ∷ 4 ∷ (get_or s 0 0 % 16) ∷ 0 ∷ payload ∷ (length s - payload) ∷ count ∷ []

-- Where the options of a datagram start: after header and token.
abbrev pub start : List ℕ → ℕ
start s = 4 + get_or s 0 0 % 16

-- The options that were read, and none beside a refusal.
abbrev pub found : Answer Tail → List OptionRecord
found (given t) = t.records
found (refused k) = []

abbrev pub options_from : Bool → List ℕ → ℕ → List OptionRecord
options_from strict s at = found (options (longest strict) s 128 0 at)

-- The span of options that start at a position; a marker that ends the datagram gives strict 9.
unfoldable pub spanned : Bool → List ℕ → ℕ → Tail → Answer Span
spanned strict s at t =
    pick (both strict (both t.marked (eqb t.payload (length s)))) (refused 9)
    (given (record { count = length t.records; end = last_end at t.records; payload = t.payload }))

abbrev pub spans : Bool → List ℕ → ℕ → Answer Span
spans strict s at = onward (options (longest strict) s 128 0 at) (spanned strict s at)

-- Each option's place is noted that there is room for: where the options before it end.
abbrev pub Places : ℕ → List OptionRecord → List ℕ → Type 0
Places at rs places = (k : ℕ) → k < length rs → k < length places → get_or places k 0 ≡ last_end at (take k rs)

-- Whether an option stands at a position: neither the datagram's end nor FF is there.
unfoldable pub stands : List ℕ → ℕ → Bool
stands s at = pick (leb (length s) at) false (not (eqb (get_or s at 0) 255))

-- The header of a datagram leaves what is said of it to its options, which start at a position.
pub record Open (strict : Bool) (s : List ℕ) (at : ℕ) : Type 0 where
  pub is : at ≡ start s
  pub inside : at ≤ length s
  pub short : length s ≤ 70000
  pub rest : judged strict s ≡ spans strict s at
