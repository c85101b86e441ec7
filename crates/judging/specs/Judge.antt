-- What makes a packet one that cannot be written or edited, BadRecord (11; docs/RULES.md, Writing and Edits), and how many
-- bytes its options take.
use Rattle.std.specs.Prelude.{ℕ, ◌+◌, ◌-◌, Bool, false, List, [], ◌∷◌, length, ltb, Result, Ok, Err}
use Rattle.ground.specs.Choice.{pick, either}
use Rattle.refusal.specs.Answer.{Answer, given, refused}
use Rattle.refusal.specs.Number.{number_of}
use Rattle.refusal.specs.declared.Refusal.{Refusal}
use Rattle.packet.specs.Limits.{max_store, max_options, max_value, max_token}
use Rattle.packet.specs.Packet.{chosen, Stores, range_of, records_of}
use Rattle.packet.specs.declared.Packet.{Packet}
use Rattle.packet.specs.declared.OptionRecord.{OptionRecord}
use Rattle.packet.specs.declared.Range.{Range}
use Rattle.packet.specs.declared.Home.{Home}
use Rattle.judging.specs.declared.Lengths.{Lengths}

-- How long two stores are.
abbrev pub lengths_of : Stores → Lengths
lengths_of s = record { datagram = length s.datagram; edits = length s.edits }

-- One of the stores has over 70,000 bytes: TooLong (10).
unfoldable pub is_too_long : Lengths → Bool
is_too_long lengths = either (ltb max_store lengths.datagram) (ltb max_store lengths.edits)

-- How long the store is that a home names.
abbrev pub length_in : Lengths → Home → ℕ
length_in lengths home = chosen home lengths.datagram lengths.edits

-- A range outside its own store: start + length, as whole numbers, is more; an empty range can be outside too.
abbrev pub outside : Lengths → Range → Bool
outside lengths range = ltb (length_in lengths range.home) (range.start + range.len)

-- The numbers fall somewhere, the first of them from the number before.
abbrev pub falling : ℕ → List OptionRecord → Bool
falling before [] = false
falling before (r ∷ rs) = either (ltb r.number before) (falling r.number rs)

-- Over 128 records, or falling numbers: the two causes that an edit looks at.
abbrev pub misordered : Packet → Bool
misordered p = either (ltb max_options p.count) (falling 0 (records_of p))

-- A value outside its store, or over 65804 bytes.
abbrev pub bad_value : Lengths → OptionRecord → Bool
bad_value lengths r = either (outside lengths (range_of r)) (ltb max_value r.len)

-- Some record has such a value.
abbrev pub bad_values : Lengths → List OptionRecord → Bool
bad_values lengths [] = false
bad_values lengths (r ∷ rs) = either (bad_value lengths r) (bad_values lengths rs)

-- A token or a payload outside its store, or a token over 15 bytes.
abbrev pub bad_ranges : Lengths → Range → Range → Bool
bad_ranges lengths token payload = either (outside lengths token) (either (outside lengths payload) (ltb max_token token.len))

-- The causes of BadRecord (11): version over 3, over 128 records, numbers falling, a range outside its store, token over 15,
-- value over 65804.
unfoldable pub bad_packet : Lengths → Packet → Bool
bad_packet lengths p =
    either (ltb 3 p.header.version)
    (either (misordered p) (either (bad_ranges lengths p.token p.payload) (bad_values lengths (records_of p))))

-- How many extension bytes a delta or a length takes: none up to 12, one up to 268, else two.
unfoldable pub extension_size : ℕ → ℕ
extension_size n = pick (ltb n 13) 0 (pick (ltb n 269) 1 2)

-- How many bytes an option takes after one of the number `before`: the byte of the nibbles, two extensions, the value.
unfoldable pub option_size : ℕ → OptionRecord → ℕ
option_size before r = 1 + extension_size (r.number - before) + extension_size r.len + r.len

-- How many bytes the options take, the first of them after one of the number `before`.
abbrev pub options_size : ℕ → List OptionRecord → ℕ
options_size before [] = 0
options_size before (r ∷ rs) = option_size before r + options_size r.number rs

-- What a judgement says: the size of the options, or a refusal's number.
abbrev pub judged : Result ℕ Refusal → Answer ℕ
judged (Ok n) = given n
judged (Err e) = refused (number_of e)

-- The judgement: BadRecord (11), or the size of the options.
unfoldable pub judging : Lengths → Packet → Answer ℕ
judging lengths p = pick (bad_packet lengths p) (refused 11) (given (options_size 0 (records_of p)))
