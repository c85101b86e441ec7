-- What a packet is (docs/RULES.md, Packets), what its ranges name in two stores, and the new packet.
use Rattle.std.specs.Prelude.{ℕ, ◌+◌, List, [], ◌∷◌, length, take, get_or, replicate, leb, eqb, Option, Some, None}
use Rattle.ground.specs.Choice.{pick}
use Rattle.ground.specs.Part.{part}
use Rattle.header.specs.Header.{new_header}
use Rattle.packet.specs.Limits.{max_options}
use Rattle.packet.specs.declared.Stores.{Stores as Lent}
use Rattle.packet.specs.declared.Packet.{Packet}
use Rattle.packet.specs.declared.OptionRecord.{OptionRecord}
use Rattle.packet.specs.declared.Range.{Range}
use Rattle.packet.specs.declared.Home.{Home}
use Rattle.packet.specs.declared.Home.TheVariants.{Datagram, Edits}

-- The record of no option.
abbrev pub none : OptionRecord
none = record { number = 0; home = Datagram; spare = 0; start = 0; len = 0 }

-- A range of the datagram.
abbrev pub in_datagram : ℕ → ℕ → Range
in_datagram start len = record { home = Datagram; start = start; len = len }

-- The range of no bytes.
abbrev pub nowhere : Range
nowhere = in_datagram 0 0

-- Version 1, confirmable, GET, id 0, and all else empty.
unfoldable pub new_packet : Packet
new_packet =
    record { header = new_header; token = nowhere; count = 0; options = replicate max_options none; payload = nowhere }

-- What a home chooses of two: the first for the datagram, the second for the edit store.
abbrev pub chosen {ℓ} : {A : Type ℓ} → Home → A → A → A
chosen Datagram d e = d
chosen Edits d e = e

-- The two stores of bytes that ranges lie in.
pub record Stores : Type 0 where
  pub datagram : List ℕ
  pub edits : List ℕ

abbrev pub stores : List ℕ → List ℕ → Stores
stores d e = record { datagram = d; edits = e }

-- The bytes of two stores that are lent.
abbrev pub held : Lent → Stores
held s = stores s.datagram.now s.edits.now

-- The store that a home names.
abbrev pub store_of : Stores → Home → List ℕ
store_of s h = chosen h s.datagram s.edits

-- The `len` bytes from `start` where their end is inside the store, as whole numbers, and else none.
unfoldable pub bytes_in : List ℕ → ℕ → ℕ → List ℕ
bytes_in s start len = pick (leb (start + len) (length s)) (part s start len) []

-- The bytes that a range names in its store.
abbrev pub bytes_of : Stores → Range → List ℕ
bytes_of s r = bytes_in (store_of s r.home) r.start r.len

-- Where such bytes lie, in a store of this size that lies at a place: at their start where their end is inside the store, and
-- else at the store's own start. A place is a piece of memory and how far into it.
abbrev pub place_in : ℕ × ℕ → ℕ → ℕ → ℕ → ℕ × ℕ
place_in at size start len = (at.0, pick (leb (start + len) size) start 0 + at.1)

-- Where the bytes that a range names lie: in the store that it names, of the two that lie at these places.
abbrev pub place_of : ℕ × ℕ → ℕ × ℕ → Stores → Range → ℕ × ℕ
place_of datagram edits s r = place_in (chosen r.home datagram edits) (length (store_of s r.home)) r.start r.len

-- The range of a record's value.
abbrev pub range_of : OptionRecord → Range
range_of r = record { home = r.home; start = r.start; len = r.len }

-- The records in use; a count over 128 reads as 128.
abbrev pub records_of : Packet → List OptionRecord
records_of p = take p.count p.options

-- The records of a number, in their order.
abbrev pub of_number : ℕ → List OptionRecord → List OptionRecord
of_number n [] = []
of_number n (r ∷ rs) = pick (eqb r.number n) (r ∷ of_number n rs) (of_number n rs)

-- The value of a record.
abbrev pub value_of : Stores → OptionRecord → List ℕ
value_of s r = bytes_of s (range_of r)

-- The number of the record at an index, if there is such a record.
abbrev pub number_at : List OptionRecord → ℕ → Option ℕ
number_at rs n = pick (leb (length rs) n) None (Some (get_or rs n none).number)
