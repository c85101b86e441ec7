-- A packet by the list of its records, and the list with new records in the place of some.
use Rattle.std.specs.Prelude.{ℕ, ◌+◌, ◌-◌, ◌≤◌, ◌≡◌, Bool, false, List, [], ◌∷◌, ◌++◌, length, take, drop, replicate, ltb, eqb}
use Rattle.ground.specs.Choice.{pick, either}
use Rattle.refusal.specs.Answer.{Answer, given, refused}
use Rattle.packet.specs.Limits.{max_options}
use Rattle.packet.specs.Packet.{none, records_of}
use Rattle.packet.specs.declared.Packet.{Packet}
use Rattle.packet.specs.declared.OptionRecord.{OptionRecord}
use Rattle.packet.specs.declared.Range.{Range}
use Rattle.packet.specs.declared.Home.{Home}
use Rattle.packet.specs.declared.Home.TheVariants.{Datagram, Edits}

-- The packet of a header, a token, a list of records and a payload: the records in the array's first places, the empty record in
-- the others.
abbrev pub packet_with : Packet → Range → List OptionRecord → Range → Packet
packet_with p token rs payload =
    record {
      header = p.header;
      token = token;
      count = length rs;
      options = rs ++ replicate (max_options - length rs) none;
      payload = payload;
    }

-- The packet with this list of records.
abbrev pub with_records : Packet → List OptionRecord → Packet
with_records p rs = packet_with p p.token rs p.payload

-- The packet with this list of records, where there is room for them; a 129th gives 6.
abbrev pub roomy : Packet → List OptionRecord → Answer Packet
roomy p rs = pick (ltb max_options (length rs)) (refused 6) (given (with_records p rs))

-- The record of a number and a range.
abbrev pub record_of : ℕ → Range → OptionRecord
record_of n range = record { number = n; home = range.home; spare = 0; start = range.start; len = range.len }

-- The home that a number stands for: 0 for the datagram, 1 for the edit store; `homed` lets no other number through.
abbrev pub home_of : ℕ → Home
home_of n = pick (eqb n 0) Datagram Edits

-- The ranges that numbers in threes stand for, each a home, a start and a length; numbers left over at the end stand for none.
abbrev pub ranges_in : List ℕ → List Range
ranges_in [] = []
ranges_in (home ∷ []) = []
ranges_in (home ∷ start ∷ []) = []
ranges_in (home ∷ start ∷ len ∷ rest) = record { home = home_of home; start = start; len = len } ∷ ranges_in rest

-- The home of some range is neither 0 nor 1.
abbrev pub homeless : List ℕ → Bool
homeless [] = false
homeless (home ∷ []) = false
homeless (home ∷ start ∷ []) = false
homeless (home ∷ start ∷ len ∷ rest) = either (ltb 1 home) (homeless rest)

-- An edit with the ranges that numbers stand for; a home that is neither 0 nor 1 gives 11.
abbrev pub homed : List ℕ → (List Range → Answer Packet) → Answer Packet
homed l edit = pick (homeless l) (refused 11) (edit (ranges_in l))

-- The records before a place, new ones, and those from another place on.
abbrev pub spliced : ℕ → ℕ → List OptionRecord → List OptionRecord → List OptionRecord
spliced low high new rs = take low rs ++ (new ++ drop high rs)

-- A splice of this length between two places among the records in use, for which there is room.
pub record Fits (p : Packet) (low high new count : ℕ) : Type 0 where
  pub few : length (records_of p) ≤ max_options
  pub low_in : low ≤ length (records_of p)
  pub high_in : high ≤ length (records_of p)
  pub long : count ≡ low + new + (length (records_of p) - high)
  pub room : count ≤ max_options
