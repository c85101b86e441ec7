-- Ranges that bytes put into the edit store do not touch.
use Rattle.std.specs.Prelude.{ℕ, ◌+◌, ◌≤◌, List, [], ◌∷◌, ◌⊎◌}
use Rattle.packet.specs.Packet.{chosen, range_of}
use Rattle.packet.specs.declared.Packet.{Packet}
use Rattle.packet.specs.declared.OptionRecord.{OptionRecord}
use Rattle.packet.specs.declared.Range.{Range}

-- A range lies in the datagram, or in the edit store, where it ends before the bytes start, or starts after they end.
abbrev pub Apart : ℕ → ℕ → Range → Type 0
Apart start len r = chosen r.home (Unit {0}) ((r.start + r.len ≤ start) ⊎ (start + len ≤ r.start))

-- The values of records do so.
abbrev pub AllApart : ℕ → ℕ → List OptionRecord → Type 0
AllApart start len [] = Unit {0}
AllApart start len (r ∷ rs) = Apart start len (range_of r) × AllApart start len rs

-- Token and payload of a packet, and the values of these records, are not touched.
pub record Untouched (start len : ℕ) (p : Packet) (rs : List OptionRecord) : Type 0 where
  pub token : Apart start len p.token
  pub options : AllApart start len rs
  pub payload : Apart start len p.payload
