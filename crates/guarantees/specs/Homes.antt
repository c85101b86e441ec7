-- Two stores: a value is handed back as a part of the one that holds it, and what is frozen stays. No operation takes a datagram to write into, and what becomes of the edit store touches nothing
-- that a range of the datagram names.
use Rattle.std.specs.Prelude.{ℕ, ◌≡◌, List, length, Result}
use Rattle.refusal.specs.Answer.{Answer}
use Rattle.refusal.specs.declared.Refusal.{Refusal}
use Rattle.packet.specs.Packet.{chosen, Stores, stores, bytes_of, place_of}
use Rattle.packet.specs.declared.Packet.{Packet}
use Rattle.packet.specs.declared.Range.{Range}
use Rattle.packet.specs.declared.Home.TheVariants.{Datagram}
use Rattle.typed_options.specs.Apart.{Apart}
use Rattle.typed_options.specs.Setters.{Sets}

-- What a getter hands back: the bytes that a range names, where they lie in the store that it names, of two that lie at these places.
pub record HandsBack (bytes : List ℕ) (place datagram edits : ℕ × ℕ) (s : Stores) (r : Range) : Type 0 where
  pub bytes_are : bytes ≡ bytes_of s r
  pub place_is : place ≡ place_of datagram edits s r

-- So it is a part of whichever store holds the value: of the datagram's memory, or of the edit store's, as the range says.
abbrev pub PartOfItsHome : Type 0
PartOfItsHome =
    (bytes : List ℕ) (place datagram edits : ℕ × ℕ) (s : Stores) (r : Range) → HandsBack bytes place datagram edits s r
    → place.0 ≡ chosen r.home datagram.0 edits.0

-- Whatever an operation leaves in the edit store, a range of the datagram names the bytes that it named.
abbrev pub FrozenStays : Type 0
FrozenStays = (datagram old new : List ℕ) (r : Range) → r.home ≡ Datagram → bytes_of (stores datagram new) r ≡ bytes_of (stores datagram old) r

-- A setter, done or refused, leaves what every range names that the bytes it puts don't touch: every one of the datagram, and those
-- of the edit store that end before these bytes or start after them.
abbrev pub SetterLeaves : Type 0
SetterLeaves =
    (datagram old new : List ℕ) (p : Packet) (a : Answer Packet) (start : ℕ) (bytes : List ℕ) (e : Result Packet Refusal) → Sets p a start bytes old e new
    → (r : Range) → Apart start (length bytes) r → bytes_of (stores datagram new) r ≡ bytes_of (stores datagram old) r
