-- A range inside its store names as many bytes as it says.
use Prim.Native.Nat.{ℕ, ◌+◌, ◌≤◌}
use mathlib.Core.Path.{◌≡◌, refl}
use mathlib.Core.Bool.{false}
use mathlib.Core.List.{List}
use native.Mathlib.Omega.{arith}
use lib.ListN.{length, drop, length-take, length-drop}
use borrow.Author.Tests.{le-leb}
use Rattle.packet.specs.Packet.{Stores, store_of, bytes_in, bytes_of, range_of, value_of}
use Rattle.packet.specs.declared.Home.{Home}
use Rattle.packet.specs.declared.Home.TheVariants.{Datagram, Edits}
use Rattle.packet.specs.declared.Range.{Range}
use Rattle.packet.specs.declared.OptionRecord.{OptionRecord}
use Rattle.judging.specs.Judge.{lengths_of, length_in, bad_value}
use Rattle.judging.proofs.Good.{value_inside}

-- The length of a home's store is the home's length.
pub length_in_lem : (s : Stores) (h : Home) → length (store_of s h) ≡ length_in (lengths_of s) h
length_in_lem s Datagram = refl
length_in_lem s Edits = refl

bytes_exactly : (s : List ℕ) (start len : ℕ) → start + len ≤ length s → length (bytes_in s start len) ≡ len
unfolding bytes_in
bytes_exactly s start len h = rw (le-leb (start + len) (length s) h) (omega (arith, length-take len (drop start s), length-drop start s))

pub range_exactly : (s : Stores) (r : Range) → r.start + r.len ≤ length_in (lengths_of s) r.home → length (bytes_of s r) ≡ r.len
range_exactly s r h = bytes_exactly (store_of s r.home) r.start r.len (rw (length_in_lem s r.home) h)

pub value_exactly : (s : Stores) (r : OptionRecord) → bad_value (lengths_of s) r ≡ false → length (value_of s r) ≡ r.len
value_exactly s r e = range_exactly s (range_of r) (value_inside (lengths_of s) r e)
