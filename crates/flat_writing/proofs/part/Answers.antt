-- `part`: the part of the store that the home names.
use native.Mathlib.Nat.{add-sub_cancel_left}
use native.Mathlib.Omega.{arith}
use mathlib.Core.Path.{refl, sym, ap}
use Prim.Native.Nat.{◌+◌, ◌≤◌}
use lib.ListN.{length}
use borrow.Author.Tests.{le-leb}
use Rattle.packet.specs.Packet.{bytes_in, held}
use Rattle.judging.proofs.Ranges.{length_in_lem}
use Rattle.unflat.specs.Unflat.{home_of}
use Rattle.flat_writing.proofs.part.Goals as goal

pub returns : goal.returns
unfolding bytes_in
returns c =
    let a = c.args in
    let s = c.store_of-store.ensures in
    let inside : a.start + a.len ≤ length c.store_of-store.result.now = omega (arith, ap length s, length_in_lem (held a.stores) (home_of a.home)) in
    rw (sym s, le-leb _ _ inside, add-sub_cancel_left) refl
