-- The listing of a message's layout, from what strict reading answers to it.
use mathlib.Core.Path.{ap}
use mathlib.Core.List.{[]}
use native.Mathlib.Omega.{arith}
use lib.ListN.{length}
use borrow.Author.Tests.{le-ltb}
use Rattle.rfc.specs.Message.{layout}
use Rattle.reading.proofs.Complete.{reads_layout}
use Rattle.lines.specs.Lines.{message_lines}
use Rattle.listing.specs.Listing.{newline, listing, ListsLayouts}

pub listing_layout : ListsLayouts
unfolding listing
listing_layout m wf h =
    let r = reads_layout m wf (omega arith) in
    rw (le-ltb 65535 (length (layout m)) h, r.is) (ap (message_lines newline) (r.means []))
