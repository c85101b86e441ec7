-- `sized`: by the room, on the size that is written.
use mathlib.Core.Path.{sym}
use native.Mathlib.Omega.{arith}
use borrow.Author.Tests.{lt-ltb, le-ltb}
use Rattle.measuring.proofs.Sizes.{marker_small}
use Rattle.flat_measuring.specs.FlatMeasuring.{sent_in}
use Rattle.flat_measuring.proofs.Sent.{sent_small, written_is}
use Rattle.flat_measuring.proofs.sized.Goals as goal

pub overflow_add-length-3 : goal.overflow_add-length-3
overflow_add-length-3 c = let a = c.args in omega (arith, c.type_inv.numbers 6, c.type_inv.numbers 9, c.payload_size.ensures, sent_small a.strict a.numbers.now, marker_small (sent_in a.strict a.numbers.now).len)

pub returns-then-room-length : goal.returns-then-room-length
returns-then-room-length c = rw (written_is c.args.strict c.args.numbers.now, sym c.requires.1, sym c.payload_size.ensures, lt-ltb _ _ c.if-room-length.true)

pub returns : goal.returns
returns c = rw (written_is c.args.strict c.args.numbers.now, sym c.requires.1, sym c.payload_size.ensures, le-ltb _ _ c.if-room-length.false)
