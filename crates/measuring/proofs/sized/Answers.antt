-- `sized`: the tests in their order, on sums that are the counted size and the written one.
use Prim.Native.Nat.{◌+◌}
use mathlib.Core.Path.{◌≡◌, sym, ◌∙◌}
use native.Mathlib.Omega.{arith}
use borrow.Author.Tests.{lt-ltb, le-ltb}
use Rattle.measuring.specs.Measuring.{limited, counted, written_size}
use Rattle.measuring.proofs.Sizes.{marker_small}
use Rattle.measuring.proofs.sized.Goals as goal
use Rattle.measuring.proofs.sized.Goals.{After-marker_size}

counted_is : (c : After-marker_size) → counted c.args.strict c.args.packet ≡ 4 + c.args.packet.token.len + c.args.options + c.marker_size.result + c.args.packet.payload.len
counted_is c = rw (sym c.requires.0, sym c.sent_payload-sent.ensures, sym c.marker_size.ensures) (omega arith)

written_is : (c : After-marker_size) → written_size c.args.strict c.args.packet ≡ 4 + c.args.packet.token.len + c.args.options + c.marker_size.result + c.sent_payload-sent.result.len
written_is c = rw (sym c.requires.0, sym c.sent_payload-sent.ensures, sym c.marker_size.ensures) (omega arith)

pub overflow_add-rest-3 : goal.overflow_add-rest-3
overflow_add-rest-3 c = omega (arith, c.marker_size.ensures, marker_small c.sent_payload-sent.result.len)

pub overflow_add-size : goal.overflow_add-size
overflow_add-size c = omega (arith, c.marker_size.ensures, marker_small c.sent_payload-sent.result.len)

pub returns-then-exceeded_by : goal.returns-then-exceeded_by
unfolding limited
returns-then-exceeded_by c = rw (counted_is (goal.at.returns-then-exceeded_by c).After-marker_size, sym c.exceeded_by.ensures ∙ c.if-exceeded_by.true)

pub overflow_add-length : goal.overflow_add-length
overflow_add-length c = omega (arith, c.marker_size.ensures, marker_small c.sent_payload-sent.result.len)

pub returns-then-room-length : goal.returns-then-room-length
unfolding limited
returns-then-room-length c = rw (counted_is (goal.at.returns-then-room-length c).After-marker_size, sym c.exceeded_by.ensures ∙ c.if-exceeded_by.false, written_is (goal.at.returns-then-room-length c).After-marker_size, lt-ltb _ _ c.if-room-length.true)

pub returns : goal.returns
unfolding limited
returns c = rw (counted_is (goal.at.returns c).After-marker_size, sym c.exceeded_by.ensures ∙ c.if-exceeded_by.false, written_is (goal.at.returns c).After-marker_size, le-ltb _ _ c.if-room-length.false)
