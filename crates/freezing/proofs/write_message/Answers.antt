-- `write_message`: the size that is counted is that of the message.
use mathlib.Core.Path.{◌≡◌, sym, ◌∙◌}
use native.Mathlib.Omega.{arith}
use lib.ListN.{length}
use Rattle.stream.specs.Stream.{message_of}
use Rattle.stream.proofs.Sizes.{message_size_lem}
use Rattle.freezing.proofs.Freezing.{writes_nothing, writes_all}
use Rattle.freezing.proofs.write_message.Goals as goal
use Rattle.freezing.proofs.write_message.Goals.{After-message_size-size}

size : (c : After-message_size-size) → length (message_of c.args.form (record { peer = c.args.peer; datagram = c.args.datagram.now })) ≡ c.message_size-size.result
size c =
    message_size_lem c.args.form (record { peer = c.args.peer; datagram = c.args.datagram.now }) (omega arith) ∙ sym c.message_size-size.ensures

pub returns-then-stream-start-2 : goal.returns-then-stream-start-2
returns-then-stream-start-2 c = writes_nothing _ _ _ _ (omega (arith, size (goal.at.returns-then-stream-start-2 c).After-message_size-size))

pub returns : goal.returns
returns c =
    writes_all _ _ _ _ _ _ _ (size (goal.at.returns c).After-message_size-size) (omega arith) c.put_message.ensures
