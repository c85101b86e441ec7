-- `count`: a datagram has as many bytes as are gathered.
use mathlib.Core.Path.{sym}
use Rattle.chunk_judging.proofs.Places.{gathered_length}
use Rattle.chunk_judging.proofs.datagram.DatagramByteSource.count.Goals as goal

pub returns : goal.returns
returns c = let d = c.args.self in sym (gathered_length d.form d.stream.now d.from d.len)
