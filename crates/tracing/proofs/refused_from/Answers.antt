-- `refused_from`: the rest of the trace decides before the datagram.
use Rattle.tracing.proofs.Judging.{refused_datagram}
use Rattle.tracing.proofs.refused_from.Goals as goal

pub returns-in-Ok : goal.returns-in-Ok
returns-in-Ok c =
    refused_datagram _ _ _ _ c.requires.0 c.requires.1 c.in-Ok.ensures
