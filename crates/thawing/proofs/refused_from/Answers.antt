-- `refused_from`: the rest of the stream decides before the datagram.
use Rattle.thawing.proofs.Judging.{refused_datagram}
use Rattle.thawing.proofs.refused_from.Goals as goal

pub returns-in-Ok : goal.returns-in-Ok
returns-in-Ok c =
    refused_datagram _ _ _ _ c.requires.0 c.requires.1 _ c.in-Ok.ensures
