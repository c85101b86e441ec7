-- `put_frame`: the head is made anew, and what follows the header is copied.
use Rattle.framing.proofs.Converting.{frame_put}
use Rattle.framing.proofs.put_frame.Goals as goal

pub returns : goal.returns
returns c = rw (frame_put _ _ c.byte_at-token_length.ensures.is _ c.head_of-head.ensures) at c.put_both.ensures
