-- `Header::from_raw`: type and class by their own functions.
use Rattle.header.specs.Header.{header_of}
use Rattle.header.proofs.Header.from_raw.Goals as goal

pub returns : goal.returns
unfolding header_of
returns c = rw (c.from_number.ensures, c.from_byte.ensures)
