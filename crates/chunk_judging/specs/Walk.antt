-- The bytes of a datagram that lies in its stream.
use Rattle.std.specs.Prelude.{ℕ, List}
use Rattle.chunk_judging.specs.Chunks.{gathered}
use Rattle.chunk_judging.specs.declared.datagram.Datagram.{Datagram}

abbrev pub bytes_of : Datagram → List ℕ
bytes_of d = gathered d.form d.stream.now d.from d.len
