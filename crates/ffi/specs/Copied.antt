-- The answer of a writer as one number, and where what is written of a datagram ends.
use Rattle.std.specs.Prelude.{ℕ, ◌+◌, List, length, get_or, leb, eqb}
use Rattle.ground.specs.Choice.{pick}
use Rattle.refusal.specs.Answer.{Answer, given, refused}

-- An answer as one number: the length, or 2^32 and the refusal's number, which no length reaches.
abbrev pub length_in : Answer ℕ → ℕ
length_in (given n) = n
length_in (refused k) = 4294967296 + k

-- Where what is written of a datagram ends: with its options where no payload is sent, else with the datagram.
unfoldable pub sent_end : List ℕ → ℕ → ℕ → ℕ
sent_end s end payload = pick (leb (length s) payload) end (pick (eqb (get_or s 1 0) 0) end (length s))
