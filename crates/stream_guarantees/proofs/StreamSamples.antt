-- Small streams, computed: what a message is in each form, how many bytes it takes, and what is no stream.
use Prim.Native.Nat.{ℕ}
use mathlib.Core.Path.{◌≡◌, refl}
use mathlib.Core.List.{List, [], ◌∷◌, ◌++◌}
use lib.ListN.{replicate}
use Rattle.refusal.specs.Answer.{refused}
use Rattle.stream.specs.declared.Form.TheVariants.{Old, New}
use Rattle.stream.specs.Stream.{Frozen, chunk_of, chunks_of, message_of, stream_of, message_size}
use Rattle.stream.specs.Messages.{count_at, chunk_at, body_at, message_at, messages_at, thawed}
use Rattle.thawing.specs.Thawing.{entries}

abbrev peer : List ℕ
peer = 0 ∷ 1 ∷ 2 ∷ 3 ∷ 4 ∷ 5 ∷ 6 ∷ 7 ∷ 8 ∷ 9 ∷ 10 ∷ 11 ∷ 12 ∷ 13 ∷ 14 ∷ 15 ∷ 16 ∷ 17 ∷ []

-- GET with the path `test`; a GET; a GET with an empty option.
abbrev test : Frozen
test = record { peer = peer; datagram = 64 ∷ 1 ∷ 0 ∷ 1 ∷ 180 ∷ 116 ∷ 101 ∷ 115 ∷ 116 ∷ [] }

abbrev four : Frozen
four = record { peer = peer; datagram = 64 ∷ 1 ∷ 0 ∷ 1 ∷ [] }

abbrev five : Frozen
five = record { peer = peer; datagram = 64 ∷ 1 ∷ 0 ∷ 1 ∷ 16 ∷ [] }

-- 01 P 02 09, the nine bytes, 21 zeros, 03; and 01 P 84, the four bytes, 03.
in_the_old : message_of Old test ≡ 1 ∷ (peer ++ (2 ∷ 9 ∷ 64 ∷ 1 ∷ 0 ∷ 1 ∷ 180 ∷ 116 ∷ 101 ∷ 115 ∷ 116 ∷ (replicate 21 0 ++ (3 ∷ []))))
unfolding message_of chunks_of chunk_of
in_the_old = refl

in_the_new : message_of New four ≡ 1 ∷ (peer ++ (132 ∷ 64 ∷ 1 ∷ 0 ∷ 1 ∷ 3 ∷ []))
unfolding message_of chunks_of chunk_of
in_the_new = refl

-- Sizes on both sides of each edge.
sizes_in_the_old : (message_size Old 4 ≡ 52) × (message_size Old 30 ≡ 52) × (message_size Old 31 ≡ 84) × (message_size Old 60 ≡ 84) × (message_size Old 1280 ≡ 1396)
sizes_in_the_old = (refl, refl, refl, refl, refl)

sizes_in_the_new : (message_size New 4 ≡ 25) × (message_size New 63 ≡ 84) × (message_size New 64 ≡ 85) × (message_size New 65 ≡ 87) × (message_size New 1280 ≡ 1320)
sizes_in_the_new = (refl, refl, refl, refl, refl)

-- Two messages of 52 bytes: their peers at 1 and 53, their datagrams of 4 and 5 bytes end to end.
listed : entries Old 0 0 (four ∷ five ∷ []) ≡ 1 ∷ 0 ∷ 4 ∷ 53 ∷ 4 ∷ 5 ∷ []
unfolding message_of chunks_of chunk_of
listed = refl

-- No kind 1; a stream of the new form is none of the old, and the other way round.
no_peer : thawed Old (3 ∷ []) ≡ refused 19
unfolding messages_at message_at
no_peer = refl

not_old : thawed Old (stream_of New (four ∷ [])) ≡ refused 19
unfolding messages_at message_at body_at chunk_at count_at message_of chunks_of chunk_of
not_old = refl

not_new : thawed New (stream_of Old (four ∷ [])) ≡ refused 19
unfolding messages_at message_at body_at chunk_at count_at message_of chunks_of chunk_of
not_new = refl
