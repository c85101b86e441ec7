-- The messages of a freeze stream, found position by position, or 19 for any record, order or length that is outside the form.
-- A byte past the end of the stream reads as 0, which is no kind.
use Rattle.std.specs.Prelude.{ℕ, zero, suc, ◌+◌, ◌-◌, Bool, true, List, [], ◌∷◌, ◌++◌, length, get_or, ltb, eqb}
use Rattle.ground.specs.Choice.{pick, both}
use Rattle.ground.specs.Part.{part}
use Rattle.refusal.specs.Answer.{Answer, given, refused, onward}
use Rattle.packet.specs.Limits.{full_size}
use Rattle.stream.specs.declared.Form.{Form}
use Rattle.stream.specs.declared.Form.TheVariants.{Old, New}
use Rattle.stream.specs.Stream.{Frozen, full, head_size, padding}

-- How many bytes the chunk at a position carries, by its head; 0 where no chunk of the form starts.
unfoldable pub count_at : Form → List ℕ → ℕ → ℕ
count_at Old s at = pick (eqb (get_or s at 0) 2) (get_or s (at + 1) 0) 0
count_at New s at = pick (eqb (get_or s at 0) 4) 64 (pick (ltb (get_or s at 0) 192) (get_or s at 0 - 128) 0)

-- The position after a chunk of n bytes.
abbrev pub end_of_chunk : Form → ℕ → ℕ → ℕ
end_of_chunk form at n = at + head_size form + n + padding form n

-- Each byte is zero.
abbrev pub zeros : List ℕ → Bool
zeros [] = true
zeros (b ∷ bs) = both (eqb b 0) (zeros bs)

-- The chunk at a position: how many bytes it carries, at least one and no more than a full chunk; the whole record is there, and
-- the bytes that it doesn't use are zero.
unfoldable pub chunk_at : Form → List ℕ → ℕ → Answer ℕ
chunk_at form s at =
    pick (ltb (count_at form s at) 1) (refused 19)
    (pick (ltb (full form) (count_at form s at)) (refused 19)
    (pick (ltb (length s) (end_of_chunk form at (count_at form s at))) (refused 19)
    (pick (zeros (part s (at + head_size form + count_at form s at) (padding form (count_at form s at))))
    (given (count_at form s at)) (refused 19))))

-- The bytes of a message's chunks, and the position after its end.
pub record Body : Type 0 where
  pub bytes : List ℕ
  pub next : ℕ

-- The chunks at a position, up to the kind 3 that ends the message, after a chunk of `before` bytes: only a full one may have
-- another after it.
unfoldable pub body_at : Form → List ℕ → ℕ → ℕ → ℕ → Answer Body
body_at form s zero before at = refused 19
body_at form s (suc fuel) before at =
    pick (eqb (get_or s at 0) 3) (given (record { bytes = []; next = at + 1 }))
    (pick (ltb before (full form)) (refused 19)
    (onward (chunk_at form s at) (λ n.
    onward (body_at form s fuel n (end_of_chunk form at n)) (λ b.
    given (record { bytes = part s (at + head_size form) n ++ b.bytes; next = b.next })))))

-- A message, and the position after it.
pub record Found : Type 0 where
  pub message : Frozen
  pub next : ℕ

-- A body of a length that a datagram may have.
unfoldable pub sized_body : List ℕ → Body → Answer Found
sized_body peer b =
    pick (ltb (length b.bytes) 4) (refused 19)
    (pick (ltb full_size (length b.bytes)) (refused 19)
    (given (record { message = record { peer = peer; datagram = b.bytes }; next = b.next })))

-- The message at a position: kind 1 and the peer's 18 bytes, then its chunks.
unfoldable pub message_at : Form → List ℕ → ℕ → Answer Found
message_at form s at =
    pick (eqb (get_or s at 0) 1)
    (pick (ltb (length s) (at + 19)) (refused 19)
    (onward (body_at form s (length s) (full form) (at + 19)) (sized_body (part s (at + 1) 18))))
    (refused 19)

-- So many messages at most, from a position to the end of the stream.
unfoldable pub messages_at : Form → List ℕ → ℕ → ℕ → Answer (List Frozen)
messages_at form s zero at = pick (ltb at (length s)) (refused 19) (given [])
messages_at form s (suc most) at =
    pick (ltb at (length s))
    (onward (message_at form s at) (λ m. onward (messages_at form s most m.next) (λ l. given (m.message ∷ l))))
    (given [])

-- The messages from a position: a stream has fewer than it has bytes.
abbrev pub messages_from : Form → List ℕ → ℕ → Answer (List Frozen)
messages_from form s at = messages_at form s (length s) at

-- The messages of a stream: 19 where it isn't one of the form.
abbrev pub thawed : Form → List ℕ → Answer (List Frozen)
thawed form s = messages_from form s 0
