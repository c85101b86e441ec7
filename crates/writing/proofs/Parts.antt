-- The parts of a good message for which there is room: each of them is laid, and one after the other they are its layout.
use Prim.Native.Nat.{ℕ, ◌+◌, ◌≤◌}
use mathlib.Core.Path.{◌≡◌, sym}
use mathlib.Core.Bool.{Bool, false}
use mathlib.Core.List.{List}
use native.Mathlib.Nat.{zero-add}
use native.Mathlib.Omega.{arith}
use lib.ListN.{length}
use Rattle.std.specs.Prelude.{Result}
use Rattle.rfc.specs.Message.{Message, payload_layout}
use Rattle.refusal.specs.Answer.{given, written}
use Rattle.refusal.specs.declared.Refusal.{Refusal}
use Rattle.placing.specs.Put.{Put}
use Rattle.placing.proofs.Puts.{put_length, put_put}
use Rattle.packet.specs.Packet.{Stores, records_of}
use Rattle.packet.specs.Meaning.{meaning}
use Rattle.judging.specs.Judge.{lengths_of, bad_packet}
use Rattle.packet.specs.declared.Packet.{Packet}
use Rattle.judging.proofs.Good.{Good, good}
use Rattle.laying.specs.Laying.{laid, head_layout, laid_header, LaysHeader, LaysPayload}
use Rattle.laying.proofs.Pieces.{layout_pieces}
use Rattle.laying.proofs.Laid.{laid_room, head_length, header_laid, lays_put}
use Rattle.writing.specs.Writing.{sent, bytes_written}
use Rattle.judging.proofs.Ranges.{range_exactly}
use Rattle.writing.proofs.Sizes.{message_length}
use Rattle.writing.proofs.Options.{leftover, Putting, start}

module _ (strict : Bool) (s : Stores) (p : Packet) (old : List ℕ) (e : bad_packet (lengths_of s) p ≡ false) (room : length (bytes_written strict s p) ≤ length old) where
  -- What is sent, its token, and its options.
  abbrev message : Message
  message = meaning s (sent strict p)

  abbrev options : List ℕ
  options = leftover s (records_of p) 0 0

  sound : Good (lengths_of s) p
  sound = good (lengths_of s) p e

  -- There is room for the parts of the message.
  parts : 4 + length message.token + length options + length (payload_layout message.payload) ≤ length old
  parts = omega (arith, room, message_length message)

  -- Header and token are laid.
  pub head_given : laid_header p.header message.token (length old) ≡ given (length (head_layout p.header message.token))
  head_given =
      header_laid p.header message.token (length old) sound.version
      (omega (arith, range_exactly s p.token sound.token, sound.token_length))
      (omega (arith, parts, head_length p.header message.token))

  module _ (piece : Result ℕ Refusal) (k : ℕ) (mid : List ℕ) (l : LaysHeader p.header message.token old piece mid) (w : written piece ≡ given k) where
    head : Put old 0 (head_layout p.header message.token) k mid
    head = rw (zero-add k) at (lays_put _ 0 _ old piece k mid head_given l w)

    pub head_kept : length mid ≡ length old
    head_kept = put_length _ _ _ _ _ head

    -- The options end within the message.
    pub options_within : k + length options ≤ length (bytes_written strict s p)
    options_within = omega (arith, head.next, head_length p.header message.token, message_length message)

    -- Then the options begin.
    pub begin : Putting s (records_of p) mid k mid 0 k 0
    begin =
        start s (records_of p) mid k (omega (arith, parts, head.next, head_length p.header message.token, put_length _ _ _ _ _ head)) sound.ordered sound.values

    -- After them the payload is laid.
    module _ (out : List ℕ) (next : ℕ) (o : Put mid k options next out) where
      pub last_room : next + length (payload_layout message.payload) ≤ length out
      last_room = omega (arith, parts, head.next, head_length p.header message.token, put_length _ _ _ _ _ head, o.next, put_length _ _ _ _ _ o)

      pub last_given : laid (length out) next (payload_layout message.payload) ≡ given (length (payload_layout message.payload))
      last_given = laid_room (length out) next (payload_layout message.payload) last_room

      -- And all is put.
      pub whole : (final : Result ℕ Refusal) (n : ℕ) (new : List ℕ) → LaysPayload message.payload next out final new → written final ≡ given n → Put old 0 (bytes_written strict s p) (next + n) new
      whole final n new m v =
          rw (sym (layout_pieces p.header message.token message.options message.payload))
          (put_put _ _ _ _ _ _ _ _ head (put_put _ _ _ _ _ _ _ _ o (lays_put _ next _ out final n new last_given m v)))
