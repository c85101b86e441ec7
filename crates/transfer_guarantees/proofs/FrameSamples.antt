-- Sample frames: what goes out, what comes back, and what each is refused for first, as tables with a single statement each.
use Prim.Native.Nat.{ℕ}
use mathlib.Core.Path.{◌≡◌, refl}
use mathlib.Core.List.{List, [], ◌∷◌, map}
use lib.ListN.{replicate}
use Rattle.rfc.specs.Message.{option_layout, nibble_of, extension_of}
use Rattle.rfc.specs.Frame.{length_nibble, length_extension, frame_head, frame}
use Rattle.refusal.specs.Answer.{Answer, given, refused, onward, fitted}
use Rattle.class.specs.Class.{class_of}
use Rattle.header.specs.Header.{header_of, raw_in, type_of}
use Rattle.header.specs.declared.MessageType.TheVariants.{Acknowledgement}
use Rattle.packet.specs.Packet.{bytes_in}
use Rattle.option_reading.specs.Option.{extended, value_at, length_at, option_at, place_at}
use Rattle.reading.specs.Options.{options}
use Rattle.reading.specs.Reading.{packet_of, finished, after_header, reading}
use Rattle.framing.specs.Head.{extra, length_in, head_of}
use Rattle.framing.specs.Framing.{framed, strictly, unframed}

-- Bytes, and what becomes of them.
pub record Sample : Type 0 where
  pub bytes : List ℕ
  pub answer : Answer (List ℕ)

row : List ℕ → Answer (List ℕ) → Sample
row bytes answer = record { bytes = bytes; answer = answer }

pub out_table : List Sample
out_table =
    row (0x44 ∷ 0x01 ∷ 0x00 ∷ 0x01 ∷ 0x20 ∷ 0x30 ∷ 0x40 ∷ 0x50 ∷ 0xB4 ∷ 0x74 ∷ 0x65 ∷ 0x73 ∷ 0x74 ∷ []) (given (0x54 ∷ 0x01 ∷ 0x20 ∷ 0x30 ∷ 0x40 ∷ 0x50 ∷ 0xB4 ∷ 0x74 ∷ 0x65 ∷ 0x73 ∷ 0x74 ∷ []))
    ∷ row (0x50 ∷ 0x45 ∷ 0x01 ∷ 0x02 ∷ 0xFF ∷ 0x61 ∷ []) (given (0x20 ∷ 0x45 ∷ 0xFF ∷ 0x61 ∷ []))
    ∷ row (0x40 ∷ 0x01 ∷ 0x00 ∷ []) (refused 1)
    ∷ row (0x00 ∷ 0x01 ∷ 0x00 ∷ 0x01 ∷ []) (refused 7)
    ∷ row (0x40 ∷ 0x01 ∷ 0x00 ∷ 0x01 ∷ 0xFF ∷ []) (refused 9)
    ∷ []

-- As an acknowledgement with the id ABCD.
pub back_table : List Sample
back_table =
    row (0x00 ∷ 0x45 ∷ []) (given (0x60 ∷ 0x45 ∷ 0xAB ∷ 0xCD ∷ []))
    ∷ row (0x00 ∷ 0x00 ∷ []) (given (0x60 ∷ 0x00 ∷ 0xAB ∷ 0xCD ∷ []))
    ∷ row (0x54 ∷ 0x01 ∷ 0x20 ∷ 0x30 ∷ 0x40 ∷ 0x50 ∷ 0xB4 ∷ 0x74 ∷ 0x65 ∷ 0x73 ∷ 0x74 ∷ []) (given (0x64 ∷ 0x01 ∷ 0xAB ∷ 0xCD ∷ 0x20 ∷ 0x30 ∷ 0x40 ∷ 0x50 ∷ 0xB4 ∷ 0x74 ∷ 0x65 ∷ 0x73 ∷ 0x74 ∷ []))
    -- Bytes that are missing or left over by the two nibbles.
    ∷ row [] (refused 20)
    ∷ row (0x00 ∷ []) (refused 20)
    ∷ row (0x00 ∷ 0x01 ∷ 0x00 ∷ []) (refused 20)
    ∷ row (0x01 ∷ 0x01 ∷ []) (refused 20)
    ∷ row (0xD0 ∷ []) (refused 20)
    ∷ row (0xD0 ∷ 0x00 ∷ 0x01 ∷ []) (refused 20)
    ∷ row (0xF0 ∷ 0x00 ∷ 0x00 ∷ 0x00 ∷ 0x01 ∷ []) (refused 20)
    ∷ row (0xF0 ∷ 0xFF ∷ 0xFF ∷ 0xFF ∷ 0xFF ∷ []) (refused 20)
    -- A token of 9 bytes is asked for first by 20, then by 2, with code 0 too.
    ∷ row (0x09 ∷ 0x01 ∷ replicate 8 0x00) (refused 20)
    ∷ row (0x09 ∷ 0x01 ∷ replicate 9 0x00) (refused 2)
    ∷ row (0x09 ∷ 0x00 ∷ replicate 9 0x00) (refused 2)
    -- Code 0 with a token, with a marker; a marker alone.
    ∷ row (0x01 ∷ 0x00 ∷ 0x61 ∷ []) (refused 8)
    ∷ row (0x10 ∷ 0x00 ∷ 0xFF ∷ []) (refused 8)
    ∷ row (0x10 ∷ 0x01 ∷ 0xFF ∷ []) (refused 9)
    ∷ []

pub outs : map (λ r. framed r.bytes) out_table ≡ map (λ r. r.answer) out_table
unfolding out_table row framed frame frame_head length_nibble length_extension option_layout nibble_of extension_of reading after_header finished packet_of options place_at option_at length_at value_at extended bytes_in header_of raw_in class_of type_of
outs = refl

pub backs : map (λ r. unframed Acknowledgement 0xABCD r.bytes) back_table ≡ map (λ r. r.answer) back_table
unfolding back_table row unframed strictly head_of extra length_in reading after_header finished packet_of options place_at option_at length_at value_at extended bytes_in header_of raw_in class_of type_of
backs = refl

-- Room is asked for last: 40 01 00 01 takes 2 bytes out, and 00 01 takes 4 back.
pub rooms : (map (λ room. onward (framed (0x40 ∷ 0x01 ∷ 0x00 ∷ 0x01 ∷ [])) (fitted room)) (1 ∷ 2 ∷ []) ≡ (refused 12 ∷ given 2 ∷ []))
    × (map (λ room. onward (unframed Acknowledgement 1 (0x00 ∷ 0x01 ∷ [])) (fitted room)) (3 ∷ 4 ∷ []) ≡ (refused 12 ∷ given 4 ∷ []))
unfolding framed frame frame_head length_nibble length_extension nibble_of extension_of unframed strictly head_of extra length_in reading after_header finished packet_of options place_at bytes_in header_of raw_in class_of type_of
rooms = (refl, refl)
