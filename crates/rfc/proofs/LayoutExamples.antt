-- The bytes of messages (RFC 7252, sections 3 and 3.1): examples of its appendix A, and the edges of each field.
use Prim.Native.Nat.{ℕ}
use mathlib.Core.Path.{◌≡◌, refl}
use mathlib.Core.List.{List, [], ◌∷◌, map}
use lib.ListN.{replicate}
use Rattle.rfc.specs.Message.{layout, header_layout, option_layout, nibble_of, extension_of}
use Rattle.rfc.proofs.Sample.{option, message, get}

temperature : List ℕ
temperature = 0x74 ∷ 0x65 ∷ 0x6d ∷ 0x70 ∷ 0x65 ∷ 0x72 ∷ 0x61 ∷ 0x74 ∷ 0x75 ∷ 0x72 ∷ 0x65 ∷ []

-- Appendix A, figure 16: a confirmable GET of /temperature, message id 7d34.
get_temperature : layout (message 1 0 1 0x7d34 [] (option 11 temperature ∷ []) []) ≡ (0x40 ∷ 0x01 ∷ 0x7d ∷ 0x34 ∷ 0xbb ∷ temperature)
unfolding layout header_layout option_layout nibble_of extension_of temperature
get_temperature = refl

-- Its answer, piggybacked in an acknowledgement: 2.05 with the payload "22.3 C".
got_temperature : layout (message 1 2 0x45 0x7d34 [] [] (0x32 ∷ 0x32 ∷ 0x2e ∷ 0x33 ∷ 0x20 ∷ 0x43 ∷ [])) ≡ (0x60 ∷ 0x45 ∷ 0x7d ∷ 0x34 ∷ 0xff ∷ 0x32 ∷ 0x32 ∷ 0x2e ∷ 0x33 ∷ 0x20 ∷ 0x43 ∷ [])
unfolding layout header_layout
got_temperature = refl

-- Appendix A too: the same GET with the token 20 and message id 7d35.
get_with_token : layout (message 1 0 1 0x7d35 (0x20 ∷ []) (option 11 temperature ∷ []) []) ≡ (0x41 ∷ 0x01 ∷ 0x7d ∷ 0x35 ∷ 0x20 ∷ 0xbb ∷ temperature)
unfolding layout header_layout option_layout nibble_of extension_of temperature
get_with_token = refl

-- Each field of the header in its own bits (figure 7).
header_edges : header_layout (message 3 3 255 0xFF00 (replicate 8 0) [] []) ≡ (0xF8 ∷ 0xFF ∷ 0xFF ∷ 0x00 ∷ [])
unfolding header_layout
header_edges = refl

-- The nibble and the extension bytes of a delta or a length (section 3.1).
numbers : List ℕ
numbers = 0 ∷ 12 ∷ 13 ∷ 268 ∷ 269 ∷ 525 ∷ 65535 ∷ 65804 ∷ []

nibbles : map nibble_of numbers ≡ (0 ∷ 12 ∷ 13 ∷ 13 ∷ 14 ∷ 14 ∷ 14 ∷ 14 ∷ [])
unfolding numbers nibble_of
nibbles = refl

extensions : map extension_of numbers ≡ ([] ∷ [] ∷ (0x00 ∷ []) ∷ (0xFF ∷ []) ∷ (0x00 ∷ 0x00 ∷ []) ∷ (0x01 ∷ 0x00 ∷ []) ∷ (0xFE ∷ 0xF2 ∷ []) ∷ (0xFF ∷ 0xFF ∷ []) ∷ [])
unfolding numbers extension_of
extensions = refl

-- Options of the numbers 11, 11 and 12: each delta counts from the option before.
deltas : layout (get [] (option 11 (0x61 ∷ []) ∷ option 11 (0x62 ∷ []) ∷ option 12 [] ∷ []) []) ≡ (0x40 ∷ 0x01 ∷ 0x00 ∷ 0x01 ∷ 0xB1 ∷ 0x61 ∷ 0x01 ∷ 0x62 ∷ 0x10 ∷ [])
unfolding layout header_layout option_layout nibble_of extension_of
deltas = refl

-- A delta and a length that both have extension bytes: the delta's come first (figure 8).
both_extended : layout (get [] (option 300 (replicate 15 0x61) ∷ []) []) ≡ (0x40 ∷ 0x01 ∷ 0x00 ∷ 0x01 ∷ 0xED ∷ 0x00 ∷ 0x1F ∷ 0x02 ∷ replicate 15 0x61)
unfolding layout header_layout option_layout nibble_of extension_of
both_extended = refl

-- The highest option number.
number_65535 : layout (get [] (option 65535 [] ∷ []) []) ≡ (0x40 ∷ 0x01 ∷ 0x00 ∷ 0x01 ∷ 0xE0 ∷ 0xFE ∷ 0xF2 ∷ [])
unfolding layout header_layout option_layout nibble_of extension_of
number_65535 = refl

-- Options, then the marker and a payload; with no payload there is no marker.
payload_last : layout (get [] (option 12 (0x28 ∷ []) ∷ []) (0x61 ∷ 0x62 ∷ [])) ≡ (0x40 ∷ 0x01 ∷ 0x00 ∷ 0x01 ∷ 0xC1 ∷ 0x28 ∷ 0xFF ∷ 0x61 ∷ 0x62 ∷ [])
unfolding layout header_layout option_layout nibble_of extension_of
payload_last = refl

no_marker : layout (get [] [] []) ≡ (0x40 ∷ 0x01 ∷ 0x00 ∷ 0x01 ∷ [])
unfolding layout header_layout
no_marker = refl
