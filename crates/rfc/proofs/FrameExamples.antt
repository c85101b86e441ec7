-- The frames of messages (RFC 8323, section 3.2): its worked example, and the edges of the length.
use Prim.Native.Nat.{ℕ}
use mathlib.Core.Path.{◌≡◌, refl}
use mathlib.Core.List.{List, [], ◌∷◌, map}
use lib.ListN.{replicate}
use Rattle.rfc.specs.Message.{option_layout, nibble_of, extension_of}
use Rattle.rfc.specs.Frame.{length_nibble, length_extension, frame_head, frame}
use Rattle.rfc.proofs.Sample.{option, message, get}

-- 2.03 with the token 7f, and neither options nor payload.
valid : frame (message 1 0 0x43 1 (0x7f ∷ []) [] []) ≡ (0x01 ∷ 0x43 ∷ 0x7f ∷ [])
unfolding frame frame_head length_nibble length_extension nibble_of extension_of
valid = refl

-- The nibble and the extension bytes of a length, on both sides of each edge.
lengths : List ℕ
lengths = 0 ∷ 12 ∷ 13 ∷ 268 ∷ 269 ∷ 65804 ∷ 65805 ∷ 69996 ∷ 4295033100 ∷ []

nibbles : map length_nibble lengths ≡ (0 ∷ 12 ∷ 13 ∷ 13 ∷ 14 ∷ 14 ∷ 15 ∷ 15 ∷ 15 ∷ [])
unfolding lengths length_nibble nibble_of
nibbles = refl

extensions : map length_extension lengths ≡ ([] ∷ [] ∷ (0x00 ∷ []) ∷ (0xFF ∷ []) ∷ (0x00 ∷ 0x00 ∷ []) ∷ (0xFF ∷ 0xFF ∷ []) ∷ (0x00 ∷ 0x00 ∷ 0x00 ∷ 0x00 ∷ []) ∷ (0x00 ∷ 0x00 ∷ 0x10 ∷ 0x5F ∷ []) ∷ (0xFF ∷ 0xFF ∷ 0xFF ∷ 0xFF ∷ []) ∷ [])
unfolding lengths length_extension extension_of
extensions = refl

-- A GET of /test with a token of four bytes: the length counts from the options on.
get_test : frame (get (0x20 ∷ 0x30 ∷ 0x40 ∷ 0x50 ∷ []) (option 11 (0x74 ∷ 0x65 ∷ 0x73 ∷ 0x74 ∷ []) ∷ []) []) ≡ (0x54 ∷ 0x01 ∷ 0x20 ∷ 0x30 ∷ 0x40 ∷ 0x50 ∷ 0xB4 ∷ 0x74 ∷ 0x65 ∷ 0x73 ∷ 0x74 ∷ [])
unfolding frame frame_head length_nibble length_extension option_layout nibble_of extension_of
get_test = refl

-- A payload is counted with its marker, and neither type nor id is seen.
marker_counted : frame (message 1 1 0x45 0x0102 [] [] (0x61 ∷ [])) ≡ (0x20 ∷ 0x45 ∷ 0xFF ∷ 0x61 ∷ [])
unfolding frame frame_head length_nibble length_extension nibble_of extension_of
marker_counted = refl

-- An extension byte stands before the code.
code_after_extension : frame (message 1 0 0x45 1 [] [] (replicate 12 0x61)) ≡ (0xD0 ∷ 0x00 ∷ 0x45 ∷ 0xFF ∷ replicate 12 0x61)
unfolding frame frame_head length_nibble length_extension nibble_of extension_of
code_after_extension = refl
