-- The frame of a message over TCP: RFC 8323, section 3.2.
use Rattle.std.specs.Prelude.{ℕ, ◌+◌, ◌-◌, ◌*◌, ◌/◌, ◌%◌, List, [], ◌∷◌, ◌++◌, length, ltb}
use Rattle.ground.specs.Choice.{pick}
use Rattle.rfc.specs.Message.{Message, nibble_of, extension_of, options_layout, payload_layout}

-- What the length of a frame covers: options, marker and payload, neither code nor token.
abbrev pub body : Message → List ℕ
body m = options_layout 0 m.options ++ payload_layout m.payload

-- The nibble of a length: that of an option's length, and 15 for four extension bytes from 65805 on.
unfoldable pub length_nibble : ℕ → ℕ
length_nibble n = pick (ltb n 65805) (nibble_of n) 15

-- The extension bytes of a length: those of an option's length, or the length less 65805 in four bytes, high byte first.
unfoldable pub length_extension : ℕ → List ℕ
length_extension n =
    pick (ltb n 65805) (extension_of n)
    (((n - 65805) / 16777216) ∷ ((n - 65805) / 65536 % 256) ∷ ((n - 65805) / 256 % 256) ∷ ((n - 65805) % 256) ∷ [])

-- What stands before the token: the length's nibble and the token's length in one byte, the extension bytes, the code.
unfoldable pub frame_head : (length token code : ℕ) → List ℕ
frame_head length token code = (length_nibble length * 16 + token) ∷ (length_extension length ++ (code ∷ []))

-- The whole frame. Type and message id aren't in it.
unfoldable pub frame : Message → List ℕ
frame m = frame_head (length (body m)) (length m.token) m.code ++ (m.token ++ body m)
