-- CoAP messages and their bytes: RFC 7252, sections 3 and 3.1.
use Rattle.std.specs.Prelude.{ℕ, ◌+◌, ◌-◌, ◌*◌, ◌/◌, ◌%◌, ◌≤◌, ◌≡◌, List, [], ◌∷◌, ◌++◌, length, ltb}
use Rattle.ground.specs.Choice.{pick}
use Rattle.ground.specs.Part.{Bytes}

-- An option: its number and the bytes of its value (section 3.1).
pub record Opt : Type 0 where
  pub number : ℕ
  pub value : List ℕ

-- A message: the fields of section 3, figure 7.
pub record Message : Type 0 where
  pub version : ℕ
  pub type : ℕ
  pub code : ℕ
  pub id : ℕ
  pub token : List ℕ
  pub options : List Opt
  pub payload : List ℕ

-- Option numbers never fall: options stand in the order of their numbers (section 3.1).
abbrev pub Rising : ℕ → List Opt → Type 0
Rising n [] = Unit {0}
Rising n (o ∷ os) = (n ≤ o.number) × Rising o.number os

-- What each option keeps to: a number of the registry, which has 0 to 65535 (section 12.2), and a value that a length of 16 extension
-- bits reaches (section 3.1).
abbrev pub Options : List Opt → Type 0
Options [] = Unit {0}
Options (o ∷ os) = (o.number ≤ 65535) × (length o.value ≤ 65804) × Bytes o.value × Options os

-- Nothing but the header (section 4.1).
pub record Bare (m : Message) : Type 0 where
  pub token : m.token ≡ []
  pub options : m.options ≡ []
  pub payload : m.payload ≡ []

-- A well-formed message. Section 3: version 1, a type of 2 bits, a code of 8, an id of 16, a token of at most 8 bytes,
-- and, for an empty message, nothing after the header. 128 options is our limit, and no sentence of the RFC.
pub record WellFormed (m : Message) : Type 0 where
  pub version : m.version ≡ 1
  pub type : m.type ≤ 3
  pub code : m.code ≤ 255
  pub id : m.id ≤ 65535
  pub token_length : length m.token ≤ 8
  pub token : Bytes m.token
  pub count : length m.options ≤ 128
  pub rising : Rising 0 m.options
  pub options : Options m.options
  pub payload : Bytes m.payload
  pub empty : m.code ≡ 0 → Bare m

-- The nibble of a delta or a length: the number itself up to 12, else 13 for one extension byte and 14 for two (section 3.1).
unfoldable pub nibble_of : ℕ → ℕ
nibble_of n = pick (ltb n 13) n (pick (ltb n 269) 13 14)

-- The extension bytes of a delta or a length: none, the number less 13, or the number less 269 high byte first (section 3.1).
unfoldable pub extension_of : ℕ → List ℕ
extension_of n =
    pick (ltb n 13) [] (pick (ltb n 269) ((n - 13) ∷ []) (((n - 269) / 256) ∷ ((n - 269) % 256) ∷ []))

-- An option after one of the number `before`: delta and length as nibbles, their extensions, the value (section 3.1, figure 8).
unfoldable pub option_layout : ℕ → Opt → List ℕ
option_layout before o =
    (nibble_of (o.number - before) * 16 + nibble_of (length o.value)) ∷
    (extension_of (o.number - before) ++ (extension_of (length o.value) ++ o.value))

-- The options one after the other, each delta counted from the number before (section 3.1).
abbrev pub options_layout : ℕ → List Opt → List ℕ
options_layout before [] = []
options_layout before (o ∷ os) = option_layout before o ++ options_layout o.number os

-- The payload after its marker FF; no payload has no marker (section 3).
abbrev pub payload_layout : List ℕ → List ℕ
payload_layout [] = []
payload_layout (b ∷ bs) = 255 ∷ b ∷ bs

-- The four bytes of the header: version, type and token length in the first, then code, then id high byte first (section 3, figure 7).
unfoldable pub header_layout : Message → List ℕ
header_layout m =
    (m.version * 64 + m.type * 16 + length m.token) ∷ m.code ∷ (m.id / 256) ∷ (m.id % 256) ∷ []

-- The whole message (section 3, figure 7).
unfoldable pub layout : Message → List ℕ
layout m = header_layout m ++ (m.token ++ (options_layout 0 m.options ++ payload_layout m.payload))
