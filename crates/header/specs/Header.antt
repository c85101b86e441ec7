-- The message header: its four bytes, and its fields (RFC 7252, section 3, figure 7).
use Rattle.std.specs.Prelude.{ℕ, ◌+◌, ◌*◌, ◌/◌, ◌%◌, List, [], ◌∷◌, length, get_or, ltb, eqb, Result, Ok, Err}
use Rattle.ground.specs.Choice.{pick}
use Rattle.refusal.specs.Answer.{Answer, given, refused, onward, Beside}
use Rattle.refusal.specs.Number.{number_of}
use Rattle.refusal.specs.declared.Refusal.{Refusal}
use Rattle.class.specs.Class.{byte_of, class_of}
use Rattle.class.specs.declared.MessageClass.{MessageClass}
use Rattle.class.specs.declared.MessageClass.TheVariants.{Request}
use Rattle.class.specs.declared.RequestType.TheVariants.{Get}
use Rattle.code_text.specs.CodeText.{code_in, code_text}
use Rattle.header.specs.declared.MessageType.{MessageType}
use Rattle.header.specs.declared.MessageType.TheVariants.{Confirmable, NonConfirmable, Acknowledgement, Reset}
use Rattle.header.specs.declared.HeaderRaw.{HeaderRaw}
use Rattle.header.specs.declared.Header.{Header}

-- The number of a type.
abbrev pub number_of_type : MessageType → ℕ
number_of_type Confirmable = 0
number_of_type NonConfirmable = 1
number_of_type Acknowledgement = 2
number_of_type Reset = 3

-- The type that the low two bits of a number stand for.
unfoldable pub type_of : ℕ → MessageType
type_of n =
    pick (eqb (n % 4) 0) Confirmable
    (pick (eqb (n % 4) 1) NonConfirmable
    (pick (eqb (n % 4) 2) Acknowledgement Reset))

-- A new raw header: version 1, confirmable, no token; GET; id 0.
abbrev pub new_raw : HeaderRaw
new_raw = record { ver_type_tkl = 0x40; code = 0x01; message_id = 0 }

-- The version of a raw header: the high two bits of its first byte.
abbrev pub version_of : HeaderRaw → ℕ
version_of raw = raw.ver_type_tkl / 64

-- The length of its token: the low four bits of its first byte.
abbrev pub token_of : HeaderRaw → ℕ
token_of raw = raw.ver_type_tkl % 16

-- The four bytes of a raw header, the id high byte first.
abbrev pub raw_bytes : HeaderRaw → List ℕ
raw_bytes raw = raw.ver_type_tkl ∷ raw.code ∷ (raw.message_id / 256) ∷ (raw.message_id % 256) ∷ []

-- The raw header that bytes start with; fewer than four give InvalidHeader (1).
unfoldable pub raw_in : List ℕ → Answer HeaderRaw
raw_in s =
    pick (ltb (length s) 4) (refused 1)
    (given (record { ver_type_tkl = get_or s 0 0; code = get_or s 1 0; message_id = get_or s 2 0 * 256 + get_or s 3 0 }))

-- The answer of reading a raw header.
abbrev pub raw_read : Result HeaderRaw Refusal → Answer HeaderRaw
raw_read (Ok raw) = given raw
raw_read (Err e) = refused (number_of e)

-- A new header: version 1, confirmable, GET, id 0.
abbrev pub new_header : Header
new_header = record { version = 1; message_type = Confirmable; code = Request Get; message_id = 0 }

-- The header that a raw header stands for: the first byte holds the type in the two bits after the version.
unfoldable pub header_of : HeaderRaw → Header
header_of raw =
    record {
      version = version_of raw;
      message_type = type_of (raw.ver_type_tkl / 16);
      code = class_of raw.code;
      message_id = raw.message_id;
    }

-- The first byte: the low two bits of the version, the type, the low four bits of the token's length.
abbrev pub first_byte : Header → ℕ → ℕ
first_byte h tokenLength = h.version % 4 * 64 + number_of_type h.message_type * 16 + tokenLength % 16

-- The raw header of a header before a token of this length.
abbrev pub raw_of : Header → ℕ → HeaderRaw
raw_of h tokenLength =
    record { ver_type_tkl = first_byte h tokenLength; code = byte_of h.code; message_id = h.message_id }

-- A header with another version, of which its low two bits are kept.
abbrev pub with_version : Header → ℕ → Header
with_version h v =
    record { version = v % 4; message_type = h.message_type; code = h.code; message_id = h.message_id }

-- A header with another type.
abbrev pub with_type : Header → MessageType → Header
with_type h t = record { version = h.version; message_type = t; code = h.code; message_id = h.message_id }

-- A header with another class.
abbrev pub with_class : Header → MessageClass → Header
with_class h c = record { version = h.version; message_type = h.message_type; code = c; message_id = h.message_id }

-- A header with another message id.
abbrev pub with_id : Header → ℕ → Header
with_id h id = record { version = h.version; message_type = h.message_type; code = h.code; message_id = id }

-- A header with the class of the code that a text says; a text that is no code gives BadText (15).
abbrev pub with_code : Header → List ℕ → Answer Header
with_code h text = onward (code_in text) (λ b. given (with_class h (class_of b)))

-- The answer of setting the code of a header from text: the outcome, and a header in every case; after a refusal the one that
-- came.
abbrev pub setting_of : Header → Result Header Refusal → Beside Header
setting_of h (Ok set) = record { answer = given tt; value = set }
setting_of h (Err e) = record { answer = refused (number_of e); value = h }

-- The text of a header's code.
abbrev pub code_output : Header → List ℕ
code_output h = code_text (byte_of h.code)
