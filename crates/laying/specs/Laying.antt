-- The pieces of a message put into a lent output: their bytes, and the order of their refusals.
use Rattle.std.specs.Prelude.{ℕ, ◌+◌, ◌-◌, ◌≡◌, List, [], ◌++◌, length, ltb, Result}
use Rattle.ground.specs.Choice.{pick}
use Rattle.rfc.specs.Message.{Message, Opt, extension_of, option_layout, payload_layout, header_layout}
use Rattle.refusal.specs.Answer.{Answer, refused, given, written, room_from, after}
use Rattle.refusal.specs.declared.Refusal.{Refusal}
use Rattle.class.specs.Class.{byte_of}
use Rattle.header.specs.Header.{number_of_type}
use Rattle.header.specs.declared.Header.{Header}
use Rattle.packet.specs.Limits.{max_token, max_value}

-- What a function promises that lays bytes at a place: its answer is `a`, and the output holds the bytes there, or what it held.
pub record Lays (a : Answer ℕ) (at : ℕ) (bytes old : List ℕ) (r : Result ℕ Refusal) (new : List ℕ) : Type 0 where
  pub answer : written r ≡ a
  pub output : new ≡ after a at bytes old

-- The answer of bytes at a place in an output of this length: how many they are, or NoRoom (12).
abbrev pub laid : ℕ → ℕ → List ℕ → Answer ℕ
laid room at bytes = room_from room at bytes (length bytes)

-- A message of this header and token, with nothing after them.
abbrev pub headed : Header → List ℕ → Message
headed h token =
    record {
      version = h.version;
      type = number_of_type h.message_type;
      code = byte_of h.code;
      id = h.message_id;
      token = token;
      options = [];
      payload = [];
    }

-- The bytes of a header and of the token after it (RFC 7252, section 3, figure 7).
abbrev pub head_layout : Header → List ℕ → List ℕ
head_layout h token = header_layout (headed h token) ++ token

-- Header and token at the start: a version over 3 or a token over 15 bytes gives BadRecord (11), then NoRoom (12).
unfoldable pub laid_header : Header → List ℕ → ℕ → Answer ℕ
laid_header h token room =
    pick (ltb 3 h.version) (refused 11)
    (pick (ltb max_token (length token)) (refused 11) (laid room 0 (head_layout h token)))

-- An option after one of the number `before`: a number that falls or a value over 65,804 bytes gives BadRecord (11), then NoRoom (12).
unfoldable pub laid_option : ℕ → Opt → ℕ → ℕ → Answer ℕ
laid_option before o room at =
    pick (ltb o.number before) (refused 11)
    (pick (ltb max_value (length o.value)) (refused 11) (laid room at (option_layout before o)))

-- What `put_header` promises.
abbrev pub LaysHeader : Header → List ℕ → List ℕ → Result ℕ Refusal → List ℕ → Type 0
LaysHeader h token old r new = Lays (laid_header h token (length old)) 0 (head_layout h token) old r new

-- What `put_option` promises.
abbrev pub LaysOption : ℕ → Opt → ℕ → List ℕ → Result ℕ Refusal → List ℕ → Type 0
LaysOption before o at old r new = Lays (laid_option before o (length old) at) at (option_layout before o) old r new

-- What `put_payload` promises: marker and payload, and nothing for no payload.
abbrev pub LaysPayload : List ℕ → ℕ → List ℕ → Result ℕ Refusal → List ℕ → Type 0
LaysPayload payload at old r new = Lays (laid (length old) at (payload_layout payload)) at (payload_layout payload) old r new

-- How many bytes an option takes, by its delta and the length of its value: the byte of the nibbles, two extensions, the value.
abbrev pub size_of : ℕ → ℕ → ℕ
size_of delta len = 1 + length (extension_of delta) + length (extension_of len) + len

-- The answer to an option, by the length of its value.
unfoldable pub judged_option : ℕ → ℕ → ℕ → ℕ → ℕ → Answer ℕ
judged_option before number len room at =
    pick (ltb number before) (refused 11)
    (pick (ltb max_value len) (refused 11)
    (pick (ltb room (at + size_of (number - before) len)) (refused 12) (given (size_of (number - before) len))))
