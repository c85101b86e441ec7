-- The limits that the rules name (docs/RULES.md), each once: the constants of the same names stand in src/limits.rt.
use Rattle.std.specs.Prelude.{ℕ}

-- Datagram and store hold at most 70,000 bytes.
abbrev pub max_store : ℕ
max_store = 70000

-- A message has at most 1,152 bytes by default: the bound of RFC 7252, section 4.6 where nothing is known of the path. The
-- constant is `Packet::MAX_SIZE`.
abbrev pub max_size : ℕ
max_size = 1152

-- A full-size message has at most 1,280 bytes, the MTU that the same section assumes: a limit to be given by name.
abbrev pub full_size : ℕ
full_size = 1280

-- A packet has up to 128 option records.
abbrev pub max_options : ℕ
max_options = 128

-- The numbers of options are at most 65535.
abbrev pub max_number : ℕ
max_number = 65535

-- A value over 65804 bytes is a bad record, and strict reading takes lengths up to it.
abbrev pub max_value : ℕ
max_value = 65804

-- Plain reading takes lengths up to 65535.
abbrev pub max_plain_value : ℕ
max_plain_value = 65535

-- A token over 15 bytes is a bad record.
abbrev pub max_token : ℕ
max_token = 15
