-- Tables: the classes of the 256 code bytes, and the numbers of options and content formats that have names.
use Rattle.std.specs.Prelude.{ℕ, ◌<◌, ◌≡◌, List, length, get_or}
use Rattle.class.specs.Class.{byte_of, class_of}
use Rattle.class.specs.Table.{entries, class_named}
use Rattle.tables.specs.Numbers.{option_numbers, content_formats}

-- At each code byte the entry of the table names the class that the rule gives the byte.
abbrev pub EntriesAgree : Type 0
EntriesAgree = (byte : ℕ) → byte < 256 → class_named (get_or entries byte 0) byte ≡ class_of byte

-- The class of a code byte has that byte, so no two bytes have one class.
abbrev pub BytesComeBack : Type 0
BytesComeBack = (byte : ℕ) → byte_of (class_of byte) ≡ byte

-- Each number of a list stands there once: two places of one number are one place.
abbrev pub EachOnce : List ℕ → Type 0
EachOnce numbers = (i j : ℕ) → i < length numbers → j < length numbers → get_or numbers i 0 ≡ get_or numbers j 0 → i ≡ j

-- There are 21 option numbers and 60 content formats, each once.
pub record Named : Type 0 where
  pub options : length option_numbers ≡ 21
  pub formats : length content_formats ≡ 60
  pub option_once : EachOnce option_numbers
  pub format_once : EachOnce content_formats
