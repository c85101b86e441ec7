-- Text: RFC 3629's grammar, and codes as text.
use Rattle.std.specs.Prelude.{ℕ, ◌<◌, ◌≡◌, List, ◌↔◌, Result, Ok}
use Rattle.rfc.specs.Text.{Text}
use Rattle.refusal.specs.Answer.{Answer, beside}
use Rattle.refusal.specs.declared.Refusal.{Refusal}
use Rattle.option_value.specs.Text.{read_text, text_of}
use Rattle.code_text.specs.CodeText.{code_text, code_in, code_of}
use Rattle.header.specs.Header.{setting_of}
use Rattle.header.specs.declared.Header.{Header}
use Rattle.guarantees.specs.Refusals.{DoneOr}
use Rattle.guarantees.specs.Apart.{TellsApart}

-- A value is taken for text exactly when it is characters of the grammar, one after the other.
abbrev pub TextsAreTaken : Type 0
TextsAreTaken = (value : List ℕ) (r : Result (Unit {0}) Refusal) → text_of r ≡ read_text value → (r ≡ Ok tt) ↔ Text value

-- The text of a code byte is read back as that byte.
abbrev pub CodesReadBack : Type 0
CodesReadBack = (byte : ℕ) → byte < 256 → (r : Result ℕ Refusal) → code_of r ≡ code_in (code_text byte) → r ≡ Ok byte

-- Beside the refusal of a text that a header is set from stands the header as it came.
abbrev pub HeaderKept : Type 0
HeaderKept = (a : Answer Header) (old : Header) (r : Result Header Refusal) → setting_of old r ≡ beside old a → DoneOr r (setting_of old r) old

-- Every definition that a promise of texts and of codes as text tells its answer by tells answers apart.
pub record ToldApart : Type 0 where
  pub texts : TellsApart text_of
  pub code_texts : TellsApart code_of
  pub codes : (old : Header) → TellsApart (setting_of old)
