-- A part judged while it is decoded: the rules at the end, by lengths alone.
use Rattle.std.specs.Prelude.{ℕ, Bool, false, List, ltb, length, Result, Ok, Err}
use Rattle.ground.specs.Choice.{pick, both, either, within}
use Rattle.rfc.specs.Uri.{Kind, segment, query}
use Rattle.rfc.specs.Percent.{Read, good, bad_text, bad_option, on_good}
use Rattle.refusal.specs.declared.Fault.{Fault}
use Rattle.refusal.specs.declared.Fault.TheVariants.{Refused, BadOption}
use Rattle.refusal.specs.declared.Refusal.TheVariants.{BadText}
use Rattle.uri_text.specs.declared.BadPart.{BadPart}
use Rattle.uri_text.specs.declared.BadPart.TheVariants.{Text, Option as AnOption}

-- What the code answers of a part: its value's length, as it is defined.
abbrev pub judged_read : Result ℕ BadPart → Read ℕ
judged_read (Ok n) = good n
judged_read (Err Text) = bad_text
judged_read (Err (AnOption index)) = bad_option index

-- Why options are refused that a bad part would be among.
abbrev pub fault_of : BadPart → Fault
fault_of Text = Refused BadText
fault_of (AnOption index) = BadOption index

abbrev pub length_of : Read (List ℕ) → Read ℕ
length_of r = on_good r (λ v. good (length v))

-- A segment of this length, of which dots are all there is or not.
abbrev pub dotted_by : Kind → ℕ → Bool → Bool
dotted_by segment n only = both (within 1 2 n) only
dotted_by query n only = false

-- The rules on a value of this length; `whole` is whether it ends between characters.
unfoldable pub ruled_by : Kind → (index n : ℕ) → (only whole : Bool) → Read ℕ
ruled_by kind index n only whole =
    pick whole (pick (either (ltb 255 n) (dotted_by kind n only)) (bad_option index) (good n)) bad_text
