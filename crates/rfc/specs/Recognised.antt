-- Which options are recognised, and what becomes of those that aren't: RFC 7252, sections 5.4.1, 5.4.3 and 5.4.5.
use Rattle.std.specs.Prelude.{ℕ, Bool, not}
use Rattle.ground.specs.Choice.{pick, both, within}
use Rattle.rfc.specs.Option.{critical}

-- What the definition of an option says of its occurrences: the bounds of its value's length (section 5.4.3), and whether it
-- is repeatable (section 5.4.5).
pub record Definition : Type 0 where
  pub shortest : ℕ
  pub longest : ℕ
  pub repeatable : Bool

-- The length of the value is in the defined range (section 5.4.3).
abbrev pub in_range : Definition → ℕ → Bool
in_range d len = within d.shortest d.longest len

-- A supernumerary occurrence: the option isn't repeatable, and one before was recognised (section 5.4.5).
abbrev pub surplus : Definition → Bool → Bool
surplus d before = both before (not d.repeatable)

-- An occurrence out of range is treated like an unrecognised option (section 5.4.3), and so is a supernumerary one (section
-- 5.4.5); any other of an option that is defined is recognised.
unfoldable pub recognised : Definition → ℕ → Bool → Bool
recognised d len before = both (in_range d len) (not (surplus d before))

-- What becomes of an option.
pub data Fate : Type 0 where
  kept : Fate
  ignored : Fate
  rejected : Fate

-- An option that isn't recognised is silently ignored where it is elective; where it is critical, the message is rejected or
-- answered 4.02, Bad Option (section 5.4.1).
unfoldable pub fate : ℕ → Bool → Fate
fate number known = pick known kept (pick (critical number) rejected ignored)
