-- What it is to be recognised at an index, and to be the first critical record that isn't: what the laws of the check speak of.
use Rattle.std.specs.Prelude.{ℕ, ◌<◌, ◌≡◌, Bool, true, false, not, List, [], ◌∷◌, length, take, get_or}
use Rattle.ground.specs.Choice.{both}
use Rattle.rfc.specs.Option.{critical}
use Rattle.packet.specs.Packet.{none}
use Rattle.judging.specs.Judge.{is_too_long, bad_packet}
use Rattle.packet.specs.declared.Packet.{Packet}
use Rattle.judging.specs.declared.Lengths.{Lengths}
use Rattle.packet.specs.declared.OptionRecord.{OptionRecord}
use Rattle.register.specs.Check.{recognised_after, keeping}

-- The numbers of the records that are kept once these have been looked at, after kept ones of the numbers `before`.
abbrev pub kept_after : List ℕ → List OptionRecord → List ℕ
kept_after before [] = before
kept_after before (r ∷ rs) = kept_after (keeping before r) rs

-- The record at an index is recognised after the kept ones among those before it.
abbrev pub recognised_at : List OptionRecord → ℕ → Bool
recognised_at rs i = recognised_after (kept_after [] (take i rs)) (get_or rs i none)

-- The record at an index is critical and isn't recognised.
abbrev pub rejected_at : List OptionRecord → ℕ → Bool
rejected_at rs i = both (critical (get_or rs i none).number) (not (recognised_at rs i))

-- No record before an index is such a one.
abbrev pub NoneRejected : List OptionRecord → ℕ → Type 0
NoneRejected rs n = (j : ℕ) → j < n → rejected_at rs j ≡ false

-- The record at an index is the first critical record that isn't recognised.
pub record First (rs : List OptionRecord) (i : ℕ) : Type 0 where
  pub inside : i < length rs
  pub here : rejected_at rs i ≡ true
  pub before : NoneRejected rs i

-- What a packet keeps to before its records are looked at: stores of at most 70,000 bytes, and no bad record.
pub record Sound (lengths : Lengths) (p : Packet) : Type 0 where
  pub short : is_too_long lengths ≡ false
  pub good : bad_packet lengths p ≡ false
