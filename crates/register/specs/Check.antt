-- The check of a packet's options (docs/RULES.md, Register): the order of its refusals, what becomes of each record, and what
-- is reported.
use Rattle.std.specs.Prelude.{ℕ, ◌+◌, ◌-◌, ◌≡◌, Bool, true, false, List, [], ◌∷◌, ◌++◌, map, length, replicate, Result, Ok, Err}
use Rattle.ground.specs.Choice.{pick}
use Rattle.ground.specs.Table.{listed}
use Rattle.rfc.specs.Recognised.{Fate, kept, ignored, rejected, fate}
use Rattle.refusal.specs.Number.{number_of}
use Rattle.refusal.specs.declared.Fault.{Fault}
use Rattle.refusal.specs.declared.Fault.TheVariants.{Refused, BadOption}
use Rattle.packet.specs.Limits.{max_options}
use Rattle.packet.specs.Packet.{records_of}
use Rattle.judging.specs.Judge.{is_too_long, bad_packet}
use Rattle.packet.specs.declared.Packet.{Packet}
use Rattle.judging.specs.declared.Lengths.{Lengths}
use Rattle.packet.specs.declared.OptionRecord.{OptionRecord}
use Rattle.register.specs.Register.{is_recognised}

-- A record is recognised after kept ones of these numbers.
abbrev pub recognised_after : List ℕ → OptionRecord → Bool
recognised_after before r = is_recognised (listed r.number before) r

-- The numbers of the kept records, with that of the next one where it is recognised.
abbrev pub keeping : List ℕ → OptionRecord → List ℕ
keeping before r = pick (recognised_after before r) (before ++ (r.number ∷ [])) before

-- What becomes of each record, after kept ones of these numbers.
abbrev pub fates : List ℕ → List OptionRecord → List Fate
fates before [] = []
fates before (r ∷ rs) = fate r.number (recognised_after before r) ∷ fates (keeping before r) rs

-- What the check says: the packet passes; a refusal's number; or a refusal's number and the index of a record, from 0.
pub data Check : Type 0 where
  passes : Check
  refused : ℕ → Check
  refused_at : ℕ → ℕ → Check

-- The first record that is rejected gives 16 with its index, where the first of them all has the index `i`.
abbrev pub first_rejected : ℕ → List Fate → Check
first_rejected i [] = passes
first_rejected i (kept ∷ fs) = first_rejected (i + 1) fs
first_rejected i (ignored ∷ fs) = first_rejected (i + 1) fs
first_rejected i (rejected ∷ fs) = refused_at 16 i

-- Either store over 70,000 bytes gives 10 first, then any bad record 11, then what is said of the records.
unfoldable pub if_in_order : Lengths → Packet → Check → Check
if_in_order lengths p a = pick (is_too_long lengths) (refused 10) (pick (bad_packet lengths p) (refused 11) a)

-- The check of a packet over stores of these lengths.
abbrev pub checking : Lengths → Packet → Check
checking lengths p = if_in_order lengths p (first_rejected 0 (fates [] (records_of p)))

-- What the check reports: what it says of the packet, and for each place of the array whether the record there is kept.
pub record Report : Type 0 where
  pub answer : Check
  pub kept : List Bool

-- Nothing is kept beside a refusal.
abbrev pub nothing_kept : Check → Report
nothing_kept a = record { answer = a; kept = replicate max_options false }

-- A record that is kept is marked so.
abbrev pub is_kept : Fate → Bool
is_kept kept = true
is_kept ignored = false
is_kept rejected = false

-- A mark for each record, and none past the last.
abbrev pub marks : List Fate → List Bool
marks fs = map is_kept fs ++ replicate (max_options - length fs) false

-- A packet that passes has its kept records marked.
abbrev pub reported : Check → List Fate → Report
reported passes fs = record { answer = passes; kept = marks fs }
reported (refused k) fs = nothing_kept (refused k)
reported (refused_at k i) fs = nothing_kept (refused_at k i)

-- What is reported of records that become this.
abbrev pub sorted : List Fate → Report
sorted fs = reported (first_rejected 0 fs) fs

-- What a fault says: a bad option is 16, and it alone names a record.
abbrev pub told : Fault → Check
told (Refused e) = refused (number_of e)
told (BadOption i) = refused_at 16 i

-- What an answer reports.
abbrev pub checked : Result (List Bool) Fault → Report
checked (Ok ks) = record { answer = passes; kept = ks }
checked (Err e) = nothing_kept (told e)

-- What the check promises of its answer.
abbrev pub Checks : Lengths → Packet → Result (List Bool) Fault → Type 0
Checks lengths p c = checked c ≡ reported (checking lengths p) (fates [] (records_of p))
