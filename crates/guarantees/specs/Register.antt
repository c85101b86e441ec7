-- The register check: which records it reports as kept, which packets pass, which record a refusal names, and what it lets pass
-- beside the severe rule, by which an elective record that breaks the register is refused too.
use Rattle.std.specs.Prelude.{ℕ, ◌<◌, ◌≤◌, ◌≡◌, ◌↔◌, ◌⊎◌, Bool, false, List, length, get_or, replicate, Result, Ok, Err}
use Rattle.packet.specs.Limits.{max_options}
use Rattle.packet.specs.Packet.{none, records_of}
use Rattle.packet.specs.declared.Packet.{Packet}
use Rattle.judging.specs.declared.Lengths.{Lengths}
use Rattle.register.specs.Register.{registered}
use Rattle.register.specs.Check.{passes, refused_at, checked, Checks}
use Rattle.register.specs.First.{recognised_at, NoneRejected, First, Sound}
use Rattle.register.specs.Severe.{severely}
use Rattle.refusal.specs.declared.Fault.{Fault}
use Rattle.refusal.specs.declared.Fault.TheVariants.{BadOption}
use Rattle.guarantees.specs.Apart.{TellsApart}

pub record RegisterCheck (lengths : Lengths) (p : Packet) (c : Result (List Bool) Fault) : Type 0 where
  -- It passes exactly when it isn't refused 10 or 11 and each critical record is recognised after the kept ones before it.
  pub passing : ((kept : List Bool) × (c ≡ Ok kept)) ↔ (Sound lengths p × NoneRejected (records_of p) (length (records_of p)))
  -- 16 names a record exactly when it is the first critical one that isn't recognised.
  pub named : (i : ℕ) → (c ≡ Err (BadOption i)) ↔ (Sound lengths p × First (records_of p) i)
  -- Where nothing is refused, a record is reported kept exactly when it is recognised after the kept ones before it.
  pub kept : (kept : List Bool) → c ≡ Ok kept → (i : ℕ) → i < length (records_of p) → get_or kept i false ≡ recognised_at (records_of p) i
  -- Past the last record nothing is.
  pub past : (kept : List Bool) → c ≡ Ok kept → (i : ℕ) → length (records_of p) ≤ i → get_or kept i false ≡ false

-- So it is of every packet, over stores of any lengths, and of every answer that meets the promise.
abbrev pub ChecksRegister : Type 0
ChecksRegister = (lengths : Lengths) (p : Packet) (c : Result (List Bool) Fault) → Checks lengths p c → RegisterCheck lengths p c

-- What the severe rule lets pass passes, and then the listed records are kept and no others.
abbrev pub PassesMore : Type 0
PassesMore =
    (lengths : Lengths) (p : Packet) (c : Result (List Bool) Fault) → Checks lengths p c → severely lengths p ≡ passes
    → (kept : List Bool) × (c ≡ Ok kept) × ((i : ℕ) → i < length (records_of p) → get_or kept i false ≡ registered (get_or (records_of p) i none).number)

-- What is refused 16 was refused 16 by the severe rule, for the same record or one before it.
abbrev pub RefusesLater : Type 0
RefusesLater =
    (lengths : Lengths) (p : Packet) (c : Result (List Bool) Fault) → Checks lengths p c → (i : ℕ) → c ≡ Err (BadOption i)
    → (j : ℕ) × (j ≤ i) × (severely lengths p ≡ refused_at 16 j)

-- Beside a refused check of the register no record is kept.
abbrev pub NothingKept : Type 0
NothingKept =
    (lengths : Lengths) (p : Packet) (c : Result (List Bool) Fault) → Checks lengths p c → ((kept : List Bool) × (c ≡ Ok kept)) ⊎ ((checked c).kept ≡ replicate max_options false)

-- The definition that a promise of the check tells its answer by tells answers apart.
pub record ToldApart : Type 0 where
  pub checks : TellsApart checked
