-- What comes before the records are looked at: 10, then 11; and what an answer reports beside what it says.
use Prim.Native.Nat.{ℕ}
use mathlib.Core.Path.{◌≡◌, refl, sym, ap, subst, ◌∙◌}
use mathlib.Core.Bool.{Bool, true, false}
use mathlib.Core.Logic.{◌⊎◌, inl, inr}
use mathlib.Core.List.{List, []}
use native.Mathlib.Omega.{arith}
use lib.ListN.{replicate}
use Rattle.ground.proofs.Choice.{on}
use Rattle.rfc.specs.Recognised.{Fate}
use Rattle.refusal.specs.Number.{number_of}
use Rattle.refusal.proofs.Distinct.{distinct}
use Rattle.packet.specs.Limits.{max_options}
use Rattle.packet.specs.Packet.{records_of}
use Rattle.judging.specs.Judge.{is_too_long, bad_packet}
use Rattle.packet.specs.declared.Packet.{Packet}
use Rattle.judging.specs.declared.Lengths.{Lengths}
use Rattle.register.specs.Check.{Check, passes, refused, refused_at, Report, if_in_order, checking, fates, marks, reported, told, checked, Checks}
use Rattle.register.specs.First.{Sound}
use Rattle.std.specs.Prelude.{Result, Ok, Err}
use Rattle.refusal.specs.declared.Fault.{Fault}
use Rattle.refusal.specs.declared.Fault.TheVariants.{Refused, BadOption}

-- An answer that is given of the records alone.
abbrev pub OfRecords : Check → Type 0
OfRecords passes = Unit {0}
OfRecords (refused k) = ⊥
OfRecords (refused_at k i) = Unit {0}

module _ (lengths : Lengths) (p : Packet) (a : Check) where
  -- The cause of an answer.
  abbrev Cause : Check → Type 0
  Cause passes = Sound lengths p × (a ≡ passes)
  Cause (refused k) = ((k ≡ 10) × (is_too_long lengths ≡ true)) ⊎ ((k ≡ 11) × (is_too_long lengths ≡ false) × (bad_packet lengths p ≡ true)) ⊎ (a ≡ refused k)
  Cause (refused_at k i) = Sound lengths p × (a ≡ refused_at k i)

  passed_on : Sound lengths p → (b : Check) → a ≡ b → Cause b
  passed_on h passes e = (h, e)
  passed_on h (refused k) e = inr (inr e)
  passed_on h (refused_at k i) e = (h, e)

  pub cause : Cause (if_in_order lengths p a)
  unfolding if_in_order
  cause =
      on Cause (is_too_long lengths) (λ long. inl (refl, long))
      (λ short. on Cause (bad_packet lengths p) (λ bad. inr (inl (refl, short, bad)))
      (λ good. passed_on (record { short = short; good = good }) a refl))

  -- A sound packet gets what is said of its records.
  pub in_order : Sound lengths p → if_in_order lengths p a ≡ a
  unfolding if_in_order
  in_order h = rw (h.short, h.good)

  -- What isn't 10 or 11 is said of the records, and of a sound packet.
  pub past_order : (b : Check) → OfRecords b → if_in_order lengths p a ≡ b → Sound lengths p × (a ≡ b)
  past_order passes o e = subst Cause e cause
  past_order (refused k) o e = absurd o
  past_order (refused_at k i) o e = subst Cause e cause

  -- 10 is given for either store over 70,000 bytes, and 11 for any other packet with a bad record.
  pub too_long_when : is_too_long lengths ≡ true → if_in_order lengths p a ≡ refused 10
  unfolding if_in_order
  too_long_when h = rw h

  pub bad_when : is_too_long lengths ≡ false → bad_packet lengths p ≡ true → if_in_order lengths p a ≡ refused 11
  unfolding if_in_order
  bad_when h b = rw (h, b)

-- What is reported says what it was made of.
answer_of : (a : Check) (fs : List Fate) → (reported a fs).answer ≡ a
answer_of passes fs = refl
answer_of (refused k) fs = refl
answer_of (refused_at k i) fs = refl

-- A fault in the words of the promise is one value's only, and so is an answer.
pub one_told : (a b : Fault) → told a ≡ told b → a ≡ b
one_told (Refused x) (Refused y) e = let k : number_of x ≡ number_of y = cc in rw (distinct x y k)
one_told (Refused x) (BadOption j) e = cc
one_told (BadOption i) (Refused y) e = cc
one_told (BadOption i) (BadOption j) e = cc

-- A fault is told as no packet's that passes.
told_apart : (e : Fault) → told e ≡ passes → ⊥
told_apart (Refused x) e = let no : ◌≡◌ {A = ℕ} 0 1 = cc in omega arith
told_apart (BadOption i) e = let no : ◌≡◌ {A = ℕ} 0 1 = cc in omega arith

pub one_checked : (x y : Result (List Bool) Fault) → checked x ≡ checked y → x ≡ y
one_checked (Ok x) (Ok y) e = ap Ok (ap (λ (r : Report). r.kept) e)
one_checked (Ok x) (Err f) e = absurd (told_apart f (sym (ap (λ (r : Report). r.answer) e)))
one_checked (Err f) (Ok y) e = absurd (told_apart f (ap (λ (r : Report). r.answer) e))
one_checked (Err f) (Err g) e = ap Err (one_told f g (ap (λ (r : Report). r.answer) e))

module _ (lengths : Lengths) (p : Packet) (c : Result (List Bool) Fault) (promise : Checks lengths p c) where
  -- The answer says what the check says.
  pub says : (checked c).answer ≡ checking lengths p
  says = ap (λ (r : Report). r.answer) promise ∙ answer_of (checking lengths p) (fates [] (records_of p))

  pub outcome_is : (a : Check) → checking lengths p ≡ a → (checked c).answer ≡ a
  outcome_is a e = says ∙ e

  -- A packet that passes has the kept records marked.
  pub marked : (checked c).answer ≡ passes → (checked c).kept ≡ marks (fates [] (records_of p))
  marked e =
      let passed : checking lengths p ≡ passes = sym says ∙ e in
      ap (λ (r : Report). r.kept) (promise ∙ ap (λ (a : Check). reported a (fates [] (records_of p))) passed)

  -- Beside a refusal nothing is kept.
  pub none_kept : ((checked c).answer ≡ passes) ⊎ ((checked c).kept ≡ replicate max_options false)
  none_kept = go (checking lengths p) refl
    where
      go : (a : Check) → checking lengths p ≡ a → ((checked c).answer ≡ passes) ⊎ ((checked c).kept ≡ replicate max_options false)
      go passes e = inl (outcome_is passes e)
      go (refused k) e = inr (ap (λ (r : Report). r.kept) (promise ∙ ap (λ (a : Check). reported a (fates [] (records_of p))) e))
      go (refused_at k i) e = inr (ap (λ (r : Report). r.kept) (promise ∙ ap (λ (a : Check). reported a (fates [] (records_of p))) e))
