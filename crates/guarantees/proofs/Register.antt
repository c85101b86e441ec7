-- The register check meets its theorems, from what its promise says.
use Prim.Native.Nat.{ℕ}
use mathlib.Core.Path.{◌≡◌, refl, sym, ap, ◌∙◌}
use mathlib.Core.Logic.{inl, inr, ⊎_elim}
use native.Mathlib.Omega.{arith}
use mathlib.Core.Bool.{Bool, false}
use mathlib.Core.List.{List, []}
use Rattle.std.specs.Prelude.{Result, Ok, Err}
use lib.ListN.{get_or}
use Rattle.packet.specs.Packet.{records_of}
use Rattle.judging.specs.declared.Lengths.{Lengths}
use Rattle.packet.specs.declared.Packet.{Packet}
use Rattle.register.specs.Check.{Check, passes, refused_at, fates, first_rejected, checking, marks, checked, Checks}
use Rattle.register.specs.First.{Sound}
use Rattle.register.specs.Severe.{first_break}
use Rattle.refusal.specs.declared.Fault.{Fault}
use Rattle.refusal.specs.declared.Fault.TheVariants.{Refused, BadOption}
use Rattle.register.proofs.Order.{past_order, in_order, says, outcome_is, marked, none_kept, one_checked}
use Rattle.register.proofs.First.{marked_at, unmarked_past, passes_then, passes_when, named_then, named_when}
use Rattle.register.proofs.Severe.{spared_all, listed_at, refused_before}
use Rattle.guarantees.specs.Register.{ChecksRegister, PassesMore, RefusesLater, NothingKept, ToldApart}

-- What an answer tells is that answer.
kept_of : (c : Result (List Bool) Fault) → (checked c).answer ≡ passes → (kept : List Bool) × (c ≡ Ok kept)
kept_of (Ok kept) e = (kept, refl)
kept_of (Err (Refused x)) e = absurd (let no : ◌≡◌ {A = ℕ} 0 1 = cc in omega arith)
kept_of (Err (BadOption i)) e = absurd (let no : ◌≡◌ {A = ℕ} 0 1 = cc in omega arith)

named_of : (c : Result (List Bool) Fault) (i : ℕ) → (checked c).answer ≡ refused_at 16 i → c ≡ Err (BadOption i)
named_of (Ok kept) i e = absurd (let no : ◌≡◌ {A = ℕ} 0 1 = cc in omega arith)
named_of (Err (Refused x)) i e = absurd (let no : ◌≡◌ {A = ℕ} 0 1 = cc in omega arith)
named_of (Err (BadOption j)) i e = let n : j ≡ i = cc in ap (λ (k : ℕ). Err (BadOption k)) n

module _ (lengths : Lengths) (p : Packet) (c : Result (List Bool) Fault) (promise : Checks lengths p c) where
  says_of : (d : Result (List Bool) Fault) → c ≡ d → checking lengths p ≡ (checked d).answer
  says_of d e = sym (says lengths p c promise) ∙ ap (λ (x : Result (List Bool) Fault). (checked x).answer) e

  passed : (kept : List Bool) → c ≡ Ok kept → Sound lengths p × (first_rejected 0 (fates [] (records_of p)) ≡ passes)
  passed kept e = past_order lengths p (first_rejected 0 (fates [] (records_of p))) passes tt (says_of (Ok kept) e)

  named_so : (i : ℕ) → c ≡ Err (BadOption i) → Sound lengths p × (first_rejected 0 (fates [] (records_of p)) ≡ refused_at 16 i)
  named_so i e = past_order lengths p (first_rejected 0 (fates [] (records_of p))) (refused_at 16 i) tt (says_of (Err (BadOption i)) e)

  -- A sound packet gets what is said of its records.
  says_when : (a : Check) → Sound lengths p → first_rejected 0 (fates [] (records_of p)) ≡ a → (checked c).answer ≡ a
  says_when a h e = outcome_is lengths p c promise a (in_order lengths p (first_rejected 0 (fates [] (records_of p))) h ∙ e)

  at_place : (kept : List Bool) → c ≡ Ok kept → (i : ℕ) → get_or kept i false ≡ get_or (marks (fates [] (records_of p))) i false
  at_place kept e i =
      let is = marked lengths p c promise (ap (λ (x : Result (List Bool) Fault). (checked x).answer) e) in
      ap (λ (l : List Bool). get_or l i false) (sym (ap (λ (x : Result (List Bool) Fault). (checked x).kept) e) ∙ is)

pub checks_register : ChecksRegister
checks_register lengths p c promise =
    let rs = records_of p in
    record {
      passing = (
        λ e. let h = passed lengths p c promise e.0 e.1 in (h.0, passes_then rs h.1),
        λ h. kept_of c (says_when lengths p c promise passes h.0 (passes_when rs h.1)),
      );
      named = λ i. (
        λ e. let h = named_so lengths p c promise i e in (h.0, named_then rs 16 i h.1),
        λ h. named_of c i (says_when lengths p c promise (refused_at 16 i) h.0 (named_when rs i h.1)),
      );
      kept = λ kept e i h. at_place lengths p c promise kept e i ∙ marked_at rs i h;
      past = λ kept e i h. at_place lengths p c promise kept e i ∙ unmarked_past rs i h;
    }

pub passes_more : PassesMore
passes_more lengths p c promise e =
    let rs = records_of p in
    let h = past_order lengths p (first_break [] rs) passes tt e in
    let s = spared_all rs h.1 in
    let k = kept_of c (says_when lengths p c promise passes h.0 s.pass) in
    (k.0, k.1, λ i l. at_place lengths p c promise k.0 k.1 i ∙ listed_at rs s i l)

pub refuses_later : RefusesLater
refuses_later lengths p c promise i e =
    let rs = records_of p in
    let h = named_so lengths p c promise i e in
    let j = refused_before rs 16 i h.1 in
    (j.0, j.1, in_order lengths p (first_break [] rs) h.0 ∙ j.2)

pub nothing_kept_lem : NothingKept
nothing_kept_lem lengths p c promise = ⊎_elim (λ e. inl (kept_of c e)) (λ e. inr e) (none_kept lengths p c promise)

pub told_apart : ToldApart
told_apart = record { checks = one_checked }
