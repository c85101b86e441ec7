-- Another longest value, for all options of a datagram: the same are read, or 4 is given where a value is longer.
use Prim.Native.Nat.{ℕ, zero, suc, ◌≤◌}
use mathlib.Core.Path.{◌≡◌, refl, ap, ◌∙◌}
use mathlib.Core.Bool.{Bool, true, false}
use mathlib.Core.List.{List, [], ◌∷◌, map}
use lib.ListN.{length}
use lib.Dec.{leb}
use borrow.Author.Tests.{le-leb, lt-leb}
use Rattle.ground.specs.Choice.{pick, both}
use Rattle.ground.specs.Part.{Bytes}
use Rattle.ground.proofs.Choice.{by_lt}
use Rattle.rfc.specs.Message.{Opt}
use Rattle.refusal.specs.Answer.{Answer, given, refused, onward}
use Rattle.refusal.proofs.Answers.{Given, given_onward}
use Rattle.packet.specs.declared.OptionRecord.{OptionRecord}
use Rattle.option_reading.specs.Option.{Place, option, place_at, end}
use Rattle.option_reading.proofs.Longest.{capped_place, place_capped}
use Rattle.reading.specs.Options.{Tail, options, before}
use Rattle.reading.proofs.Walk.{options_refused, options_ended, options_more}
use Rattle.reading.proofs.Sound.{option_in, Stands, stands, given_place, inside_length}

-- No value is longer than `most`.
abbrev pub values_within : ℕ → List Opt → Bool
values_within most [] = true
values_within most (o ∷ os) = both (leb (length o.value) most) (values_within most os)

-- What another longest value makes of options that were read.
abbrev pub capped_tail : ℕ → List ℕ → Tail → Answer Tail
capped_tail most s t = pick (values_within most (map (option_in s) t.records)) (given t) (refused 4)

given_both : {A : Type 0} (P Q : A → Type 0) (a : Answer A) → Given P a → Given Q a → Given (λ (v : A). P v × Q v) a
given_both P Q (given v) p q = (p, q)
given_both P Q (refused k) p q = tt

-- To go on from a choice is a choice.
pub onward_pick : {A B : Type 0} (t : Bool) (a : A) (k : ℕ) (f : A → Answer B) → onward (pick t (given a) (refused k)) f ≡ pick t (f a) (refused k)
onward_pick true a k f = refl
onward_pick false a k f = refl

module _ (longest most : ℕ) (wide : 268 ≤ most) (s : List ℕ) (b : Bytes s) where
  -- A place that is read with `longest`, and what `most` makes of it.
  abbrev There : ℕ → ℕ → Place → Type 0
  There number at p = Stands s number at p × (place_at most s number at ≡ capped_place most p)

  -- What `most` makes of the options that are read with `longest`.
  abbrev Same : ℕ → ℕ → ℕ → Tail → Type 0
  Same room number at t = options most s room number at ≡ capped_tail most s t

  there : (number at : ℕ) → at ≤ length s → Given (There number at) (place_at longest s number at)
  there number at h =
      given_both (Stands s number at) (λ (p : Place). place_at most s number at ≡ capped_place most p) (place_at longest s number at)
      (stands longest s b number at h) (place_capped longest most wide s b number at)

  one_more : (room number at : ℕ) (r : OptionRecord) → There number at (option r) → (t : Tail) → Same room r.number (end r) t
      → Same (suc room) number at (record { records = r ∷ t.records; marked = t.marked; payload = t.payload })
  one_more room number at r (l, e) t h =
      rw (inside_length s r.start r.len l.inside)
      (by_lt most r.len
      (λ long. rw (lt-leb r.len most long) (options_refused most s (suc room) number at 4 (e ∙ (rw (lt-leb r.len most long) refl))))
      (λ fits. rw (le-leb r.len most fits)
      (options_more most s room number at r (e ∙ (rw (le-leb r.len most fits) refl))
      ∙ (ap (λ (a : Answer Tail). onward a (before r)) h ∙ onward_pick (values_within most (map (option_in s) t.records)) t 4 (before r)))))

  pub options_capped : (room number at : ℕ) → at ≤ length s → Given (Same room number at) (options longest s room number at)
  unfolding options
  options_capped zero number at h =
      given_place (There number at) (Same zero number at) (place_at longest s number at) _ (there number at h)
      (λ marked payload e. options_ended most s zero number at marked payload e.1) (λ r e. tt)
  options_capped (suc room) number at h =
      given_place (There number at) (Same (suc room) number at) (place_at longest s number at) _ (there number at h)
      (λ marked payload e. options_ended most s (suc room) number at marked payload e.1)
      (λ r e. given_onward (Same room r.number (end r)) (Same (suc room) number at) (options longest s room r.number (end r)) (before r)
      (options_capped room r.number (end r) e.0.inside) (one_more room number at r e))
