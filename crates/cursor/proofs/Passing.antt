-- What a step past an option says of the place and of the next cursor, and that a loop of steps ends.
use Prim.Native.Nat.{ℕ, suc, ◌≤◌}
use mathlib.Core.Path.{◌≡◌, refl, sym, ap, subst, ◌∙◌}
use mathlib.Core.List.{List}
use native.Mathlib.Omega.{arith}
use lib.ListN.{length}
use Rattle.ground.proofs.Choice.{on_lt, on_eq}
use Rattle.refusal.specs.Answer.{Answer, given, refused, onward}
use Rattle.packet.specs.declared.OptionRecord.{OptionRecord}
use Rattle.packet.specs.declared.Range.{Range}
use Rattle.option_reading.specs.Option.{Place, ended, option, place_at}
use Rattle.reading.specs.Reading.{longest}
use Rattle.cursor.specs.Cursor.{Seen, passed, rest, rest_at, seen_at, step_of, record_of}
use Rattle.cursor.specs.Walk.{Walked, joined, walk, accepting_from, Run, goes, ends, stops, Passes}
use Rattle.cursor.specs.declared.Cursor.{Cursor}

module _ (s : List ℕ) (c : Cursor) where
  abbrev Passing : Answer Seen → Type 0
  Passing (given (passed r d)) = Passes s c r d
  Passing (given (rest p)) = Unit
  Passing (refused k) = Unit

  passing_rest : (a : Answer Range) → Passing (onward a (λ p. given (rest p)))
  passing_rest (given p) = tt
  passing_rest (refused k) = tt

  passing_place : c.at ≤ length s → (a : Answer Place) → place_at (longest c.strict) s c.number c.at ≡ a
      → Passing (onward a (seen_at s c))
  passing_place h (given (ended marked payload)) e = passing_rest (rest_at c.strict s marked payload)
  passing_place h (given (option r)) e =
      on_eq Passing c.left 0 (λ z. tt) (λ z. record { place = e; after = refl; falls = omega arith; inside = h })
  passing_place h (refused k) e = tt

  passing : Passing (step_of s c)
  unfolding step_of
  passing =
      on_lt Passing 70000 (length s) (λ l. tt)
      (λ short. on_lt Passing (length s) c.at (λ l. tt)
      (λ h. passing_place h (place_at (longest c.strict) s c.number c.at) refl))

  pub step_passes : (r : OptionRecord) (d : Cursor) → step_of s c ≡ given (passed r d) → Passes s c r d
  step_passes r d e = subst Passing e passing

-- A loop of steps passes no more options than there is room for.
pub steps_few : {s : List ℕ} {c : Cursor} {rs : List OptionRecord} {a : Answer Range} → Run s c rs a → length rs ≤ c.left
steps_few (stops k e) = omega arith
steps_few (ends e) = omega arith
steps_few (goes {c} {number} {value} {next} e run) = omega (arith, steps_few run, (step_passes _ c (record_of number value) next (sym e)).falls)

-- What is accepted from a cursor, by what its step sees.
joined_accepts : (r : OptionRecord) (a : Answer Walked) → ◌≡◌ {A = Answer (Unit {0})} (onward (onward a (joined r)) (λ _. given tt)) (onward a (λ _. given tt))
joined_accepts r (given w) = refl
joined_accepts r (refused k) = refl

pub accepting_on : (s : List ℕ) (c : Cursor) (r : OptionRecord) (d : Cursor) → step_of s c ≡ given (passed r d) → accepting_from s c ≡ accepting_from s d
unfolding walk
accepting_on s c r d e =
    let p = step_passes s c r d e in
    let fits : c.left ≡ suc d.left = omega (arith, p.falls, ap (λ (x : Cursor). x.left) p.after) in
    rw e (ap (λ (n : ℕ). onward (onward (walk n s d) (joined r)) (λ _. given tt)) fits ∙ joined_accepts r (walk (suc d.left) s d))

pub accepting_ends : (s : List ℕ) (c : Cursor) (p : Range) → step_of s c ≡ given (rest p) → accepting_from s c ≡ given tt
unfolding walk
accepting_ends s c p e = rw e

pub accepting_stops : (s : List ℕ) (c : Cursor) (k : ℕ) → step_of s c ≡ refused k → accepting_from s c ≡ refused k
unfolding walk
accepting_stops s c k e = rw e
