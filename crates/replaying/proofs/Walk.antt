-- The walk over a trace that was judged: before each message the calls go on with what is left, and so how a turn goes.
use Prim.Native.Nat.{ℕ, ◌+◌, ◌-◌, ◌<◌, ◌≤◌}
use mathlib.Core.Path.{◌≡◌, refl, sym, ap, ◌∙◌}
use mathlib.Core.List.{List, ◌∷◌}
use native.Mathlib.Omega.{arith}
use lib.ListN.{length, set}
use Rattle.rfc.specs.Duplicates.{Verdict}
use Rattle.refusal.specs.Answer.{given, refused, Beside, beside}
use Rattle.refusal.proofs.Answers.{not_refused}
use Rattle.stream.specs.declared.Form.{Form}
use Rattle.std.specs.Prelude.{Result, Ok, Err}
use Rattle.refusal.specs.declared.Refusal.{Refusal}
use Rattle.hearing.specs.declared.Verdict.{Verdict as Word}
use Rattle.hearing.specs.Hearing.{heard_of}
use Rattle.hearing.specs.Calls.{letter, Called, Calls, Ran}
use Rattle.hearing.proofs.Going.{Going, begin, same_size, finish, next_length, stop, some_place, turn}
use Rattle.tracing.specs.Trace.{Timed}
use Rattle.tracing.specs.TimedMessages.{traced_from}
use Rattle.tracing.specs.Arrivals.{arrival_of, arrivals_of, Coming, arrival_at, no_arrival, coming_of, arrived_in}
use Rattle.tracing.specs.declared.Arrived.{Arrived}
use Rattle.tracing.proofs.Left.{First, left_none, left_first}
use Rattle.replaying.specs.Turns.{Follows, calls}

module _ (form : Form) (s : List ℕ) where
  -- Before a message, with the table and the listing that the loop began with.
  pub record ReplayWalk (c : Calls) (first old table listing : List ℕ) (before at count : ℕ) : Type 0 where
    pub rest : List Timed
    pub follow : traced_from form s at ≡ given rest
    pub going : Going c old table listing before count (arrivals_of rest)
    pub size : length table ≡ length first

  pub walk_start : (table old : List ℕ) → Follows form s → ReplayWalk (calls form s (length old) table) table old table old 0 0 0
  walk_start table old f =
      record { rest = f.messages; follow = f.are; going = rw f.are (begin old table 0 (arrivals_of f.messages)); size = refl }

  module _ (c : Calls) (table₀ old table listing : List ℕ) (before at count : ℕ) (w : ReplayWalk c table₀ old table listing before at count) where
    pub walk_size : length listing ≡ length old
    walk_size = same_size c old table listing before count (arrivals_of w.rest) w.going

    pub walk_ends : length s ≤ at → Ran c old (given tt) count table listing
    walk_ends h = finish c old table listing before count (arrivals_of w.rest) w.going (ap arrivals_of (left_none form s at w.rest w.follow h))

    module _ (h : at < length s) where
      next_one : First form s at w.rest w.follow
      next_one = left_first form s at w.rest w.follow h

      -- The message isn't refused.
      pub walk_never {ℓ} : {C : Type ℓ} (e : Refusal) → arrived_in (Err e) ≡ beside no_arrival (arrival_at form s at) → C
      walk_never e is =
          let found : arrived_in (Err e) ≡ record { answer = given tt; value = record { arrival = arrival_of next_one.found.timed; next = next_one.found.next } } = is ∙ (rw next_one.is refl) in
          not_refused (sym (ap (λ (x : Beside Coming). x.answer) found))

      module _ (m : Arrived) (is : arrived_in (Ok m) ≡ beside no_arrival (arrival_at form s at)) where
        arrived : arrived_in (Ok m) ≡ record { answer = given tt; value = record { arrival = arrival_of next_one.found.timed; next = next_one.found.next } }
        arrived = is ∙ (rw next_one.is refl)

        pub walk_onward : at < m.next
        walk_onward = omega (arith, next_one.onward, ap (λ (x : Beside Coming). x.value.next) arrived)

        rest_is : arrivals_of w.rest ≡ (coming_of m).arrival ∷ arrivals_of next_one.others
        rest_is = ap arrivals_of next_one.are ∙ ap (λ (x : Beside Coming). x.value.arrival ∷ arrivals_of next_one.others) (sym arrived)

        module _ (r : Result Word Refusal) (next : List ℕ) (k : Called (length listing - count) before (coming_of m).arrival table r next) where
          pub walk_table : length next ≡ length table₀
          walk_table = next_length c old table listing before count (arrivals_of w.rest) w.going (coming_of m).arrival (arrivals_of next_one.others) rest_is r next k ∙ w.size

          pub walk_stops : (n : ℕ) → heard_of r ≡ refused n → Ran c old (refused n) count next listing
          walk_stops n e = stop c old table listing before count (arrivals_of w.rest) w.going (coming_of m).arrival (arrivals_of next_one.others) rest_is r next k n e

          module _ (v : Verdict) (e : heard_of r ≡ given v) where
            pub walk_place : count < length listing
            walk_place = some_place c old table listing before count (arrivals_of w.rest) w.going (coming_of m).arrival (arrivals_of next_one.others) rest_is r next k v e

            pub walk_turn : (byte : ℕ) → byte ≡ letter v → ReplayWalk c table₀ old next (set listing count byte) m.time m.next (count + 1)
            walk_turn byte b =
                record {
                  rest = next_one.others;
                  follow = ap (λ (x : Beside Coming). traced_from form s x.value.next) arrived ∙ next_one.left;
                  going = turn c old table listing before count (arrivals_of w.rest) w.going (coming_of m).arrival (arrivals_of next_one.others) rest_is r next k v e byte b;
                  size = walk_table;
                }
