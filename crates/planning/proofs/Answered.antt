-- What the planner's answers are where size and held list fit, and where they don't.
use Prim.Native.Nat.{ℕ, ◌<◌, ◌≤◌}
use mathlib.Core.Path.{◌≡◌, refl, sym, ap, ◌∙◌}
use mathlib.Core.Bool.{true, false}
use mathlib.Core.List.{List, ◌++◌}
use native.Mathlib.Omega.{arith}
use lib.ListN.{length, take, drop, length-map}
use borrow.Author.Tests.{le-ltb}
use Rattle.ground.proofs.Choice.{on, on_lt}
use Rattle.rfc.specs.Block.{block_number}
use Rattle.refusal.specs.Answer.{Answer, given, written, fitted, after}
use Rattle.refusal.specs.declared.Refusal.TheVariants.{NoRoom, BadPlan}
use Rattle.std.specs.Prelude.{Result, Ok, Err}
use Rattle.refusal.specs.declared.Refusal.{Refusal}
use Rattle.refusal.proofs.Answers.{not_refused, same_given}
use Rattle.refusal.proofs.Fitted.{put_fits, no_room, fitted_output, front_after}
use Rattle.placing.specs.Put.{Put}
use Rattle.image.specs.Image.{fits}
use Rattle.planning.specs.Planner.{planned, values, planning, Plans}

pub good_image : (room size : ℕ) (held : List ℕ) → fits size held ≡ true → planning room size held ≡ fitted room (values size held)
unfolding planning
good_image room size held e = rw e

-- What fitted has the length that was answered.
fitted_length : (old bytes : List ℕ) (n : ℕ) → fitted (length old) bytes ≡ given n → length bytes ≡ n
fitted_length old bytes n =
    on_lt (λ (a : Answer ℕ). a ≡ given n → length bytes ≡ n) (length old) (length bytes) (λ h e. not_refused (sym e)) (λ h e. same_given e)

-- A length is answered where size and held list fit and the list has room for the values.
pub given_fits : (room size : ℕ) (held : List ℕ) (n : ℕ) → planning room size held ≡ given n → fits size held ≡ true
unfolding planning
given_fits room size held n =
    on (λ (a : Answer ℕ). a ≡ given n → fits size held ≡ true) (fits size held) (λ t e. t) (λ t e. not_refused (sym e))

pub enough : (room size : ℕ) (held : List ℕ) → fits size held ≡ true → length (values size held) ≤ room → planning room size held ≡ given (length (values size held))
enough room size held fit h = good_image room size held fit ∙ rw (le-ltb room (length (values size held)) h) refl

module _ (size : ℕ) (held old : List ℕ) (r : Result ℕ Refusal) (new : List ℕ) (promise : Plans size held old r new) (n : ℕ) (is : written r ≡ given n) where
  fit : fits size held ≡ true
  fit = given_fits (length old) size held n (sym promise.answer ∙ is)

  room : fitted (length old) (values size held) ≡ given n
  room = sym (good_image (length old) size held fit) ∙ (sym promise.answer ∙ is)

  new_is : new ≡ after (fitted (length old) (values size held)) 0 (values size held) old
  new_is = promise.list ∙ ap (λ (a : Answer ℕ). after a 0 (values size held) old) (good_image (length old) size held fit)

  -- Where a length was answered, the values stand in front, and the rest of the list is as it was.
  pub wrote : take n new ≡ values size held
  wrote = ap (take n) new_is ∙ front_after old (values size held) n room

  pub rest_kept : new ≡ values size held ++ drop n old
  rest_kept =
      let m : length (values size held) ≡ n = fitted_length old (values size held) n room in
      new_is ∙ (fitted_output old (values size held) n room ∙ ap (λ (k : ℕ). values size held ++ drop k old) m)

module _ (size : ℕ) (held old : List ℕ) where
  pub bad_image : fits size held ≡ false → Plans size held old (Err BadPlan) old
  unfolding planning
  bad_image e = record { answer = rw e refl; list = rw e refl }

  module _ (fit : fits size held ≡ true) where
    -- The lent list is too short, and left alone; or it has the plan in front.
    pub too_long : (count : ℕ) → count ≡ length (planned size held) → length old < count → Plans size held old (Err NoRoom) old
    too_long count c h =
        let n = no_room old (values size held) (omega (arith, length-map (planned size held) block_number)) in
        record { answer = rw (good_image (length old) size held fit) n.0; list = rw (good_image (length old) size held fit) n.1 }

    pub written_out : (r : ℕ) (new : List ℕ) → length (planned size held) ≤ length old → Put old 0 (values size held) r new → Plans size held old (Ok r) new
    written_out r new h p =
        let n = put_fits old (values size held) new r (omega (arith, p.next)) (omega (arith, p.next, length-map (planned size held) block_number)) p.out in
        record { answer = rw (good_image (length old) size held fit) n.0; list = rw (good_image (length old) size held fit) n.1 }
