-- Duplicates: what a call answers and leaves, from its promise and from what the table holds.
use Prim.Native.Nat.{ℕ, ◌<◌, ◌≤◌}
use mathlib.Core.Path.{◌≡◌, refl, sym, ap, ◌∙◌}
use mathlib.Core.List.{List}
use mathlib.Core.Logic.{◌⊎◌, inl, inr, ⊎_elim}
use native.Mathlib.Omega.{arith}
use lib.ListN.{length, drop, replicate, length-replicate}
use lib.Seq.{sets}
use borrow.Author.Tests.{le-ltb}
use Rattle.std.specs.Prelude.{Result, Ok, Err}
use Rattle.ground.proofs.Choice.{on_lt}
use Rattle.ground.proofs.Part.{part_after}
use Rattle.rfc.specs.Duplicates.{Arrival, Verdict, new, fresh, last_time}
use Rattle.refusal.specs.Answer.{Answer, given, refused, outcome, after}
use Rattle.refusal.specs.Number.{number_of}
use Rattle.refusal.specs.declared.Refusal.{Refusal}
use Rattle.refusal.specs.declared.Refusal.TheVariants.{NoRoom, ClockBack}
use Rattle.refusal.proofs.Answers.{not_refused}
use Rattle.refusal.proofs.Distinct.{distinct, one_outcome}
use Rattle.hearing.specs.Table.{lowest}
use Rattle.hearing.specs.Bytes.{table_size, places}
use Rattle.hearing.specs.Hearing.{Fits, hearing, leaving, verdict_of, heard_of, clearing, Hears}
use Rattle.hearing.specs.Told.{Holds, NoPlace, Why}
use Rattle.hearing.specs.declared.Verdict.{Verdict as Word}
use Rattle.hearing.specs.declared.Verdict.TheVariants.{New, Duplicate, Passed}
use Rattle.hearing.proofs.Answers.{sixty_four, is_back, is_short}
use Rattle.hearing.proofs.Left.{taken, places_left, lowest_free, none_below, behind_left, unchanged}
use Rattle.hearing.proofs.Telling.{accepted, told_roomy, told_why, why_told}
use Rattle.hearing.proofs.Step.{agrees, kept}
use Rattle.hearing.proofs.Cleared.{cleared_holds}
use Rattle.hearing.proofs.Alone.{standing, alone}
use Rattle.hearing.proofs.Distinct.{one_heard}
use Rattle.stream_guarantees.specs.Duplicates.{Takes, ByHistory, HearsHistory, ShortTable, ClearedTable, OnePlace, TableKept, ToldApart, OneHearing, OneClearing}
use Rattle.guarantees.proofs.Refusals.{kept_by}

module _ (before : ℕ) (news : List Arrival) (m : Arrival) (f : Fits m) (old : List ℕ) (k : Holds before old news) where
  -- Why a call is refused, by the history; and that it is refused for each reason.
  heard_why : (r : Result Word Refusal) → heard_of r ≡ hearing before old m → (e : Refusal) → r ≡ Err e → Why 1 before news m (number_of e)
  heard_why r p e i =
      told_why 1 before news m (number_of e)
      (told_roomy 1 before news m (omega arith) ∙ (sym (agrees before old news m k) ∙ (sym p ∙ ap heard_of i)))

  why_heard : (r : Result Word Refusal) → heard_of r ≡ hearing before old m → (e : Refusal) → Why 1 before news m (number_of e) → r ≡ Err e
  why_heard r p e w =
      one_heard r (Err e)
      (p ∙ (agrees before old news m k ∙ (sym (told_roomy 1 before news m (omega arith)) ∙ why_told 1 before news m (number_of e) w)))

  back_is : (r : Result Word Refusal) → heard_of r ≡ hearing before old m → r ≡ Err ClockBack → m.time < before
  back_is r p i = ⊎_elim (λ w. w.1) (λ w. absurd (omega (arith, w.0))) (heard_why r p ClockBack i)

  full_is : (r : Result Word Refusal) → heard_of r ≡ hearing before old m → r ≡ Err NoRoom → (before ≤ m.time) × NoPlace news m
  full_is r p i =
      ⊎_elim (λ w. absurd (omega (arith, w.0))) (λ w. (w.1, ⊎_elim (λ z. absurd (omega arith)) (λ n. n) w.2)) (heard_why r p NoRoom i)

  only_is : (r : Result Word Refusal) → heard_of r ≡ hearing before old m → (e : Refusal) → r ≡ Err e → (e ≡ ClockBack) ⊎ (e ≡ NoRoom)
  only_is r p e i = ⊎_elim (λ w. inl (distinct e ClockBack w.0)) (λ w. inr (distinct e NoRoom w.0)) (heard_why r p e i)

  -- A new one takes the lowest free place.
  takes_lowest : (left : List ℕ) → hearing before old m ≡ given new → left ≡ leaving (given new) m old → Takes m old left
  takes_lowest left e t =
      let room = (taken before old m e).room in
      record {
        place = lowest m.time (places old);
        within = omega (arith, room, sixty_four before old m);
        was_free = lowest_free m.time (places old) room;
        none_below = none_below m.time (places old);
        stands = rw t (places_left before old m f e);
      }

  -- Where nothing else is known, an answer that isn't new changes nothing.
  same_left : (r : Result Word Refusal) → (r ≡ Ok New → ⊥) → leaving (heard_of r) m old ≡ old
  same_left (Ok New) n = absurd (n refl)
  same_left (Ok Duplicate) n = refl
  same_left (Ok Passed) n = refl
  same_left (Err e) n = refl

  behind_by : (a : Answer Verdict) → hearing before old m ≡ a → drop 1600 (leaving a m old) ≡ drop 1600 old
  behind_by (given v) e = behind_left before old m f v e
  behind_by (refused n) e = refl

  by_history : (r : Result Word Refusal) (left : List ℕ) → Hears before m old r left → ByHistory before news m old r left
  by_history r left h =
      let left_by : left ≡ leaving (heard_of r) m old = h.table ∙ ap (λ (a : Answer Verdict). leaving a m old) (sym h.answer) in
      record {
        is =
            λ v i.
            let e : hearing before old m ≡ given (verdict_of v) = sym h.answer ∙ ap heard_of i in
            let t : left ≡ leaving (given (verdict_of v)) m old = left_by ∙ ap (λ (x : Result Word Refusal). leaving (heard_of x) m old) i in
            ((accepted before news m (verdict_of v) (sym (agrees before old news m k) ∙ e)).is, rw t (kept before old news m k f (verdict_of v) e));
        takes =
            λ i.
            takes_lowest left (sym h.answer ∙ ap heard_of i) (left_by ∙ ap (λ (x : Result Word Refusal). leaving (heard_of x) m old) i);
        stays = λ n. left_by ∙ same_left r n;
        behind = ap (drop 1600) h.table ∙ behind_by (hearing before old m) refl;
        back = (back_is r h.answer, λ t. why_heard r h.answer ClockBack (inl (refl, t)));
        full = (full_is r h.answer, λ n. why_heard r h.answer NoRoom (inr (refl, n.0, inr n.1)));
        only = only_is r h.answer;
      }

pub hears_history : HearsHistory
hears_history before news m f old k r left h = by_history before news m f old k r left h

pub short_table : ShortTable
short_table before m old r left h l = (
  λ t. one_heard r (Err ClockBack) (h.answer ∙ sym (is_back before old m t).answer),
  λ t. one_heard r (Err NoRoom) (h.answer ∙ sym (is_short before old m t l).answer),
)

-- Clearing is refused exactly where the table is too short.
pub done_size : (size : ℕ) → clearing size ≡ given tt → table_size ≤ size
done_size size = on_lt (λ (a : Answer (Unit {0})). a ≡ given tt → table_size ≤ size) size table_size (λ _ e. not_refused (sym e)) (λ h _. h)

pub behind_zeros : (old : List ℕ) (n : ℕ) → drop n (sets old 0 (replicate n 0)) ≡ drop n old
behind_zeros old n = part_after (replicate n 0) old 0 n (rw length-replicate (omega arith))

-- What was cleared is zeros, of whatever size: with the size as a number the zeros are never written out.
zeroed : (a : Answer (Unit {0})) (size : ℕ) (old left : List ℕ) → left ≡ after a 0 (replicate size 0) old → a ≡ given tt → left ≡ sets old 0 (replicate size 0)
zeroed a size old left e g = e ∙ ap (λ (x : Answer (Unit {0})). after x 0 (replicate size 0) old) g

pub cleared_table : ClearedTable
cleared_table old r left c =
    let cleared : r ≡ Ok tt → clearing (length old) ≡ given tt = λ i. sym c.answer ∙ ap outcome i in
    let size : r ≡ Ok tt → table_size ≤ length old = λ i. done_size (length old) (cleared i) in
    let table : r ≡ Ok tt → left ≡ sets old 0 (replicate table_size 0) = λ i. zeroed (clearing (length old)) table_size old left c.table (cleared i) in (
      (size, λ h. one_outcome r (Ok tt) (c.answer ∙ rw (le-ltb (length old) table_size h))),
      λ i. (rw (table i) (cleared_holds old (size i)), ap (drop table_size) (table i) ∙ behind_zeros old table_size),
    )

pub one_place : OnePlace
one_place ms t table k now h x a u = (standing (last_time 0 ms) table (fresh ms) k now h x a u, alone table ms t k now h x a u)

pub table_kept : TableKept
table_kept = (
  λ before m old r left h e is. h.table ∙ unchanged (hearing before old m) m old (number_of e) (sym h.answer ∙ ap heard_of is),
  λ old r left c e is. kept_by (clearing (length old)) 0 (replicate table_size 0) old left (number_of e) (sym c.answer ∙ ap outcome is) c.table,
)

pub told_apart : ToldApart
told_apart = record { heard = one_heard }

pub one_hearing : OneHearing
one_hearing before m old r q left also x y = (one_heard r q (x.answer ∙ sym y.answer), x.table ∙ sym y.table)

pub one_clearing : OneClearing
one_clearing old r q left also x y = (one_outcome r q (x.answer ∙ sym y.answer), x.table ∙ sym y.table)
