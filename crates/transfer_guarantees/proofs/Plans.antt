-- What is relied on of plans, from the promises of the check and of the planner.
use Prim.Native.Nat.{ℕ, ◌+◌, ◌*◌, ◌/◌, ◌^◌, ◌<◌, ◌≤◌}
use mathlib.Core.Path.{◌≡◌, refl, sym, ap, ◌∙◌}
use mathlib.Core.Bool.{Bool, true}
use mathlib.Core.List.{List, [], ◌∷◌, map}
use native.Mathlib.Nat.{mul_assoc, add-mul, one-mul}
use native.Mathlib.Omega.{arith}
use lib.Dec.{leb, ltb}
use lib.Pow.{pow-add}
use lib.ListN.{length, get_or, take, length-map}
use borrow.Author.Tests.{lt-ltb, le-ltb, le-leb, lt-leb, eq-eqb, ne_eqb}
use Rattle.std.specs.Prelude.{Result, Ok, Err}
use Rattle.ground.specs.Choice.{both}
use Rattle.ground.proofs.Choice.{by_lt, by_eq}
use Rattle.rfc.specs.Block.{Block, size, block_number, block_of}
use Rattle.refusal.specs.Answer.{given, outcome, written}
use Rattle.refusal.specs.declared.Refusal.TheVariants.{BadPlan}
use Rattle.refusal.proofs.Answers.{not_refused}
use Rattle.refusal.proofs.Distinct.{one_outcome, one_written}
use Rattle.refusal.specs.declared.Refusal.{Refusal}
use Rattle.image.specs.Image.{units, fits}
use Rattle.image.proofs.Fitting.{Fitting, fitting}
use Rattle.plan_checking.specs.Plan.{start, stop, covers, over, checking}
use Rattle.plan_checking.specs.Accepted.{Good}
use Rattle.plan_checking.proofs.Accepted.{good_done, done_good, not_done}
use Rattle.planning.specs.Planner.{planned, planning, values}
use Rattle.planning.proofs.Answered.{given_fits, wrote, rest_kept, enough}
use Rattle.planning.proofs.Ours.{ours_accepted, ours_good, read_ours}
use Rattle.planning.proofs.Named.{named, greedy, empty_full, full_empty}
use Rattle.planning.proofs.Bound.{half_as_many}
use Rattle.transfer_guarantees.specs.Plans.{ChecksExactly, asks, asked, NeverOverlaid, OurPlan, PlansWell, RoomEnough, ListKept, OneVerdict, OnePlan}
use Rattle.guarantees.proofs.Refusals.{output_kept}

-- The check.
module _ (bytes : ℕ) (held values : List ℕ) (r : Result (Unit {0}) Refusal) (promise : outcome r ≡ checking bytes held values) where
  done_is : Good bytes held values → r ≡ Ok tt
  done_is g = one_outcome r (Ok tt) (promise ∙ good_done bytes held values g)

  is_good : r ≡ Ok tt → Good bytes held values
  is_good e = done_good bytes held values (sym promise ∙ ap outcome e)

pub checks_exactly : ChecksExactly
checks_exactly bytes held values r promise = (
  (is_good bytes held values r promise, done_is bytes held values r promise),
  (
    λ e g. not_refused (sym (good_done bytes held values g) ∙ (sym promise ∙ ap outcome e)),
    λ n. one_outcome r (Err BadPlan) (promise ∙ not_done bytes held values n),
  ),
)

-- A block asks for a byte exactly where it covers the byte's unit.
leb_same : (a b c d : ℕ) → (a ≤ b → c ≤ d) → (c ≤ d → a ≤ b) → leb a b ≡ leb c d
leb_same a b c d f g =
    by_lt b a (λ h. lt-leb a b h ∙ sym (by_lt d c (λ k. lt-leb c d k) (λ k. absurd (omega (arith, g k)))))
    (λ h. le-leb a b h ∙ sym (le-leb c d (f h)))

ltb_same : (a b c d : ℕ) → (a < b → c < d) → (c < d → a < b) → ltb a b ≡ ltb c d
ltb_same a b c d f g =
    by_lt a b (λ h. lt-ltb a b h ∙ sym (lt-ltb c d (f h)))
    (λ h. le-ltb a b h ∙ sym (by_lt c d (λ k. absurd (omega (arith, g k))) (λ k. le-ltb c d k)))

times_size : (n szx : ℕ) → n * size szx ≡ n * 2 ^ szx * 16
times_size n szx = ap (λ (k : ℕ). n * k) (pow-add 2 szx 4) ∙ sym (mul_assoc n (2 ^ szx) 16)

next_start : (b : Block) → (b.num + 1) * 2 ^ b.szx ≡ stop b
next_start b = add-mul b.num 1 (2 ^ b.szx) ∙ ap (λ (k : ℕ). start b + k) (one-mul (2 ^ b.szx))

asks_covers : (b : Block) (byte : ℕ) → asks b byte ≡ covers b (byte / 16)
asks_covers b byte =
    let s : b.num * size b.szx ≡ start b * 16 = times_size b.num b.szx in
    let t : (b.num + 1) * size b.szx ≡ stop b * 16 = times_size (b.num + 1) b.szx ∙ ap (λ (k : ℕ). k * 16) (next_start b) in
    rw (s, t)
    (ap (λ (l : Bool). both l (ltb byte (stop b * 16))) (leb_same (start b * 16) byte (start b) (byte / 16) (λ h. omega arith) (λ h. omega arith))
    ∙ ap (λ (l : Bool). both (leb (start b) (byte / 16)) l) (ltb_same byte (stop b * 16) (byte / 16) (stop b) (λ h. omega arith) (λ h. omega arith)))

asked_over : (bs : List Block) (byte : ℕ) → asked byte bs ≡ over (byte / 16) bs
asked_over [] byte = refl
asked_over (b ∷ bs) byte = rw (asks_covers b byte, asked_over bs byte) refl

pub never_overlaid : NeverOverlaid
never_overlaid bytes held values g byte h =
    let f : Fitting bytes held = fitting bytes held g.image in
    let there : byte / 16 < length held = omega (arith, f.whole) in
    asked_over (map block_of values) byte
    ∙ by_eq (get_or held (byte / 16) 0) 0
    (λ z. rw (eq-eqb (get_or held (byte / 16) 0) 0 z) (g.plan.once (byte / 16) (record { exists = there; zero = z })))
    (λ z. rw (ne_eqb (get_or held (byte / 16) 0) 0 z) (g.plan.free (byte / 16) (record { exists = there; other = z })))

-- Our plan.
module _ (bytes : ℕ) (held : List ℕ) (fit : fits bytes held ≡ true) where
  no_values : (bs : List Block) → map block_number bs ≡ [] → bs ≡ []
  no_values [] e = refl
  no_values (b ∷ bs) e = cc

  our_plan : OurPlan bytes held (values bytes held)
  our_plan =
      let g : Good bytes held (values bytes held) = ours_good bytes held fit in
      record {
        good = g;
        passes = λ r promise. done_is bytes held (values bytes held) r promise g;
        greedy = rw (read_ours bytes held fit) (greedy bytes held);
        only = λ bs a d. ap (map block_number) (named bytes held bs a d);
        empty = (
          λ e. empty_full bytes held (rw (no_values (planned bytes held) e) at (ours_accepted bytes held fit)),
          λ n. ap (map block_number) (full_empty bytes held (planned bytes held) (ours_accepted bytes held fit) n),
        );
        half = omega (arith, half_as_many bytes held, (fitting bytes held fit).whole, length-map (planned bytes held) block_number);
      }

pub plans_well : PlansWell
plans_well bytes held old r new promise n e =
    let is : written r ≡ given n = ap written e in
    let front : take n new ≡ values bytes held = wrote bytes held old r new promise n is in
    (rw front (our_plan bytes held (given_fits (length old) bytes held n (sym promise.answer ∙ is))), rw front (rest_kept bytes held old r new promise n is))

pub room_enough : RoomEnough
room_enough bytes held old r new promise fit =
    let half : length (values bytes held) ≤ (units bytes + 1) / 2 = (our_plan bytes held fit).half in
    let written_so : length (values bytes held) ≤ length old → (n : ℕ) × (r ≡ Ok n) =
    λ h. (length (values bytes held), one_written r (Ok (length (values bytes held))) (promise.answer ∙ enough (length old) bytes held fit h))
    in
    (λ h. written_so (omega arith), λ h. written_so (omega (arith, (fitting bytes held fit).most)))

pub list_kept : ListKept
list_kept bytes held old r new q e is =
    output_kept (planning (length old) bytes held) 0 (values bytes held) old r new q.answer q.list e is

pub one_verdict : OneVerdict
one_verdict bytes held values r s p q = one_outcome r s (p ∙ sym q)

pub one_plan : OnePlan
one_plan bytes held old r s new other p q = (one_written r s (p.answer ∙ sym q.answer), p.list ∙ sym q.list)
