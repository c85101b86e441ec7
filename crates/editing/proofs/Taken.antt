-- What an edit answers of a packet that it does not take, and of one that it takes.
use Prim.Native.Nat.{ℕ, ◌≤◌}
use mathlib.Core.Path.{◌≡◌, refl, sym, ◌∙◌}
use mathlib.Core.Bool.{true, false}
use mathlib.Core.List.{List, [], ◌∷◌}
use native.Mathlib.Omega.{arith}
use lib.ListN.{length, length-take}
use Rattle.std.specs.Prelude.{Result, Err}
use Rattle.ground.proofs.Choice.{on}
use Rattle.refusal.specs.Answer.{Answer, refused, beside}
use Rattle.refusal.specs.declared.Refusal.{Refusal}
use Rattle.refusal.specs.declared.Refusal.TheVariants.{BadRecord}
use Rattle.packet.specs.Limits.{max_options}
use Rattle.packet.specs.Packet.{chosen, records_of}
use Rattle.packet.specs.declared.Packet.{Packet}
use Rattle.packet.specs.declared.Range.{Range}
use Rattle.packet.specs.declared.Home.{Home}
use Rattle.packet.specs.declared.Home.TheVariants.{Datagram, Edits}
use Rattle.judging.specs.Judge.{misordered}
use Rattle.judging.specs.Span.{span_in}
use Rattle.judging.specs.declared.Span.{Span}
use Rattle.splicing.specs.Edited.{edited}
use Rattle.splicing.specs.Splice.{ranges_in, homeless, homed}
use Rattle.editing.specs.Edit.{orderly}
use Rattle.judging.proofs.Order.{in_order}
use Rattle.judging.proofs.Places.{spanned_not, from_misordered}

module _ (p : Packet) (a : Answer Packet) where
  pub not_taken : misordered p ≡ true → beside p (refused 11) ≡ beside p (orderly p a)
  not_taken e = rw e refl

  pub taken : misordered p ≡ false → beside p a ≡ beside p (orderly p a)
  taken e = rw e refl

-- The same where the edit's ranges come as numbers: a bad home and a bad order give one refusal.
module _ (p : Packet) (l : List ℕ) (edit : List Range → Answer Packet) where
  pub homed_not_taken : misordered p ≡ true → beside p (refused 11) ≡ beside p (homed l (λ ranges. orderly p (edit ranges)))
  homed_not_taken e =
      on (λ (a : Answer Packet). beside p (refused 11) ≡ beside p a) (homeless l) (λ _. refl) (λ _. not_taken p (edit (ranges_in l)) e)

  pub homed_taken : misordered p ≡ false → beside p (homed l edit) ≡ beside p (homed l (λ ranges. orderly p (edit ranges)))
  homed_taken e = rw e refl

-- An edit of a packet whose span is refused gives that refusal.
module _ (p : Packet) (n : ℕ) (k : Refusal) (e : Err k ≡ span_in p n) where
  misordered_is : misordered p ≡ true
  misordered_is = from_misordered p n k e

  refusal_is : k ≡ BadRecord
  refusal_is = let both : ◌≡◌ {A = Result Span Refusal} (Err k) (Err BadRecord) = e ∙ sym (spanned_not p n misordered_is) in cc

  pub not_spanned : (a : Answer Packet) → edited p (Err k) ≡ beside p (orderly p a)
  not_spanned a = rw refusal_is (not_taken p a misordered_is)

  pub homed_not_spanned : (l : List ℕ) (edit : List Range → Answer Packet) → edited p (Err k) ≡ beside p (homed l (λ ranges. orderly p (edit ranges)))
  homed_not_spanned l edit = rw refusal_is (homed_not_taken p l edit misordered_is)

-- One range whose home comes as a home.
pub homed_one : (h : Home) (start len : ℕ) (edit : List Range → Answer Packet)
    → homed (chosen h 0 1 ∷ start ∷ len ∷ []) edit ≡ edit (record { home = h; start = start; len = len } ∷ [])
homed_one Datagram start len edit = refl
homed_one Edits start len edit = refl

-- A packet that an edit takes has at most 128 records in use.
pub taken_few : (p : Packet) → misordered p ≡ false → length (records_of p) ≤ max_options
taken_few p m = omega (arith, (in_order p m).few, length-take p.count p.options)
