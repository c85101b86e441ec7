-- What the getters read after an edit: add, set and clear against the values of a number.
use Prim.Native.Nat.{ℕ, ◌<◌}
use mathlib.Core.Path.{◌≡◌, refl, ap, ◌∙◌}
use mathlib.Core.Bool.{true, false}
use mathlib.Core.List.{List, [], ◌∷◌, ◌++◌, map}
use native.Mathlib.Omega.{arith}
use lib.ListN.{length, get_or, length-append, get_or-append}
use lib.Seq.{get_or-append_seam}
use lib.Dec.{ltb}
use borrow.Author.Tests.{lt-ltb}
use Rattle.refusal.specs.Answer.{given}
use Rattle.packet.specs.Packet.{none, records_of, of_number}
use Rattle.packet.specs.declared.Packet.{Packet}
use Rattle.packet.specs.declared.OptionRecord.{OptionRecord}
use Rattle.packet.specs.declared.Range.{Range}
use Rattle.splicing.specs.Splice.{record_of}
use Rattle.editing.specs.Edit.{removed, added, option_set, cleared, cleared_all}
use Rattle.editing.proofs.Records.{all_of}
use Rattle.editing.proofs.Numbers.{of_inserted, other_inserted, of_removed, other_removed}
use Rattle.editing.proofs.Made.{made_records, made_added, made_set, made_cleared, made_empty}

module _ (p q : Packet) where
  -- The values of a number after each edit, and those of any other number.
  pub added_values : (n : ℕ) (range : Range) → added p n range ≡ given q → of_number n (records_of q) ≡ of_number n (records_of p) ++ (record_of n range ∷ [])
  added_values n range e =
      ap (of_number n) (made_records p _ _ _ q (made_added p q n range e)) ∙ of_inserted n (record_of n range ∷ []) (refl, tt) (records_of p)

  pub added_others : (n m : ℕ) (range : Range) → added p n range ≡ given q → (m ≡ n → ⊥) → of_number m (records_of q) ≡ of_number m (records_of p)
  added_others n m range e z =
      ap (of_number m) (made_records p _ _ _ q (made_added p q n range e)) ∙ other_inserted n (record_of n range ∷ []) (refl, tt) m z (records_of p)

  pub set_values : (n : ℕ) (ranges : List Range) → option_set p n ranges ≡ given q → of_number n (records_of q) ≡ map (record_of n) ranges
  set_values n ranges e =
      ap (of_number n) (made_records p _ _ _ q (made_set p q n ranges e))
      ∙ (of_inserted n (map (record_of n) ranges) (all_of n ranges) (removed n (records_of p)) ∙ (rw (of_removed n (records_of p)) refl))

  pub set_others : (n m : ℕ) (ranges : List Range) → option_set p n ranges ≡ given q → (m ≡ n → ⊥) → of_number m (records_of q) ≡ of_number m (records_of p)
  set_others n m ranges e z =
      ap (of_number m) (made_records p _ _ _ q (made_set p q n ranges e))
      ∙ (other_inserted n (map (record_of n) ranges) (all_of n ranges) m z (removed n (records_of p)) ∙ other_removed m n (records_of p) z)

  pub cleared_values : (n : ℕ) → cleared p n ≡ given q → of_number n (records_of q) ≡ []
  cleared_values n e = ap (of_number n) (made_records p _ _ _ q (made_cleared p q n e)) ∙ of_removed n (records_of p)

  pub cleared_others : (n m : ℕ) → cleared p n ≡ given q → (m ≡ n → ⊥) → of_number m (records_of q) ≡ of_number m (records_of p)
  cleared_others n m e z = ap (of_number m) (made_records p _ _ _ q (made_cleared p q n e)) ∙ other_removed m n (records_of p) z

  pub empty_values : (n : ℕ) → cleared_all p ≡ given q → of_number n (records_of q) ≡ []
  empty_values n e = ap (of_number n) (made_records p _ _ _ q (made_empty p q e))

  -- Presence: an added number is there, a cleared one is not.
  pub added_present : (n : ℕ) (range : Range) → added p n range ≡ given q → ltb 0 (length (of_number n (records_of q))) ≡ true
  added_present n range e =
      lt-ltb 0 (length (of_number n (records_of q))) (omega (arith, ap length (added_values n range e), length-append (of_number n (records_of p)) (record_of n range ∷ [])))

  pub cleared_absent : (n : ℕ) → cleared p n ≡ given q → ltb 0 (length (of_number n (records_of q))) ≡ false
  cleared_absent n e = ap (λ (l : List OptionRecord). ltb 0 (length l)) (cleared_values n e)

  -- The added value is the last of its number; the first stays the first, if there was one.
  pub added_last : (n : ℕ) (range : Range) → added p n range ≡ given q → get_or (of_number n (records_of q)) (length (of_number n (records_of p))) none ≡ record_of n range
  added_last n range e =
      ap (λ (l : List OptionRecord). get_or l (length (of_number n (records_of p))) none) (added_values n range e)
      ∙ get_or-append_seam (of_number n (records_of p)) (record_of n range) [] none

  pub added_first : (n : ℕ) (range : Range) → added p n range ≡ given q → (k : ℕ) → k < length (of_number n (records_of p))
      → get_or (of_number n (records_of q)) k none ≡ get_or (of_number n (records_of p)) k none
  added_first n range e k h =
      ap (λ (l : List OptionRecord). get_or l k none) (added_values n range e) ∙ get_or-append (of_number n (records_of p)) (record_of n range ∷ []) none k h
