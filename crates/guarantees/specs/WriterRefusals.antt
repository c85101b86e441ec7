-- Which refusals a writer gives, by number: strict 10, 11, 7, 2, 8, 5 and 12, plain 10, 11, 5 and 12.
use Rattle.std.specs.Prelude.{ℕ, ◌≡◌, Bool, true, false, List, [], ◌∷◌, ◌↔◌, T, Result, Err}
use Rattle.ground.specs.Table.{listed}
use Rattle.refusal.specs.Number.{number_of}
use Rattle.refusal.specs.declared.Refusal.{Refusal}
use Rattle.packet.specs.Packet.{Stores}
use Rattle.packet.specs.declared.Packet.{Packet}
use Rattle.measuring.specs.declared.Limit.{Limit}
use Rattle.writing.specs.Writing.{ToBytes}
use Rattle.guarantees.specs.StrictWriting.{Sound}

-- The numbers of a mode's refusals, in the order in which they are judged: strict's, then plain's.
abbrev pub writer_numbers : Bool → List ℕ
writer_numbers true = 10 ∷ 11 ∷ 7 ∷ 2 ∷ 8 ∷ 5 ∷ 12 ∷ []
writer_numbers false = 10 ∷ 11 ∷ 5 ∷ 12 ∷ []

-- A refusal of any writer that meets the promise has one of its mode's numbers, for every limit, packet and output and any two stores.
abbrev pub WriterRefusals : Type 0
WriterRefusals =
    (strict : Bool) (limit : Limit) (p : Packet) (s : Stores) (old : List ℕ) (r : Result ℕ Refusal) (new : List ℕ) → ToBytes strict limit p s old r new
    → (e : Refusal) → r ≡ Err e → T (listed (number_of e) (writer_numbers strict))

-- The refusal is neither 10 nor 11.
abbrev pub Neither : ℕ → Type 0
Neither number = (number ≡ 10 → ⊥) × (number ≡ 11 → ⊥)

-- A packet is `Sound` over its stores, as the theorems on strict writing ask, exactly when no writer refuses it 10 or 11.
abbrev pub SoundExactly : Type 0
SoundExactly =
    (strict : Bool) (limit : Limit) (p : Packet) (s : Stores) (old : List ℕ) (r : Result ℕ Refusal) (new : List ℕ) → ToBytes strict limit p s old r new
    → Sound s p ↔ ((e : Refusal) → r ≡ Err e → Neither (number_of e))
