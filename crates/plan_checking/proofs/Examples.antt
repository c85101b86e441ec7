-- Plans of an image of 80 bytes, and what the check answers, computed by the definitions.
use Prim.Native.Nat.{ℕ}
use mathlib.Core.Path.{◌≡◌, refl}
use mathlib.Core.List.{List, [], ◌∷◌, map}
use lib.ListN.{replicate}
use Rattle.rfc.specs.Block.{block_of}
use Rattle.refusal.specs.Answer.{Answer, given, refused}
use Rattle.image.specs.Image.{fits}
use Rattle.plan_checking.specs.Plan.{accepted, checking}

-- 80 bytes, with what is held of their five units; a plan; and the answer.
pub record Example : Type 0 where
  pub held : List ℕ
  pub plan : List ℕ
  pub answer : Answer (Unit {0})

none : List ℕ
none = replicate 5 0

done : List ℕ → Example
done plan = record { held = none; plan = plan; answer = given tt }

bad : List ℕ → Example
bad plan = record { held = none; plan = plan; answer = refused 22 }

-- Plans aren't unique: the first three are accepted.
-- Then: more at the end, of one block and of two; starts that fall; a start twice; a block within the one before; a unit in no
-- block; a start past the end; exponent 7; a number of 21 bits; four bytes for five units; a held unit in a block.
pub table : List Example
table =
    done (0x06 ∷ [])
    ∷ done (0x0A ∷ 0x40 ∷ [])
    ∷ done (0x0A ∷ 0x12 ∷ [])
    ∷ bad (0x0E ∷ [])
    ∷ bad (0x0A ∷ 0x48 ∷ [])
    ∷ bad (0x40 ∷ 0x0A ∷ [])
    ∷ bad (0x0A ∷ 0x0A ∷ 0x40 ∷ [])
    ∷ bad (0x0A ∷ 0x38 ∷ 0x40 ∷ [])
    ∷ bad (0x0A ∷ [])
    ∷ bad (0x0A ∷ 0x40 ∷ 0x50 ∷ [])
    ∷ bad (0x07 ∷ [])
    ∷ bad (0x06 ∷ 0x1000006 ∷ [])
    ∷ record { held = replicate 4 0; plan = 0x06 ∷ []; answer = refused 22 }
    ∷ record { held = 1 ∷ replicate 4 0; plan = 0x06 ∷ []; answer = refused 22 }
    ∷ record { held = replicate 5 0xFF; plan = []; answer = given tt }
    ∷ []

-- Every row of the table.
pub examples : map (λ (e : Example). checking 80 e.held e.plan) table ≡ map (λ (e : Example). e.answer) table
unfolding table none done bad checking accepted fits block_of
examples = refl

-- No image has 0 bytes, and none 1,048,577, whatever is held.
sizes : (checking 0 [] [] ≡ refused 22) × ((held : List ℕ) → checking 1048577 held [] ≡ refused 22)
unfolding checking fits
sizes = (refl, λ held. refl)
