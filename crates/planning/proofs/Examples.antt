-- Our plans of small images, computed by the definitions.
use Prim.Native.Nat.{ℕ}
use mathlib.Core.Path.{◌≡◌, refl}
use mathlib.Core.List.{List, [], ◌∷◌, ◌++◌, map}
use lib.ListN.{replicate}
use Rattle.rfc.specs.Block.{block_number}
use Rattle.refusal.specs.Answer.{given, refused}
use Rattle.image.specs.Image.{fits}
use Rattle.planning.specs.Planner.{may_start, largest_up_to, plan_from, planned, values, planning}

-- An image, what is held of it, and our plan.
pub record Example : Type 0 where
  pub size : ℕ
  pub held : List ℕ
  pub plan : List ℕ

-- Units past the end don't count against a block. More speaks of the image's end, not of the plan's: with unit 1 of 17 bytes
-- held, the only block is followed by more.
pub table : List Example
table =
    record { size = 1; held = 0 ∷ []; plan = 0x06 ∷ [] }
    ∷ record { size = 16; held = 0 ∷ []; plan = 0x06 ∷ [] }
    ∷ record { size = 80; held = replicate 5 0; plan = 0x06 ∷ [] }
    ∷ record { size = 1024; held = replicate 64 0; plan = 0x06 ∷ [] }
    ∷ record { size = 1025; held = replicate 65 0; plan = 0x0E ∷ 0x16 ∷ [] }
    ∷ record { size = 80; held = 1 ∷ replicate 4 0; plan = 0x18 ∷ 0x19 ∷ 0x12 ∷ [] }
    ∷ record { size = 80; held = 0 ∷ 0 ∷ 0xFF ∷ 0 ∷ 0 ∷ []; plan = 0x09 ∷ 0x38 ∷ 0x12 ∷ [] }
    ∷ record {
      size = 2048;
      held = replicate 63 0 ++ (1 ∷ replicate 64 0);
      plan = 0x0D ∷ 0x2C ∷ 0x6B ∷ 0xEA ∷ 0x1E9 ∷ 0x3E8 ∷ 0x16 ∷ [];
    }
    ∷ record { size = 17; held = 0 ∷ 1 ∷ []; plan = 0x08 ∷ [] }
    ∷ record { size = 80; held = replicate 5 1; plan = [] }
    ∷ []

-- Every row of the table.
pub examples : map (λ (e : Example). values e.size e.held) table ≡ map (λ (e : Example). e.plan) table
unfolding table planned plan_from largest_up_to may_start block_number
examples = refl

-- 22 comes before 12, and an empty plan needs no room.
order : (planning 0 0 [] ≡ refused 22) × (planning 0 16 (0 ∷ []) ≡ refused 12) × (planning 0 16 (1 ∷ []) ≡ given 0)
unfolding planning fits planned plan_from largest_up_to may_start block_number
order = (refl, refl, refl)
