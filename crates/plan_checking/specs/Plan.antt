-- What a plan is (docs/RULES.md, Image plans): a list of blocks (RFC 7959 2.2) that fetches each missing unit of an image once,
-- and no unit that is held.
use Rattle.std.specs.Prelude.{ℕ, zero, suc, ◌+◌, ◌*◌, ◌^◌, ◌≡◌, Bool, true, not, List, [], ◌∷◌, map, eqb, leb, ltb, length, Result}
use Rattle.ground.specs.Choice.{pick, both}
use Rattle.rfc.specs.Block.{Block, block_of}
use Rattle.refusal.specs.Answer.{Answer, given, refused, outcome}
use Rattle.refusal.specs.declared.Refusal.{Refusal}
use Rattle.image.specs.Image.{fits, missing}

-- In units of 16 bytes: how many a block has, its first, and the first after it.
abbrev pub width : Block → ℕ
width b = 2 ^ b.szx

abbrev pub start : Block → ℕ
start b = b.num * width b

abbrev pub stop : Block → ℕ
stop b = start b + width b

-- The block covers the unit.
abbrev pub covers : Block → ℕ → Bool
covers b unit = both (leb (start b) unit) (ltb unit (stop b))

-- How many of the blocks cover the unit.
abbrev pub over : ℕ → List Block → ℕ
over unit [] = 0
over unit (b ∷ bs) = pick (covers b unit) 1 0 + over unit bs

-- A test passes for each block; for each number below a bound.
abbrev pub each : (Block → Bool) → List Block → Bool
each f [] = true
each f (b ∷ bs) = both (f b) (each f bs)

abbrev pub below : ℕ → (ℕ → Bool) → Bool
below zero f = true
below (suc n) f = both (f n) (below n f)

-- The block is strict: NUM has up to 20 bits, and SZX is 0 to 6.
abbrev pub strict : Block → Bool
strict b = both (leb b.num 1048575) (leb b.szx 6)

-- Starts rise: each block starts before all blocks after it.
abbrev pub rising : List Block → Bool
rising [] = true
rising (b ∷ bs) = both (each (λ (d : Block). ltb (start b) (start d)) bs) (rising bs)

-- The block starts inside the image.
abbrev pub inside : List ℕ → Block → Bool
inside held b = ltb (start b) (length held)

-- The unit is in exactly one block if it is missing, and in none if it is held.
abbrev pub fetched : List ℕ → List Block → ℕ → Bool
fetched held bs unit = eqb (over unit bs) (pick (missing held unit) 1 0)

-- More is false just for a block that reaches the image's end.
abbrev pub flagged : ℕ → Block → Bool
flagged size b = pick (ltb (stop b * 16) size) b.more (not b.more)

-- A plan is accepted: all of these.
unfoldable pub accepted : ℕ → List ℕ → List Block → Bool
accepted size held bs =
    both (each strict bs)
    (both (rising bs)
    (both (each (inside held) bs)
    (both (below (length held) (fetched held bs))
    (each (flagged size) bs))))

-- The check's answer: done where size and held list fit and the blocks of the values are accepted, else BadPlan (22).
unfoldable pub checking : ℕ → List ℕ → List ℕ → Answer (Unit {0})
checking size held values =
    pick (both (fits size held) (accepted size held (map block_of values))) (given tt) (refused 22)

-- What the check promises.
abbrev pub Checks : ℕ → List ℕ → List ℕ → Result (Unit {0}) Refusal → Type 0
Checks size held values r = outcome r ≡ checking size held values
