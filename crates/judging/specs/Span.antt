-- Where the records of a number stand, in a packet that an edit takes.
use Rattle.std.specs.Prelude.{ℕ, suc, ◌+◌, List, [], ◌∷◌, ltb, Result, Ok, Err}
use Rattle.ground.specs.Choice.{pick}
use Rattle.packet.specs.Packet.{records_of}
use Rattle.packet.specs.declared.Packet.{Packet}
use Rattle.packet.specs.declared.OptionRecord.{OptionRecord}
use Rattle.judging.specs.Judge.{misordered}
use Rattle.judging.specs.declared.Span.{Span}
use Rattle.refusal.specs.declared.Refusal.{Refusal}
use Rattle.refusal.specs.declared.Refusal.TheVariants.{BadRecord}

-- How many records have a lower number.
abbrev pub below : ℕ → List OptionRecord → ℕ
below n [] = 0
below n (r ∷ rs) = pick (ltb r.number n) (suc (below n rs)) (below n rs)

-- The records of a number stand after all of lower numbers, and before all of higher ones, in a packet that an edit takes; any
-- other is BadRecord.
abbrev pub span_in : Packet → ℕ → Result Span Refusal
span_in p n =
    pick (misordered p) (Err BadRecord)
    (Ok (record { low = below n (records_of p); high = below (n + 1) (records_of p) }))
