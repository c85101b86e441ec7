-- Edits computed by the definitions, so that a slip in a definition shows.
use Prim.Native.Nat.{ℕ}
use mathlib.Core.Path.{◌≡◌, refl}
use mathlib.Core.List.{[], ◌∷◌}
use lib.ListN.{replicate}
use Rattle.refusal.specs.Answer.{given, refused}
use Rattle.packet.specs.Packet.{none, new_packet, in_datagram, nowhere}
use Rattle.packet.specs.declared.OptionRecord.{OptionRecord}
use Rattle.packet.specs.declared.Home.TheVariants.{Datagram, Edits}
use Rattle.header.specs.Header.{new_header}
use Rattle.splicing.specs.Splice.{with_records, ranges_in, homed}
use Rattle.editing.specs.Edit.{inserted, removed, replaced, added, option_set, token_set}

at : ℕ → ℕ → OptionRecord
at n start = record { number = n; home = Datagram; spare = 0; start = start; len = 1 }

edited : ℕ → ℕ → OptionRecord
edited n start = record { number = n; home = Edits; spare = 0; start = start; len = 1 }

-- A record goes after the last of the same or a lower number; a set one goes between the lower and the higher ones.
orders : (inserted 11 (at 11 9 ∷ []) (at 3 0 ∷ at 11 1 ∷ at 12 2 ∷ []) ≡ (at 3 0 ∷ at 11 1 ∷ at 11 9 ∷ at 12 2 ∷ []))
    × (replaced 11 (ranges_in (0 ∷ 8 ∷ 1 ∷ 1 ∷ 9 ∷ 1 ∷ [])) (at 3 0 ∷ at 11 1 ∷ at 12 2 ∷ []) ≡ (at 3 0 ∷ at 11 8 ∷ edited 11 9 ∷ at 12 2 ∷ []))
    × (removed 11 (at 3 0 ∷ at 11 1 ∷ at 11 9 ∷ at 12 2 ∷ []) ≡ (at 3 0 ∷ at 12 2 ∷ []))
unfolding at edited
orders = (refl, refl, refl)

-- A 129th record gives 6, and falling numbers 11 before that; of 128, one can still be replaced by one.
full : (added (with_records new_packet (replicate 128 (at 11 0))) 11 (in_datagram 0 1) ≡ refused 6)
    × (option_set (with_records new_packet (replicate 127 (at 11 0))) 12 (ranges_in (0 ∷ 0 ∷ 1 ∷ 0 ∷ 0 ∷ 1 ∷ [])) ≡ refused 6)
    × (added (with_records new_packet (at 12 0 ∷ replicate 127 (at 11 0))) 11 (in_datagram 0 1) ≡ refused 11)
    × (option_set (with_records new_packet (at 6 0 ∷ replicate 127 (at 11 0))) 6 (ranges_in (0 ∷ 7 ∷ 1 ∷ [])) ≡ given (with_records new_packet (at 6 7 ∷ replicate 127 (at 11 0))))
unfolding added option_set new_packet at
full = (refl, refl, refl, refl)

-- A home of 2 gives 11 where a 129th record would give 6; numbers left over name no home.
homes : (homed (1 ∷ 0 ∷ 1 ∷ 2 ∷ 0 ∷ 1 ∷ []) (option_set (with_records new_packet (replicate 128 (at 11 0))) 12) ≡ refused 11)
    × (homed (1 ∷ 0 ∷ 1 ∷ 2 ∷ 0 ∷ []) (option_set (with_records new_packet (replicate 128 (at 11 0))) 12) ≡ refused 6)
    × (homed (1 ∷ 0 ∷ 1 ∷ 2 ∷ []) (option_set new_packet 12) ≡ given (with_records new_packet (edited 12 0 ∷ [])))
unfolding option_set new_packet at edited
homes = (refl, refl, refl)

-- A token of 15 bytes is the longest.
tokens : (token_set new_packet (in_datagram 0 16) ≡ refused 11) × (token_set new_packet (in_datagram 0 15) ≡ given (record { header = new_header; token = in_datagram 0 15; count = 0; options = replicate 128 none; payload = nowhere }))
unfolding token_set new_packet
tokens = (refl, refl)
