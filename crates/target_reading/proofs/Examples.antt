-- Replies to texts, and what the store then holds, computed by the definitions.
use mathlib.Core.Path.{◌≡◌, refl}
use mathlib.Core.List.{List, [], ◌∷◌}
use Prim.Native.Nat.{ℕ}
use lib.ListN.{replicate}
use Rattle.rfc.specs.Uri.{literal}
use Rattle.rfc.specs.Percent.{hex_value, decode_from}
use Rattle.rfc.specs.Target.{Target, path_of, query_of, split}
use Rattle.rfc.specs.Text.{rows}
use Rattle.utf8.specs.Walk.{text_from}
use Rattle.packet.specs.declared.Home.TheVariants.{Edits}
use Rattle.uri_text.specs.Reading.{ruled, reading}
use Rattle.target_reading.specs.FromText.{passes, refused, reply_to, records_for, store_of}

-- `/ab/%c3%A9?x=1&y` from 2 in 12 bytes AA.
text : List ℕ
text =
    0x2F ∷ 0x61 ∷ 0x62 ∷ 0x2F ∷ 0x25 ∷ 0x63 ∷ 0x33 ∷ 0x25 ∷ 0x41 ∷ 0x39 ∷ 0x3F ∷ 0x78 ∷ 0x3D ∷ 0x31 ∷ 0x26 ∷ 0x79 ∷ []

target : Target
target =
    record { path = (0x61 ∷ 0x62 ∷ []) ∷ (0xC3 ∷ 0xA9 ∷ []) ∷ []; query = (0x78 ∷ 0x3D ∷ 0x31 ∷ []) ∷ (0x79 ∷ []) ∷ [] }

passes_in_12 : reply_to 12 2 text ≡ passes target
unfolding text target reply_to reading path_of query_of split decode_from literal hex_value ruled text_from rows
passes_in_12 = refl

stored : store_of 2 (passes target) (replicate 12 0xAA) ≡ (0xAA ∷ 0xAA ∷ 0x61 ∷ 0x62 ∷ 0xC3 ∷ 0xA9 ∷ 0x78 ∷ 0x3D ∷ 0x31 ∷ 0x79 ∷ 0xAA ∷ 0xAA ∷ [])
unfolding target
stored = refl

records : records_for 2 target ≡ (record { number = 11; home = Edits; spare = 0; start = 2; len = 2 } ∷ record { number = 11; home = Edits; spare = 0; start = 4; len = 2 } ∷ record { number = 15; home = Edits; spare = 0; start = 6; len = 3 } ∷ record { number = 15; home = Edits; spare = 0; start = 9; len = 1 } ∷ [])
unfolding target
records = refl

-- One byte less is 12; the empty text passes from the end of the store, and from past it is 12; 10 comes before 15.
room : (reply_to 9 2 text ≡ refused 12) × (reply_to 2 2 [] ≡ passes (record { path = []; query = [] })) × (reply_to 2 3 [] ≡ refused 12) × (reply_to 70001 0 (0x2F ∷ 0x25 ∷ []) ≡ refused 10)
unfolding text reply_to reading path_of query_of split decode_from literal hex_value ruled text_from rows
room = (refl, refl, refl, refl)
