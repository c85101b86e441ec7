-- Setters and getters computed by the definitions, so that a slip in a definition shows.
use Prim.Native.Nat.{ℕ, ◌+◌}
use mathlib.Core.Path.{◌≡◌, refl}
use mathlib.Core.List.{List, [], ◌∷◌, ◌++◌}
use lib.ListN.{replicate}
use Rattle.std.specs.Prelude.{Some, None}
use Rattle.rfc.specs.Uint.{uint}
use Rattle.refusal.specs.Answer.{given, refused, after}
use Rattle.option_value.specs.Uint.{with_zeros, read_uint}
use Rattle.tables.specs.Numbers.{content_formats}
use Rattle.packet.specs.Packet.{new_packet, in_datagram, stores, bytes_in}
use Rattle.packet.specs.declared.Packet.{Packet}
use Rattle.packet.specs.declared.OptionRecord.{OptionRecord}
use Rattle.packet.specs.declared.Home.TheVariants.{Edits}
use Rattle.splicing.specs.Splice.{with_records, record_of}
use Rattle.editing.specs.Edit.{added, option_set}
use Rattle.typed_options.specs.Setters.{format_set, observe_set}
use Rattle.typed_options.specs.Getters.{format_in, observe_in, number}
use Rattle.typed_options.specs.declared.ContentFormat.{ContentFormat}

-- A content format with its zeros, and none with its zeros.
listed_as : ℕ → ℕ → ContentFormat
listed_as n zeros = record { format = Some n; zeros = zeros }

unlisted : ℕ → ContentFormat
unlisted zeros = record { format = None; zeros = zeros }

at : ℕ → ℕ → OptionRecord
at n start = record { number = n; home = Edits; spare = 0; start = start; len = 1 }

-- A packet of so many records of number 11, before others.
many : ℕ → List OptionRecord → Packet
many n rs = with_records new_packet (replicate n (at 11 0) ++ rs)

-- Observe at 128 records: with one of them Observe it is replaced, with none it is 6, and that before 12.
full : (observe_set (0 ∷ []) 9 (with_records new_packet (at 6 0 ∷ replicate 127 (at 11 0))) 5 ≡ refused 12)
    × (observe_set (0 ∷ []) 0 (with_records new_packet (at 6 0 ∷ replicate 127 (at 11 0))) 5 ≡ given (with_records new_packet (at 6 0 ∷ replicate 127 (at 11 0))))
    × (observe_set (0 ∷ []) 9 (many 128 []) 5 ≡ refused 6)
    × (observe_set (0 ∷ []) 9 (many 1 (at 6 0 ∷ [])) 5 ≡ refused 11)
unfolding observe_set option_set new_packet uint many at
full = (refl, refl, refl, refl)

-- Observe 300 goes into the edit store from 1, and its record names that store; a record of the datagram stays as it is.
homes : (observe_set (170 ∷ 170 ∷ 170 ∷ 170 ∷ []) 1 (with_records new_packet (record_of 11 (in_datagram 6 1) ∷ [])) 300
    ≡ given (with_records new_packet (record_of 6 (record { home = Edits; start = 1; len = 2 }) ∷ record_of 11 (in_datagram 6 1) ∷ [])))
    × (after (given (tt {0})) 1 (uint 4 300) (170 ∷ 170 ∷ 170 ∷ 170 ∷ []) ≡ (170 ∷ 1 ∷ 44 ∷ 170 ∷ []))
unfolding observe_set option_set new_packet uint
homes = (refl, refl)

-- A value is read from its own store, and one that is not inside it has no bytes, whatever the other store holds.
read_homes : (observe_in (stores (5 ∷ []) (7 ∷ [])) (with_records new_packet (record_of 6 (in_datagram 0 1) ∷ [])) ≡ given (number (with_zeros 0 5)))
    × (observe_in (stores [] (7 ∷ [])) (with_records new_packet (record_of 6 (in_datagram 0 1) ∷ [])) ≡ given (number (with_zeros 0 0)))
    × (format_in (stores [] (60 ∷ [])) (with_records new_packet (record_of 12 (in_datagram 0 1) ∷ [])) ≡ listed_as 0 0)
unfolding observe_in format_in new_packet read_uint bytes_in content_formats listed_as
read_homes = (refl, refl, refl)

-- A zero writes no byte, and its start still counts: the store's length is fine, one more is 12.
zeros : (format_set (7 ∷ []) 1 new_packet 0 ≡ given (with_records new_packet (record_of 12 (record { home = Edits; start = 1; len = 0 }) ∷ []))) × (format_set (7 ∷ []) 2 new_packet 0 ≡ refused 12)
unfolding format_set added new_packet uint
zeros = (refl, refl)

-- A content format is added: after 60 and then 50 it reads 60.
formats : (format_set (60 ∷ 0 ∷ []) 1 (with_records new_packet (at 12 0 ∷ [])) 50 ≡ given (with_records new_packet (at 12 0 ∷ at 12 1 ∷ [])))
    × (after (given (tt {0})) 1 (uint 2 50) (60 ∷ 0 ∷ []) ≡ (60 ∷ 50 ∷ []))
    × (format_in (stores [] (60 ∷ 50 ∷ [])) (with_records new_packet (at 12 0 ∷ at 12 1 ∷ [])) ≡ listed_as 60 0)
unfolding format_set added format_in new_packet read_uint bytes_in content_formats uint at listed_as
formats = (refl, refl, refl)

-- Records of one number, whose values have these lengths and stand one after the other.
sized : ℕ → ℕ → List ℕ → List OptionRecord
sized n start [] = []
sized n start (l ∷ ls) = record_of n (record { home = Edits; start = start; len = l }) ∷ sized n (start + l) ls

-- Content formats: an unlisted one reads as none with its zeros, an over-long one as none with no zeros, and the first decides
-- the number and the zeros.
format_zeros_lem : (format_in (stores [] (0 ∷ 60 ∷ 60 ∷ [])) (with_records new_packet (sized 12 0 (2 ∷ 1 ∷ []))) ≡ listed_as 60 1)
    × (format_in (stores [] (60 ∷ 0 ∷ 60 ∷ [])) (with_records new_packet (sized 12 0 (1 ∷ 2 ∷ []))) ≡ listed_as 60 0)
    × (format_in (stores [] (0 ∷ 1 ∷ [])) (with_records new_packet (sized 12 0 (2 ∷ []))) ≡ unlisted 1)
    × (format_in (stores [] (0 ∷ 0 ∷ 60 ∷ [])) (with_records new_packet (sized 12 0 (3 ∷ []))) ≡ unlisted 0)
    × (format_in (stores [] (0 ∷ 0 ∷ 0 ∷ [])) (with_records new_packet (sized 12 0 (3 ∷ []))) ≡ unlisted 0)
    × (format_in (stores [] []) new_packet ≡ unlisted 0)
unfolding format_in new_packet read_uint bytes_in content_formats sized listed_as unlisted
format_zeros_lem = (refl, refl, refl, refl, refl, refl)

-- Observe: an empty value is the number 0, five bytes are refused, and the first value decides here too.
observe_zeros_lem : (observe_in (stores [] []) (with_records new_packet (sized 6 0 (0 ∷ []))) ≡ given (number (with_zeros 0 0)))
    × (observe_in (stores [] (0 ∷ 0 ∷ 0 ∷ 5 ∷ [])) (with_records new_packet (sized 6 0 (4 ∷ []))) ≡ given (number (with_zeros 3 5)))
    × (observe_in (stores [] (0 ∷ 0 ∷ 0 ∷ 0 ∷ 0 ∷ [])) (with_records new_packet (sized 6 0 (5 ∷ []))) ≡ refused 13)
    × (observe_in (stores [] (5 ∷ 0 ∷ 5 ∷ [])) (with_records new_packet (sized 6 0 (1 ∷ 2 ∷ []))) ≡ given (number (with_zeros 0 5)))
unfolding observe_in new_packet read_uint bytes_in sized
observe_zeros_lem = (refl, refl, refl, refl)
