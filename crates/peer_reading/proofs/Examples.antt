-- Addresses of RFC 4291, section 2.2, and texts that are none.
use mathlib.Core.Path.{◌≡◌, refl}
use mathlib.Core.List.{[], ◌∷◌, ◌++◌}
use lib.ListN.{replicate}
use Rattle.rfc.specs.Percent.{hex_value}
use Rattle.refusal.specs.Answer.{given, refused}
use Rattle.decimal.specs.Decimal.{digits_from}
use Rattle.uri_text.specs.Tally.{first_length}
use Rattle.peer_reading.specs.Reading.{numeral, are_groups, group_bytes, is_side, side_bytes, gap_in, whole_address, cut_address, address_in, port_in, grouped_peer, peer_in}

-- FF01::101
multicast : address_in (70 ∷ 70 ∷ 48 ∷ 49 ∷ 58 ∷ 58 ∷ 49 ∷ 48 ∷ 49 ∷ []) ≡ given (255 ∷ 1 ∷ (replicate 12 0 ++ (1 ∷ 1 ∷ [])))
unfolding address_in cut_address is_side side_bytes are_groups group_bytes gap_in hex_value
multicast = refl

-- ::1
loopback : address_in (58 ∷ 58 ∷ 49 ∷ []) ≡ given (replicate 15 0 ++ (1 ∷ []))
unfolding address_in cut_address is_side side_bytes are_groups group_bytes gap_in hex_value
loopback = refl

-- ::
unspecified : address_in (58 ∷ 58 ∷ []) ≡ given (replicate 16 0)
unfolding address_in cut_address is_side side_bytes are_groups group_bytes gap_in hex_value
unspecified = refl

-- 2001:DB8:0:0:8:800:200C:417A
full : address_in (50 ∷ 48 ∷ 48 ∷ 49 ∷ 58 ∷ 68 ∷ 66 ∷ 56 ∷ 58 ∷ 48 ∷ 58 ∷ 48 ∷ 58 ∷ 56 ∷ 58 ∷ 56 ∷ 48 ∷ 48 ∷ 58 ∷ 50 ∷ 48 ∷ 48 ∷ 67 ∷ 58 ∷ 52 ∷ 49 ∷ 55 ∷ 65 ∷ [])
    ≡ given (0x20 ∷ 0x01 ∷ 0x0D ∷ 0xB8 ∷ 0 ∷ 0 ∷ 0 ∷ 0 ∷ 0 ∷ 8 ∷ 8 ∷ 0 ∷ 0x20 ∷ 0x0C ∷ 0x41 ∷ 0x7A ∷ [])
unfolding address_in whole_address is_side side_bytes are_groups group_bytes gap_in hex_value
full = refl

-- 1::2::3 has `::` twice.
twice : address_in (49 ∷ 58 ∷ 58 ∷ 50 ∷ 58 ∷ 58 ∷ 51 ∷ []) ≡ refused 15
unfolding address_in cut_address is_side side_bytes are_groups group_bytes gap_in hex_value
twice = refl

-- [::1]:5683, and with a port of 05683.
in_brackets : peer_in (91 ∷ 58 ∷ 58 ∷ 49 ∷ 93 ∷ 58 ∷ 53 ∷ 54 ∷ 56 ∷ 51 ∷ []) ≡ given (replicate 15 0 ++ (1 ∷ 0x16 ∷ 0x33 ∷ []))
unfolding peer_in grouped_peer port_in numeral digits_from first_length address_in cut_address is_side side_bytes are_groups group_bytes gap_in hex_value
in_brackets = refl

port_zero_first : peer_in (91 ∷ 58 ∷ 58 ∷ 49 ∷ 93 ∷ 58 ∷ 48 ∷ 53 ∷ 54 ∷ 56 ∷ 51 ∷ []) ≡ refused 15
unfolding peer_in grouped_peer port_in numeral digits_from first_length
port_zero_first = refl

-- 1.2.3.4:5, and 1.2.3.256:5.
with_dots : peer_in (49 ∷ 46 ∷ 50 ∷ 46 ∷ 51 ∷ 46 ∷ 52 ∷ 58 ∷ 53 ∷ []) ≡ given (replicate 10 0 ++ (255 ∷ 255 ∷ 1 ∷ 2 ∷ 3 ∷ 4 ∷ 0 ∷ 5 ∷ []))
unfolding peer_in numeral digits_from first_length
with_dots = refl

too_large : peer_in (49 ∷ 46 ∷ 50 ∷ 46 ∷ 51 ∷ 46 ∷ 50 ∷ 53 ∷ 54 ∷ 58 ∷ 53 ∷ []) ≡ refused 15
unfolding peer_in numeral digits_from first_length
too_large = refl
