-- A path whose segments stand in both stores, computed by the definitions.
use mathlib.Core.Path.{◌≡◌, refl}
use mathlib.Core.List.{[], ◌∷◌}
use Rattle.rfc.specs.Uri.{literal}
use Rattle.rfc.specs.Percent.{hex_digit, coded}
use Rattle.header.specs.Header.{new_header}
use Rattle.packet.specs.Packet.{nowhere, stores, bytes_in}
use Rattle.packet.specs.declared.Packet.{Packet}
use Rattle.packet.specs.declared.Home.TheVariants.{Datagram, Edits}
use Rattle.target_writing.specs.ToText.{text_in}

-- Segments `ab` at 1 in the datagram `78 61 62`, and `c d` at 1 in the edit store `79 63 20 64`.
packet : Packet
packet =
    record {
      header = new_header;
      token = nowhere;
      count = 2;
      options = record { number = 11; home = Datagram; spare = 0; start = 1; len = 2 } ∷ record { number = 11; home = Edits; spare = 0; start = 1; len = 3 } ∷ [];
      payload = nowhere;
    }

-- `/ab/c%20d`.
both_stores : text_in (stores (0x78 ∷ 0x61 ∷ 0x62 ∷ []) (0x79 ∷ 0x63 ∷ 0x20 ∷ 0x64 ∷ [])) packet ≡ (0x2F ∷ 0x61 ∷ 0x62 ∷ 0x2F ∷ 0x63 ∷ 0x25 ∷ 0x32 ∷ 0x30 ∷ 0x64 ∷ [])
unfolding packet text_in bytes_in coded literal hex_digit
both_stores = refl
