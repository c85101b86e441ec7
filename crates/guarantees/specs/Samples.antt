-- Sample datagrams, and what each mode answers to them: one table with one statement.
use Rattle.std.specs.Prelude.{ℕ, ◌≡◌, Bool, true, false, List, [], ◌∷◌, map}
use Rattle.rfc.specs.Message.{Message, Opt}
use Rattle.refusal.specs.Answer.{Answer, given, refused, onward}
use Rattle.packet.specs.Packet.{stores}
use Rattle.packet.specs.Meaning.{meaning}
use Rattle.reading.specs.Reading.{reading}

-- A datagram, and the answers to it: the message that it means, or a refusal's number.
pub record Sample : Type 0 where
  pub bytes : List ℕ
  pub plain : Answer Message
  pub strict : Answer Message

-- A confirmable message with the id 1 and no token.
abbrev pub message : ℕ → ℕ → List Opt → List ℕ → Answer Message
message version code options payload =
    given (record { version = version; type = 0; code = code; id = 1; token = []; options = options; payload = payload })

abbrev pub option : ℕ → List ℕ → Opt
option number value = record { number = number; value = value }

-- A datagram to which both modes answer the same.
abbrev pub same : List ℕ → Answer Message → Sample
same bytes a = record { bytes = bytes; plain = a; strict = a }

unfoldable pub table : List Sample
table =
    same (0x40 ∷ 0x01 ∷ 0x00 ∷ []) (refused 1)
    ∷ same (0x40 ∷ 0x00 ∷ 0x00 ∷ 0x01 ∷ []) (message 1 0 [] [])
    ∷ record { bytes = 0x40 ∷ 0x01 ∷ 0x00 ∷ 0x01 ∷ 0xFF ∷ []; plain = message 1 1 [] []; strict = refused 9 }
    ∷ same (0x40 ∷ 0x01 ∷ 0x00 ∷ 0x01 ∷ 0xB1 ∷ 0x61 ∷ 0x01 ∷ 0x62 ∷ 0x10 ∷ []) (message 1 1 (option 11 (0x61 ∷ []) ∷ option 11 (0x62 ∷ []) ∷ option 12 [] ∷ []) [])
    ∷ same (0x41 ∷ 0x01 ∷ 0x00 ∷ 0x01 ∷ []) (refused 2)
    ∷ same (0x40 ∷ 0x01 ∷ 0x00 ∷ 0x01 ∷ 0xD0 ∷ []) (refused 4)
    ∷ same (0x40 ∷ 0x01 ∷ 0x00 ∷ 0x01 ∷ 0xF0 ∷ []) (refused 3)
    ∷ same (0x40 ∷ 0x01 ∷ 0x00 ∷ 0x01 ∷ 0xE0 ∷ 0xFE ∷ 0xF2 ∷ []) (message 1 1 (option 65535 [] ∷ []) [])
    ∷ same (0x40 ∷ 0x01 ∷ 0x00 ∷ 0x01 ∷ 0xE0 ∷ 0xFE ∷ 0xF3 ∷ []) (refused 3)
    ∷ same (0x40 ∷ 0x01 ∷ 0x00 ∷ 0x01 ∷ 0xE0 ∷ 0xFE ∷ 0xF2 ∷ 0x15 ∷ []) (refused 3)
    ∷ record { bytes = 0x00 ∷ 0x01 ∷ 0x00 ∷ 0x01 ∷ []; plain = message 0 1 [] []; strict = refused 7 }
    ∷ record { bytes = 0x40 ∷ 0x00 ∷ 0x00 ∷ 0x01 ∷ 0xFF ∷ 0x61 ∷ []; plain = message 1 0 [] (0x61 ∷ []); strict = refused 8 }
    ∷ record { bytes = 0x80 ∷ 0x01 ∷ 0x00 ∷ 0x01 ∷ []; plain = message 2 1 [] []; strict = refused 7 }
    ∷ record { bytes = 0x00 ∷ 0x00 ∷ 0x00 ∷ 0x01 ∷ 0xFF ∷ []; plain = message 0 0 [] []; strict = refused 7 }
    ∷ record { bytes = 0x41 ∷ 0x00 ∷ 0x00 ∷ 0x01 ∷ 0x61 ∷ []; plain = given (record { version = 1; type = 0; code = 0; id = 1; token = 0x61 ∷ []; options = []; payload = [] }); strict = refused 8 }
    ∷ record { bytes = 0x40 ∷ 0x00 ∷ 0x00 ∷ 0x01 ∷ 0x00 ∷ []; plain = message 1 0 (option 0 [] ∷ []) []; strict = refused 8 }
    ∷ record { bytes = 0x40 ∷ 0x00 ∷ 0x00 ∷ 0x01 ∷ 0xFF ∷ []; plain = message 1 0 [] []; strict = refused 8 }
    ∷ record { bytes = 0x0F ∷ 0x00 ∷ 0x00 ∷ 0x01 ∷ []; plain = refused 2; strict = refused 7 }
    ∷ record { bytes = 0x40 ∷ 0x00 ∷ 0x00 ∷ 0x01 ∷ 0xF0 ∷ []; plain = refused 3; strict = refused 8 }
    ∷ record { bytes = 0x40 ∷ 0x01 ∷ 0x00 ∷ 0x01 ∷ 0xE0 ∷ 0xFE ∷ 0xF2 ∷ 0x1E ∷ 0xFE ∷ 0xF3 ∷ []; plain = refused 4; strict = refused 3 }
    ∷ []

-- What a mode answers to a datagram, beside no edit store.
abbrev pub answers : Bool → List ℕ → Answer Message
answers strict s = onward (reading strict s) (λ p. given (meaning (stores s []) p))

-- Every row of the table states what the two modes answer.
abbrev pub Samples : Type 0
Samples = (map (λ r. answers false r.bytes) table ≡ map (λ r. r.plain) table) × (map (λ r. answers true r.bytes) table ≡ map (λ r. r.strict) table)
