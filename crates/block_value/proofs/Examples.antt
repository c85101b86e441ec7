-- Block 4096, more, exponent 6: its plain bytes and its strict bytes, and what each is read as.
use mathlib.Core.Path.{◌≡◌, refl}
use mathlib.Core.Bool.{true, false}
use mathlib.Core.List.{[], ◌∷◌}
use Rattle.rfc.specs.Uint.{uint}
use Rattle.rfc.specs.Block.{Block, block_number, block_of, block_bytes}
use Rattle.refusal.specs.Answer.{given, refused}
use Rattle.option_value.specs.Uint.{with_zeros, read_uint}
use Rattle.block_value.specs.Size.{exponent_of, power_up_to}
use Rattle.block_value.specs.Plain.{plain_new, plain_bytes, plain_reading}
use Rattle.block_value.specs.Strict.{strict_new, strict_writing, strict_reading}

block : Block
block = record { num = 4096; more = true; szx = 6 }

bytes : (plain_bytes block ≡ (0x0E ∷ [])) × (block_bytes block ≡ (0x01 ∷ 0x00 ∷ 0x0E ∷ []))
unfolding block plain_bytes block_bytes block_number uint
bytes = (refl, refl)

-- Two bytes of room are too few for the strict value.
answers : (strict_writing 3 block ≡ given 3) × (strict_writing 2 block ≡ refused 12)
    × (strict_reading (0x01 ∷ 0x00 ∷ 0x0E ∷ []) ≡ given (with_zeros 0 block))
    × (plain_reading (0x0E ∷ []) ≡ given (with_zeros 0 (record { num = 0; more = true; szx = 6 })))
    × (plain_reading (0x01 ∷ 0x00 ∷ 0x0E ∷ []) ≡ refused 13)
unfolding block strict_writing strict_reading plain_reading read_uint block_of block_bytes block_number uint
answers = (refl, refl, refl, refl, refl)

-- Leading zeros are counted, and held against the width: 13 comes before 14.
padded : (plain_reading (0 ∷ 0x0E ∷ []) ≡ given (with_zeros 1 (record { num = 0; more = true; szx = 6 })))
    × (plain_reading (0 ∷ 0 ∷ 0x0E ∷ []) ≡ refused 13)
    × (strict_reading (0 ∷ 0 ∷ 0x0E ∷ []) ≡ given (with_zeros 2 (record { num = 0; more = true; szx = 6 })))
    × (strict_reading (0 ∷ 0 ∷ 0 ∷ []) ≡ given (with_zeros 3 (record { num = 0; more = false; szx = 0 })))
    × (strict_reading (0 ∷ 0x07 ∷ []) ≡ refused 14) × (strict_reading (0 ∷ 0 ∷ 0 ∷ 0x07 ∷ []) ≡ refused 13)
unfolding strict_reading plain_reading read_uint block_of
padded = (refl, refl, refl, refl, refl, refl)

-- Sizes 15, 2047 and 4095 are plain sizes and 4096 is none, whatever the number; 1024 is a strict size and 2048 is none.
building : (plain_new 1 false 15 ≡ given (record { num = 1; more = false; szx = 0 }))
    × (plain_new 1 false 2047 ≡ given (record { num = 1; more = false; szx = 6 }))
    × (plain_new 1 false 4095 ≡ given (record { num = 1; more = false; szx = 7 }))
    × (plain_new 65536 false 4096 ≡ refused 14) × (strict_new 4096 true 1024 ≡ given block)
    × (strict_new 4096 true 2048 ≡ refused 14) × (strict_new 1048576 true 1024 ≡ refused 17)
unfolding block plain_new strict_new exponent_of power_up_to
building = (refl, refl, refl, refl, refl, refl, refl)
