-- The number of each refusal: the page of refusals.
use Rattle.std.specs.Prelude.{ℕ, List, [], ◌∷◌}
use Rattle.refusal.specs.declared.Refusal.{Refusal}
use Rattle.refusal.specs.declared.Refusal.TheVariants.{InvalidHeader, InvalidTokenLength, InvalidOptionDelta, InvalidOptionLength, InvalidPacketLength, TooManyOptions, WrongVersion, EmptyCarries, MarkerAlone, TooLong, BadRecord, NoRoom, BadUint, BadBlockSize, BadText, BadOption, BlockNumber, BadFreeze, BadFrame, ClockBack, BadPlan}

abbrev pub number_of : Refusal → ℕ
number_of InvalidHeader = 1
number_of InvalidTokenLength = 2
number_of InvalidOptionDelta = 3
number_of InvalidOptionLength = 4
number_of InvalidPacketLength = 5
number_of TooManyOptions = 6
number_of WrongVersion = 7
number_of EmptyCarries = 8
number_of MarkerAlone = 9
number_of TooLong = 10
number_of BadRecord = 11
number_of NoRoom = 12
number_of BadUint = 13
number_of BadBlockSize = 14
number_of BadText = 15
number_of BadOption = 16
number_of BlockNumber = 17
number_of BadFreeze = 19
number_of BadFrame = 20
number_of ClockBack = 21
number_of BadPlan = 22

-- Every refusal, in the order of their numbers.
abbrev pub refusals : List Refusal
refusals =
    InvalidHeader ∷ InvalidTokenLength ∷ InvalidOptionDelta ∷ InvalidOptionLength ∷ InvalidPacketLength ∷ TooManyOptions ∷ WrongVersion ∷ EmptyCarries ∷ MarkerAlone ∷ TooLong ∷ BadRecord ∷ NoRoom ∷ BadUint ∷ BadBlockSize ∷ BadText ∷ BadOption ∷ BlockNumber ∷ BadFreeze ∷ BadFrame ∷ ClockBack ∷ BadPlan ∷ []

-- The numbers that there are. No refusal has 18.
abbrev pub numbers : List ℕ
numbers = 1 ∷ 2 ∷ 3 ∷ 4 ∷ 5 ∷ 6 ∷ 7 ∷ 8 ∷ 9 ∷ 10 ∷ 11 ∷ 12 ∷ 13 ∷ 14 ∷ 15 ∷ 16 ∷ 17 ∷ 19 ∷ 20 ∷ 21 ∷ 22 ∷ []
