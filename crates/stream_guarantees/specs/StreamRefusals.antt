-- Which refusals reading a stream gives, by number: 19, those of strict reading but for a length, and 12; and what a call
-- that is so refused leaves as it was.
use Rattle.std.specs.Prelude.{ℕ, ◌≡◌, List, [], ◌∷◌, T, Result, Err}
use Rattle.ground.specs.Table.{listed}
use Rattle.refusal.specs.Number.{number_of}
use Rattle.refusal.specs.declared.Refusal.{Refusal}
use Rattle.framing.specs.Framing.{Converts}
use Rattle.stream.specs.declared.Form.{Form}
use Rattle.stream.specs.declared.Step.{Step}
use Rattle.thawing.specs.Message.{NextMessage}
use Rattle.thawing.specs.Thawing.{Strictly, Thaws}
use Rattle.thawing.specs.declared.Strict.{Strict}
use Rattle.converting.specs.Converting.{converted}

-- The numbers of the refusals of judging: the stream's, then a datagram's. A datagram of 4..1,280 bytes is refused neither
-- InvalidHeader (1) nor TooLong (10).
abbrev pub judging_numbers : List ℕ
judging_numbers = 19 ∷ 7 ∷ 2 ∷ 8 ∷ 3 ∷ 4 ∷ 6 ∷ 9 ∷ []

-- And with an output NoRoom (12).
abbrev pub stream_numbers : List ℕ
stream_numbers = 12 ∷ judging_numbers

-- A refusal of a stream that is judged has one of the first, whatever the stream is.
abbrev pub JudgingRefusals : Type 0
JudgingRefusals =
    (form other : Form) (s : List ℕ) (r : Result Strict Refusal) → Strictly form other s r
    → (e : Refusal) → r ≡ Err e → T (listed (number_of e) judging_numbers)

-- A refusal of thawing, and of converting, has one of the second.
abbrev pub ThawingRefusals : Type 0
ThawingRefusals =
    (form : Form) (s oldList oldOut : List ℕ) (r : Result ℕ Refusal) (newList newOut : List ℕ) → Thaws form s oldList oldOut r newList newOut
    → (e : Refusal) → r ≡ Err e → T (listed (number_of e) stream_numbers)

abbrev pub ConvertingRefusals : Type 0
ConvertingRefusals =
    (form : Form) (s old : List ℕ) (r : Result ℕ Refusal) (new : List ℕ) → Converts (converted form s) old r new
    → (e : Refusal) → r ≡ Err e → T (listed (number_of e) stream_numbers)

-- A refused thawing leaves list and output as they were; a step that is refused leaves the output.
abbrev pub ThawingKept : Type 0
ThawingKept =
    (form : Form) (s oldList oldOut : List ℕ) (r : Result ℕ Refusal) (list out : List ℕ) → Thaws form s oldList oldOut r list out
    → (e : Refusal) → r ≡ Err e → (list ≡ oldList) × (out ≡ oldOut)

abbrev pub StepKept : Type 0
StepKept =
    (form : Form) (s : List ℕ) (at : ℕ) (old : List ℕ) (to : ℕ) (r : Result Step Refusal) (new : List ℕ) → NextMessage form s at old to r new
    → (e : Refusal) → r ≡ Err e → new ≡ old
