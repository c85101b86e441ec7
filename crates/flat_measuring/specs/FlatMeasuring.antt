-- What the numbers of a flat form are judged by, and what they answer when they are written.
use Rattle.std.specs.Prelude.{ℕ, ◌+◌, ◌*◌, ◌≡◌, Bool, false, not, List, length, get_or, ltb, eqb}
use Rattle.ground.specs.Choice.{pick, both, either}
use Rattle.refusal.specs.Answer.{Answer, refused, onward}
use Rattle.packet.specs.Limits.{max_options}
use Rattle.packet.specs.Packet.{nowhere}
use Rattle.packet.specs.declared.Range.{Range}
use Rattle.judging.specs.Judge.{is_too_long, bad_value, bad_ranges, bad_packet, judging}
use Rattle.judging.specs.declared.Lengths.{Lengths}
use Rattle.measuring.specs.Measuring.{measured}
use Rattle.measuring.specs.declared.Limit.TheVariants.{Unlimited}
use Rattle.unflat.specs.Unflat.{bad_record, bad_flat, range_at, record_at, packet_in, unflat}

-- The answer of writing the packet of numbers (docs/RULES.md, Writing) without a limit, by the lengths of the stores alone: one over
-- 70,000 bytes gives TooLong (10) before the numbers are looked at.
unfoldable pub measured_in : Bool → ℕ → Lengths → List ℕ → Answer ℕ
measured_in strict room lengths l = onward (pick (is_too_long lengths) (refused 10) (unflat l)) (measured strict Unlimited room lengths)

-- The judgement of numbers: 11 where they are no flat form or their packet is bad, else the size of the options.
unfoldable pub judging_in : Lengths → List ℕ → Answer ℕ
judging_in lengths l = onward (unflat l) (judging lengths)

-- Numbers too few for the 11 of a head, or for the records that it counts, or a count over 128.
unfoldable pub cut_short : List ℕ → Bool
cut_short l = either (ltb (length l) 11) (either (ltb max_options (get_or l 10 0)) (ltb (length l) (11 + 4 * get_or l 10 0)))

-- What makes a packet bad before its records: a version over 3, a token or a payload outside its store, or a token over 15 bytes.
abbrev pub bad_start : Lengths → List ℕ → Bool
bad_start lengths l = either (ltb 3 (get_or l 0 0)) (bad_ranges lengths (range_at l 4) (range_at l 7))

-- The record whose number stands at a place, after one of the number `before`: no record's numbers, a number that falls, or a
-- bad value.
unfoldable pub bad_next : Lengths → List ℕ → ℕ → ℕ → Bool
bad_next lengths l before at = either (bad_record l at) (either (ltb (get_or l at 0) before) (bad_value lengths (record_at l at)))

-- Numbers that are a flat form, and whose packet is not bad over stores of these lengths.
pub record Sound (lengths : Lengths) (l : List ℕ) : Type 0 where
  pub flat : bad_flat l ≡ false
  pub packet : bad_packet lengths (packet_in l) ≡ false

-- The payload is dropped: plain drops that of code byte 0, which alone is the byte of class `Empty` (docs/RULES.md, Writing).
unfoldable pub dropped : Bool → ℕ → Bool
dropped strict code = both (not strict) (eqb code 0)

-- The payload that is sent: none where it is dropped.
abbrev pub sent_in : Bool → List ℕ → Range
sent_in strict l = pick (dropped strict (get_or l 2 0)) nowhere (range_at l 7)
