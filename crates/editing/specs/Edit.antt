-- What each edit makes of a packet (docs/RULES.md, Edits), by the list of its records.
use Rattle.std.specs.Prelude.{ℕ, Bool, List, [], ◌∷◌, map, ltb}
use Rattle.ground.specs.Choice.{pick}
use Rattle.refusal.specs.Answer.{Answer, given, refused}
use Rattle.packet.specs.Limits.{max_token}
use Rattle.packet.specs.Packet.{records_of}
use Rattle.packet.specs.declared.Packet.{Packet}
use Rattle.packet.specs.declared.OptionRecord.{OptionRecord}
use Rattle.packet.specs.declared.Range.{Range}
use Rattle.judging.specs.Judge.{misordered}
use Rattle.splicing.specs.Splice.{packet_with, with_records, roomy, record_of}
use Rattle.editing.specs.Numbered.{up_to_by, inserted_by, removed_by}

-- Every edit of a packet with over 128 records or falling numbers gives 11.
abbrev pub orderly : Packet → Answer Packet → Answer Packet
orderly p edit = pick (misordered p) (refused 11) edit

-- Some record has the number or a lower one.
abbrev pub up_to : ℕ → List OptionRecord → Bool
up_to n rs = up_to_by (λ r. r.number) n rs

-- New records of a number, after the last of the same or a lower number.
abbrev pub inserted : ℕ → List OptionRecord → List OptionRecord → List OptionRecord
inserted n new rs = inserted_by (λ r. r.number) n new rs

-- All records but those of a number.
abbrev pub removed : ℕ → List OptionRecord → List OptionRecord
removed n rs = removed_by (λ r. r.number) n rs

-- The records of ranges in the place of all records of a number, in the ranges' order.
abbrev pub replaced : ℕ → List Range → List OptionRecord → List OptionRecord
replaced n ranges rs = inserted n (map (record_of n) ranges) (removed n rs)

-- Setting the token; one over 15 bytes gives 11.
unfoldable pub token_set : Packet → Range → Answer Packet
token_set p token =
    pick (ltb max_token token.len) (refused 11) (orderly p (given (packet_with p token (records_of p) p.payload)))

-- Setting the payload.
unfoldable pub payload_set : Packet → Range → Answer Packet
payload_set p payload = orderly p (given (packet_with p p.token (records_of p) payload))

-- Setting an option replaces all of its number by up to 128 ranges; where more records than 128 would stand it gives 6.
unfoldable pub option_set : Packet → ℕ → List Range → Answer Packet
option_set p n ranges = orderly p (roomy p (replaced n ranges (records_of p)))

-- Adding puts a record after the last of the same or a lower number; a 129th gives 6.
unfoldable pub added : Packet → ℕ → Range → Answer Packet
added p n range = orderly p (roomy p (inserted n (record_of n range ∷ []) (records_of p)))

-- Clearing removes the records of a number.
unfoldable pub cleared : Packet → ℕ → Answer Packet
cleared p n = orderly p (given (with_records p (removed n (records_of p))))

-- Clearing all removes every record.
unfoldable pub cleared_all : Packet → Answer Packet
cleared_all p = orderly p (given (with_records p []))
