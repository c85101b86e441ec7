-- The promises that the theorems speak of are the contracts of the functions themselves, as the checker reads them from the code:
-- a contract that is changed is tied no longer, and this file isn't proved.
use Prim.Native.Nat.{ℕ}
use mathlib.Core.Path.{◌≡◌}
use mathlib.Core.Bool.{true, false}
use mathlib.Core.List.{List}
use lib.ListN.{length, get_or}
use denote.Builtin.{u8, u16, u32, u64}
use Rattle.std.specs.Prelude.{Result}
use Rattle.rfc.specs.Uint.{uint}
use Rattle.header.specs.Header.{number_of_type, setting_of, with_code}
use Rattle.option_value.specs.Text.{read_text, write_text, text_of}
use Rattle.code_text.specs.CodeText.{code_in, code_of}
use Rattle.measuring.specs.declared.Limit.TheVariants.{Default, Given, Unlimited}
use Rattle.rfc.specs.Block.{block_bytes}
use Rattle.refusal.specs.Answer.{Answer, written, fitted, after, beside}
use Rattle.refusal.specs.declared.Refusal.{Refusal}
use Rattle.option_value.specs.Uint.{ReadsUint, uint_of, read_by, read_value}
use Rattle.block_value.specs.Answers.{meant, built}
use Rattle.block_value.specs.Plain.{ReadsPlain}
use Rattle.block_value.specs.Strict.{strict_new, strict_writing, ReadsStrict}
use Rattle.packet.specs.Packet.{none, stores, held, range_of, records_of, of_number}
use Rattle.judging.specs.Judge.{lengths_of}
use Rattle.reading.specs.Reading.{FromBytes}
use Rattle.cursor.specs.Cursor.{Starts, StepsTo, Judges as JudgesDatagram}
use Rattle.writing.specs.Writing.{ToBytes}
use Rattle.building.specs.Building.{Starts as BuildStarts, Adds, Ends}
use Rattle.splicing.specs.Edited.{Edits}
use Rattle.splicing.specs.Splice.{homed}
use Rattle.editing.specs.Edit.{token_set, payload_set, added, option_set, cleared, cleared_all}
use Rattle.typed_options.specs.Setters.{Sets, format_set, observe_set}
use Rattle.typed_options.specs.Getters.{GetsFormat, GetsObserve}
use Rattle.register.specs.Check.{Checks}
use Rattle.framing.specs.Framing.{ToFrame, FromFrame}
use Rattle.plan_checking.specs.Plan.{Checks as ChecksPlan}
use Rattle.planning.specs.Planner.{Plans}
use Rattle.chunk_judging.specs.Chunks.{JudgesChunks}
use Rattle.thawing.specs.Message.{NextMessage}
use Rattle.thawing.specs.Thawing.{Strictly, Thaws}
use Rattle.freezing.specs.Freezing.{Freezes}
use Rattle.framing.specs.Framing.{Converts}
use Rattle.converting.specs.Converting.{converted}
use Rattle.compacting.specs.Compacting.{Compacts}
use Rattle.hearing.specs.Hearing.{arrival, Hears, Clears}
use Rattle.stream.specs.Answers.{step_read}
use Rattle.tracing.specs.TimedMessages.{form_of, timed_at}
use Rattle.tracing.specs.Judging.{strict_timed_at, Judges}
use Rattle.tracing.specs.Answers.{timed_read, timed_extent}
use Rattle.tracing.specs.Arrivals.{no_arrival, arrival_at, arrived_in}
use Rattle.replaying.specs.Replaying.{Replays}
use Rattle.guarantees.specs.Homes.{HandsBack}
use Rattle.packet.proofs.Range.part.Reads as PartOf
use Rattle.packet.proofs.OptionRecord.value.Reads as ValueOf
use Rattle.packet.proofs.Packet.get_token.Reads as GetToken
use Rattle.packet.proofs.Packet.get_payload.Reads as GetPayload
use Rattle.packet.proofs.Packet.option_value.Reads as ValueAt
use Rattle.packet.proofs.Packet.get_option.Reads as GetOption
use Rattle.packet.proofs.Packet.get_first_option.Reads as GetFirst
use Rattle.reading.proofs.from_bytes.Reads as FromPlain
use Rattle.reading.proofs.from_bytes_strict.Reads as FromStrict
use Rattle.cursor.proofs.Cursor.start.Reads as StartCursor
use Rattle.cursor.proofs.Cursor.step.Reads as StepCursor
use Rattle.cursor.proofs.judge.Reads as JudgeDatagram
use Rattle.writing.proofs.to_bytes.Reads as ToPlain
use Rattle.writing.proofs.to_bytes_with_limit.Reads as ToPlainLimit
use Rattle.writing.proofs.to_bytes_unlimited.Reads as ToPlainUnlimited
use Rattle.writing.proofs.to_bytes_strict.Reads as ToStrict
use Rattle.writing.proofs.to_bytes_with_limit_strict.Reads as ToStrictLimit
use Rattle.writing.proofs.to_bytes_unlimited_strict.Reads as ToStrictUnlimited
use Rattle.building.proofs.Builder.start.Reads as StartBuild
use Rattle.building.proofs.Builder.option.Reads as BuildOption
use Rattle.building.proofs.Builder.payload.Reads as BuildPayload
use Rattle.editing.proofs.set_token.Reads as SetToken
use Rattle.editing.proofs.set_payload.Reads as SetPayload
use Rattle.editing.proofs.add_option.Reads as AddOption
use Rattle.editing.proofs.set_option.Reads as SetOption
use Rattle.editing.proofs.clear_option.Reads as ClearOption
use Rattle.editing.proofs.clear_all_options.Reads as ClearAll
use Rattle.typed_options.proofs.set_content_format.Reads as SetFormat
use Rattle.typed_options.proofs.set_observe_value.Reads as SetObserve
use Rattle.typed_options.proofs.get_content_format.Reads as GetFormat
use Rattle.typed_options.proofs.get_observe_value.Reads as GetObserve
use Rattle.option_value.proofs.option_to_uint.Reads as ToUint
use Rattle.block_value.proofs.BlockValue.try_from.Reads as BlockFrom
use Rattle.block_value.proofs.BlockValue.try_from_strict.Reads as BlockFromStrict
use Rattle.block_value.proofs.BlockValue.into_bytes_strict.Reads as BlockIntoStrict
use Rattle.block_value.proofs.BlockValue.new_strict.Reads as BlockNewStrict
use Rattle.register.proofs.check.Reads as CheckRegister
use Rattle.framing.proofs.to_frame.Reads as FrameOut
use Rattle.framing.proofs.from_frame.Reads as FrameBack
use Rattle.target_writing.specs.ToText.{ToText as WritesTarget}
use Rattle.target_reading.specs.FromText.{FromText}
use Rattle.target_writing.proofs.write_target.Reads as WriteTarget
use Rattle.target_reading.proofs.read_target.Reads as ReadTarget
use Rattle.plan_checking.proofs.check.Reads as CheckPlan
use Rattle.planning.proofs.plan.Reads as MakePlan
use Rattle.chunk_judging.proofs.judge_chunks.Reads as JudgeInChunks
use Rattle.thawing.proofs.next_message.Reads as TakeMessage
use Rattle.thawing.proofs.judge_strictly.Reads as JudgeStream
use Rattle.thawing.proofs.thaw.Reads as ThawStream
use Rattle.freezing.proofs.freeze.Reads as FreezePacket
use Rattle.converting.proofs.convert.Reads as ConvertStream
use Rattle.placing.specs.Put.{Puts}
use Rattle.peers.specs.Text.{peer_text}
use Rattle.peer_reading.specs.Reading.{peer_in, ReadsPeer}
use Rattle.peers.proofs.put_peer.Reads as PutPeer
use Rattle.peer_reading.proofs.peer_in.Reads as ReadPeer
use Rattle.compacting.proofs.compact.Reads as Compact
use Rattle.hearing.proofs.hear.Reads as HearMessage
use Rattle.hearing.proofs.clear.Reads as ClearTable
use Rattle.tracing.proofs.form_of.Reads as FormOf
use Rattle.tracing.proofs.judge.Reads as JudgeTrace
use Rattle.tracing.proofs.strict_timed_at.Reads as StrictTimedAt
use Rattle.tracing.proofs.timed_at.Reads as TimedAt
use Rattle.tracing.proofs.arrival_at.Reads as ArrivalAt
use Rattle.replaying.proofs.replay.Reads as ReplayTrace
use Rattle.header.proofs.Header.set_code.Reads as SetCode
use Rattle.option_value.proofs.OptionValue.try_from.Reads as FromValue
use Rattle.option_value.specs.contracts.U8Width.TheImpl.{ghosts as width_8}
use Rattle.option_value.specs.contracts.U16Width.TheImpl.{ghosts as width_16}
use Rattle.option_value.specs.contracts.U32Width.TheImpl.{ghosts as width_32}
use Rattle.option_value.specs.contracts.U64Width.TheImpl.{ghosts as width_64}
use Rattle.option_value.proofs.option_to_text.Reads as ToText
use Rattle.option_value.proofs.OptionValue.into_bytes.Reads as IntoValue
use Rattle.option_value.proofs.option_from_uint.Reads as PutUint
use Rattle.option_value.proofs.option_from_text.Reads as PutText
use Rattle.code_text.proofs.code_in.Reads as CodeIn

-- Getters.
part_of : (k : _) (a : _) (r : _) (x : _) → PartOf.Post k a r x → HandsBack r.now r.ref_ptr a.1.0.datagram.ref_ptr a.1.0.edits.ref_ptr (held a.1.0) a.0
part_of k a r x h = record { bytes_are = h.0; place_is = h.1 }

value_of : (k : _) (a : _) (r : _) (x : _) → ValueOf.Post k a r x → HandsBack r.now r.ref_ptr a.1.0.datagram.ref_ptr a.1.0.edits.ref_ptr (held a.1.0) (range_of a.0)
value_of k a r x h = record { bytes_are = h.0; place_is = h.1 }

get_token : (k : _) (a : _) (r : _) (x : _) → GetToken.Post k a r x → HandsBack r.now r.ref_ptr a.1.0.datagram.ref_ptr a.1.0.edits.ref_ptr (held a.1.0) a.0.token
get_token k a r x h = record { bytes_are = h.0; place_is = h.1 }

get_payload : (k : _) (a : _) (r : _) (x : _) → GetPayload.Post k a r x → HandsBack r.now r.ref_ptr a.1.0.datagram.ref_ptr a.1.0.edits.ref_ptr (held a.1.0) a.0.payload
get_payload k a r x h = record { bytes_are = h.0; place_is = h.1 }

value_at : (k : _) (a : _) (r : _) (x : _) → ValueAt.Post k a r x → HandsBack r.now r.ref_ptr a.1.0.datagram.ref_ptr a.1.0.edits.ref_ptr (held a.1.0) (range_of (get_or (records_of a.0) a.1.1.0 none))
value_at k a r x h = record { bytes_are = h.0; place_is = h.1 }

get_option : (k : _) (a : _) (r : _) (x : _) → GetOption.Post k a r x → HandsBack r.now r.ref_ptr a.1.0.datagram.ref_ptr a.1.0.edits.ref_ptr (held a.1.0) (range_of (get_or (of_number a.1.1.0 (records_of a.0)) a.1.1.1.0 none))
get_option k a r x h = record { bytes_are = h.0; place_is = h.1 }

get_first_option : (k : _) (a : _) (r : _) (x : _) → GetFirst.Post k a r x → HandsBack r.now r.ref_ptr a.1.0.datagram.ref_ptr a.1.0.edits.ref_ptr (held a.1.0) (range_of (get_or (of_number a.1.1.0 (records_of a.0)) 0 none))
get_first_option k a r x h = record { bytes_are = h.0; place_is = h.1 }

-- Reading.
from_bytes : (k : _) (a : _) (r : _) (x : _) → FromPlain.Post k a r x → FromBytes false a.0.now r
from_bytes k a r x h = h

from_bytes_strict : (k : _) (a : _) (r : _) (x : _) → FromStrict.Post k a r x → FromBytes true a.0.now r
from_bytes_strict k a r x h = h

-- Reading step by step.
start_cursor : (k : _) (a : _) (r : _) (x : _) → StartCursor.Post k a r x → Starts a.0 a.1.0.now r
start_cursor k a r x h = h

step_cursor : (k : _) (a : _) (r : _) (x : _) → StepCursor.Post k a r x → StepsTo a.1.0.now a.0 r
step_cursor k a r x h = h

judge_datagram : (k : _) (a : _) (r : _) (x : _) → JudgeDatagram.Post k a r x → JudgesDatagram a.0 a.1.0.now r
judge_datagram k a r x h = h

-- Writing, at each limit, plain and strict.
to_bytes : (k : _) (a : _) (r : _) (x : _) → ToPlain.Post k a r x → ToBytes false Default a.0 (held a.1.0) a.1.1.0.now r x.1.1.0.now
to_bytes k a r x h = h

to_bytes_with_limit : (k : _) (a : _) (r : _) (x : _) → ToPlainLimit.Post k a r x → ToBytes false (Given a.1.0) a.0 (held a.1.1.0) a.1.1.1.0.now r x.1.1.1.0.now
to_bytes_with_limit k a r x h = h

to_bytes_unlimited : (k : _) (a : _) (r : _) (x : _) → ToPlainUnlimited.Post k a r x → ToBytes false Unlimited a.0 (held a.1.0) a.1.1.0.now r x.1.1.0.now
to_bytes_unlimited k a r x h = h

to_bytes_strict : (k : _) (a : _) (r : _) (x : _) → ToStrict.Post k a r x → ToBytes true Default a.0 (held a.1.0) a.1.1.0.now r x.1.1.0.now
to_bytes_strict k a r x h = h

to_bytes_with_limit_strict : (k : _) (a : _) (r : _) (x : _) → ToStrictLimit.Post k a r x → ToBytes true (Given a.1.0) a.0 (held a.1.1.0) a.1.1.1.0.now r x.1.1.1.0.now
to_bytes_with_limit_strict k a r x h = h

to_bytes_unlimited_strict : (k : _) (a : _) (r : _) (x : _) → ToStrictUnlimited.Post k a r x → ToBytes true Unlimited a.0 (held a.1.0) a.1.1.0.now r x.1.1.0.now
to_bytes_unlimited_strict k a r x h = h

-- Building, call by call.
build_start : (k : _) (a : _) (r : _) (x : _) → StartBuild.Post k a r x → BuildStarts a.0 a.1.0 a.1.1.0.now a.1.1.1.0.now r x.1.1.1.0.now
build_start k a r x h = h

build_option : (k : _) (a : _) (r : _) (x : _) → BuildOption.Post k a r x → Adds a.0 (record { number = a.1.0; value = a.1.1.0.now }) a.1.1.1.0.now r x.1.1.1.0.now
build_option k a r x h = h

build_payload : (k : _) (a : _) (r : _) (x : _) → BuildPayload.Post k a r x → Ends a.0 a.1.0.now a.1.1.0.now r x.1.1.0.now
build_payload k a r x h = h

-- Edits.
set_token : (k : _) (a : _) (r : _) (x : _) → SetToken.Post k a r x → Edits a.0 (token_set a.0 a.1.0) r
set_token k a r x h = h

set_payload : (k : _) (a : _) (r : _) (x : _) → SetPayload.Post k a r x → Edits a.0 (payload_set a.0 a.1.0) r
set_payload k a r x h = h

add_option : (k : _) (a : _) (r : _) (x : _) → AddOption.Post k a r x → Edits a.0 (added a.0 a.1.0 a.1.1.0) r
add_option k a r x h = h

set_option : (k : _) (a : _) (r : _) (x : _) → SetOption.Post k a r x → Edits a.0 (homed a.1.1.0.now (option_set a.0 a.1.0)) r
set_option k a r x h = h

clear_option : (k : _) (a : _) (r : _) (x : _) → ClearOption.Post k a r x → Edits a.0 (cleared a.0 a.1.0) r
clear_option k a r x h = h

clear_all_options : (k : _) (a : _) (r : _) (x : _) → ClearAll.Post k a r x → Edits a.0 (cleared_all a.0) r
clear_all_options k a r x h = h

-- The two setters.
set_content_format : (k : _) (a : _) (r : _) (x : _) → SetFormat.Post k a r x → Sets a.0 (format_set a.1.0.now a.1.1.0 a.0 a.1.1.1.0) a.1.1.0 (uint 2 a.1.1.1.0) a.1.0.now r x.1.0.now
set_content_format k a r x h = h

set_observe_value : (k : _) (a : _) (r : _) (x : _) → SetObserve.Post k a r x → Sets a.0 (observe_set a.1.0.now a.1.1.0 a.0 a.1.1.1.0) a.1.1.0 (uint 4 a.1.1.1.0) a.1.0.now r x.1.0.now
set_observe_value k a r x h = h

-- The writers of uints and of text: an answer, and the output by it.
abbrev Writes : Answer ℕ → List ℕ → List ℕ → Result ℕ Refusal → List ℕ → Type 0
Writes a bytes old r new = (written r ≡ a) × (new ≡ after a 0 bytes old)

value_into : (t : _) (l : _) (c : _) (g : _) (e : _) (f : _) (i : _) (k : _) (a : _) (r : _) (x : _) → IntoValue.Post t l c g e f i k a r x
    → Writes (fitted (length a.1.0.now) (uint g.BYTES (g.number_of a.0.0))) (uint g.BYTES (g.number_of a.0.0)) a.1.0.now r x.1.0.now
value_into t l c g e f i k a r x h = h

u8_into : (l : _) (c : _) (e : _) (f : _) (i : _) (k : _) (a : _) (r : _) (x : _) → IntoValue.Post u8 l c width_8 e f i k a r x
    → Writes (fitted (length a.1.0.now) (uint 1 a.0.0)) (uint 1 a.0.0) a.1.0.now r x.1.0.now
u8_into l c e f i k a r x h = value_into u8 l c width_8 e f i k a r x h

u16_into : (l : _) (c : _) (e : _) (f : _) (i : _) (k : _) (a : _) (r : _) (x : _) → IntoValue.Post u16 l c width_16 e f i k a r x
    → Writes (fitted (length a.1.0.now) (uint 2 a.0.0)) (uint 2 a.0.0) a.1.0.now r x.1.0.now
u16_into l c e f i k a r x h = value_into u16 l c width_16 e f i k a r x h

u32_into : (l : _) (c : _) (e : _) (f : _) (i : _) (k : _) (a : _) (r : _) (x : _) → IntoValue.Post u32 l c width_32 e f i k a r x
    → Writes (fitted (length a.1.0.now) (uint 4 a.0.0)) (uint 4 a.0.0) a.1.0.now r x.1.0.now
u32_into l c e f i k a r x h = value_into u32 l c width_32 e f i k a r x h

u64_into : (l : _) (c : _) (e : _) (f : _) (i : _) (k : _) (a : _) (r : _) (x : _) → IntoValue.Post u64 l c width_64 e f i k a r x
    → Writes (fitted (length a.1.0.now) (uint 8 a.0.0)) (uint 8 a.0.0) a.1.0.now r x.1.0.now
u64_into l c e f i k a r x h = value_into u64 l c width_64 e f i k a r x h

option_from_uint : (k : _) (a : _) (r : _) (x : _) → PutUint.Post k a r x → Writes (fitted (length a.1.0.now) (uint 8 a.0)) (uint 8 a.0) a.1.0.now r x.1.0.now
option_from_uint k a r x h = h

option_from_text : (k : _) (a : _) (r : _) (x : _) → PutText.Post k a r x → Writes (write_text (length a.1.0.now) a.0.now) a.0.now a.1.0.now r x.1.0.now
option_from_text k a r x h = h

-- Text and codes.
option_to_text : (k : _) (a : _) (r : _) (x : _) → ToText.Post k a r x → text_of r ≡ read_text a.0.now
option_to_text k a r x h = h

set_code : (k : _) (a : _) (r : _) (x : _) → SetCode.Post k a r x → setting_of a.0 r ≡ beside a.0 (with_code a.0 a.1.0.now)
set_code k a r x h = h

code_in_lem : (k : _) (a : _) (r : _) (x : _) → CodeIn.Post k a r x → code_of r ≡ code_in a.0.now
code_in_lem k a r x h = h

-- Uints, blocks, and the getters that hand a count on.
option_to_uint : (k : _) (a : _) (r : _) (x : _) → ToUint.Post k a r x → ReadsUint a.1.0 a.0.now (uint_of r)
option_to_uint k a r x h = h

value_from : (t : _) (l : _) (c : _) (g : _) (e : _) (f : _) (i : _) (k : _) (a : _) (r : _) (x : _) → FromValue.Post t l c g e f i k a r x
    → ReadsUint g.BYTES a.0.now (read_by g.number_of r)
value_from t l c g e f i k a r x h = h

u8_from : (l : _) (c : _) (e : _) (f : _) (i : _) (k : _) (a : _) (r : _) (x : _) → FromValue.Post u8 l c width_8 e f i k a r x
    → ReadsUint 1 a.0.now (read_value r)
u8_from l c e f i k a r x h = value_from u8 l c width_8 e f i k a r x h

u16_from : (l : _) (c : _) (e : _) (f : _) (i : _) (k : _) (a : _) (r : _) (x : _) → FromValue.Post u16 l c width_16 e f i k a r x
    → ReadsUint 2 a.0.now (read_value r)
u16_from l c e f i k a r x h = value_from u16 l c width_16 e f i k a r x h

u32_from : (l : _) (c : _) (e : _) (f : _) (i : _) (k : _) (a : _) (r : _) (x : _) → FromValue.Post u32 l c width_32 e f i k a r x
    → ReadsUint 4 a.0.now (read_value r)
u32_from l c e f i k a r x h = value_from u32 l c width_32 e f i k a r x h

u64_from : (l : _) (c : _) (e : _) (f : _) (i : _) (k : _) (a : _) (r : _) (x : _) → FromValue.Post u64 l c width_64 e f i k a r x
    → ReadsUint 8 a.0.now (read_value r)
u64_from l c e f i k a r x h = value_from u64 l c width_64 e f i k a r x h

get_content_format : (k : _) (a : _) (r : _) (x : _) → GetFormat.Post k a r x → GetsFormat (held a.1.0) a.0 r
get_content_format k a r x h = h

get_observe_value : (k : _) (a : _) (r : _) (x : _) → GetObserve.Post k a r x → GetsObserve (held a.1.0) a.0 r
get_observe_value k a r x h = h

block_from : (k : _) (a : _) (r : _) (x : _) → BlockFrom.Post k a r x → ReadsPlain a.0.now r
block_from k a r x h = h

block_from_strict : (k : _) (a : _) (r : _) (x : _) → BlockFromStrict.Post k a r x → ReadsStrict a.0.now r
block_from_strict k a r x h = h

block_into_strict : (k : _) (a : _) (r : _) (x : _) → BlockIntoStrict.Post k a r x
    → (written r ≡ strict_writing (length a.1.0.now) (meant a.0))
    × (x.1.0.now ≡ after (strict_writing (length a.1.0.now) (meant a.0)) 0 (block_bytes (meant a.0)) a.1.0.now)
block_into_strict k a r x h = (h.0, h.1)

block_new_strict : (k : _) (a : _) (r : _) (x : _) → BlockNewStrict.Post k a r x → built r ≡ strict_new a.0 a.1.0 a.1.1.0
block_new_strict k a r x h = h

-- The register check, frames and plans.
check : (k : _) (a : _) (r : _) (x : _) → CheckRegister.Post k a r x → Checks (lengths_of (held a.1.0)) a.0 r
check k a r x h = h

to_frame : (k : _) (a : _) (r : _) (x : _) → FrameOut.Post k a r x → ToFrame a.0.now a.1.0.now r x.1.0.now
to_frame k a r x h = h

from_frame : (k : _) (a : _) (r : _) (x : _) → FrameBack.Post k a r x → FromFrame a.1.0 a.1.1.0 a.0.now a.1.1.1.0.now r x.1.1.1.0.now
from_frame k a r x h = h

check_plan : (k : _) (a : _) (r : _) (x : _) → CheckPlan.Post k a r x → ChecksPlan a.0 a.1.0.now a.1.1.0.now r
check_plan k a r x h = h

plan : (k : _) (a : _) (r : _) (x : _) → MakePlan.Post k a r x → Plans a.0 a.1.0.now a.1.1.0.now r x.1.1.0.now
plan k a r x h = h

-- Freeze streams.
judge_chunks : (k : _) (a : _) (r : _) (x : _) → JudgeInChunks.Post k a r x → JudgesChunks a.0 a.1.0.now a.1.1.0 a.1.1.1.0 r
judge_chunks k a r x h = h

next_message : (k : _) (a : _) (r : _) (x : _) → TakeMessage.Post k a r x → NextMessage a.0 a.1.0.now a.1.1.0 a.1.1.1.0.now a.1.1.1.1.0 r x.1.1.1.0.now
next_message k a r x h = h

judge_strictly : (k : _) (a : _) (r : _) (x : _) → JudgeStream.Post k a r x → Strictly a.0 a.1.0 a.1.1.0.now r
judge_strictly k a r x h = h

thaw : (k : _) (a : _) (r : _) (x : _) → ThawStream.Post k a r x → Thaws a.0 a.1.0.now a.1.1.0.now a.1.1.1.0.now r x.1.1.0.now x.1.1.1.0.now
thaw k a r x h = h

freeze : (k : _) (a : _) (r : _) (x : _) → FreezePacket.Post k a r x → Freezes a.0 a.1.0 a.1.1.0 (held a.1.1.1.0) a.1.1.1.1.0.now a.1.1.1.1.1.0 r x.1.1.1.1.0.now
freeze k a r x h = h

-- Conversions of streams.
convert : (k : _) (a : _) (r : _) (x : _) → ConvertStream.Post k a r x → Converts (converted a.0 a.1.0.now) a.1.1.0.now r x.1.1.0.now
convert k a r x h = h

-- Peers as text.
put_peer : (k : _) (a : _) (r : _) (x : _) → PutPeer.Post k a r x → Puts a.0.now a.1.0 (peer_text a.1.1.0) r x.0.now
put_peer k a r x h = h

peer_in_lem : (k : _) (a : _) (r : _) (x : _) → ReadPeer.Post k a r x → ReadsPeer (peer_in a.0.now) r
peer_in_lem k a r x h = h

-- Compaction.
compact : (k : _) (a : _) (r : _) (x : _) → Compact.Post k a r x → Compacts a.0 (stores a.1.0.now a.1.1.0.now) a.1.1.1.0.now r x.1.1.0.now x.1.1.1.0.now
compact k a r x h = h

-- Messages over a table.
hear : (k : _) (a : _) (r : _) (x : _) → HearMessage.Post k a r x → Hears a.1.0 (arrival a.1.1.0 (number_of_type a.1.1.1.0) a.1.1.1.1.0 a.1.1.1.1.1.0) a.0.now r x.0.now
hear k a r x h = h

clear : (k : _) (a : _) (r : _) (x : _) → ClearTable.Post k a r x → Clears a.0.now r x.0.now
clear k a r x h = h

-- Traces, and their replay.
form_of_lem : (k : _) (a : _) (r : _) (x : _) → FormOf.Post k a r x → r ≡ form_of a.0.now
form_of_lem k a r x h = h

judge_trace : (k : _) (a : _) (r : _) (x : _) → JudgeTrace.Post k a r x → Judges a.0.now r
judge_trace k a r x h = h

strict_timed_at_lem : (k : _) (a : _) (r : _) (x : _) → StrictTimedAt.Post k a r x → step_read r ≡ strict_timed_at a.0 a.1.0.now a.1.1.0
strict_timed_at_lem k a r x h = h

timed_at_lem : (k : _) (a : _) (r : _) (x : _) → TimedAt.Post k a r x → timed_read r ≡ timed_extent (timed_at a.0 a.1.0.now a.1.1.0)
timed_at_lem k a r x h = h

arrival_at_lem : (k : _) (a : _) (r : _) (x : _) → ArrivalAt.Post k a r x → arrived_in r ≡ beside no_arrival (arrival_at a.0 a.1.0.now a.1.1.0)
arrival_at_lem k a r x h = h

replay : (k : _) (a : _) (r : _) (x : _) → ReplayTrace.Post k a r x → Replays a.0.now a.1.0.now a.1.1.0.now r x.1.0.now x.1.1.0.now
replay k a r x h = h

-- Paths and queries as text.
write_target : (k : _) (a : _) (r : _) (x : _) → WriteTarget.Post k a r x → WritesTarget (held a.1.0) a.0 a.1.1.0.now r x.1.1.0.now
write_target k a r x h = h

read_target : (k : _) (a : _) (r : _) (x : _) → ReadTarget.Post k a r x → FromText a.0.now a.1.1.0 a.1.0.now r x.1.0.now
read_target k a r x h = h
