-- Messages built call by call: what calls that are all answered leave in the output is the layout of the message with those parts,
-- which is what writing writes, and they refuse nothing that writing takes; what strict mode built is well-formed, and read back.
use Rattle.std.specs.Prelude.{ℕ, ◌<◌, ◌≤◌, ◌≡◌, Bool, true, List, [], ◌∷◌, take, Result, Ok, Err}
use Rattle.ground.specs.Part.{Bytes}
use Rattle.rfc.specs.Message.{Message, Opt, WellFormed, layout}
use Rattle.refusal.specs.Answer.{Answer}
use Rattle.refusal.specs.declared.Refusal.{Refusal}
use Rattle.class.specs.Class.{byte_of}
use Rattle.header.specs.Header.{number_of_type}
use Rattle.header.specs.declared.Header.{Header}
use Rattle.packet.specs.Limits.{max_store}
use Rattle.packet.specs.Packet.{Stores, stores}
use Rattle.packet.specs.Meaning.{meaning}
use Rattle.packet.specs.declared.Packet.{Packet}
use Rattle.reading.specs.Reading.{FromBytes}
use Rattle.measuring.specs.declared.Limit.TheVariants.{Unlimited}
use Rattle.writing.specs.Writing.{ToBytes, bytes_written}
use Rattle.laying.specs.Laying.{Lays}
use Rattle.building.specs.Building.{built_of, Builds, Starts, Adds, Ends, empty_in, sent_by}
use Rattle.building.specs.declared.Builder.{Builder}
use Rattle.guarantees.specs.Apart.{TellsApart}
use Rattle.guarantees.specs.Wrote.{Wrote}

-- What is handed to the calls.
pub record Parts : Type 0 where
  pub header : Header
  pub token : List ℕ
  pub options : List Opt
  pub payload : List ℕ

-- The message with these parts.
abbrev pub whole : Parts → Message
whole p =
    record {
      version = p.header.version;
      type = number_of_type p.header.message_type;
      code = byte_of p.header.code;
      id = p.header.message_id;
      token = p.token;
      options = p.options;
      payload = p.payload;
    }

-- The message that is sent: plain drops the payload of an empty one.
abbrev pub sent_whole : Bool → Parts → Message
sent_whole strict p =
    record {
      version = p.header.version;
      type = number_of_type p.header.message_type;
      code = byte_of p.header.code;
      id = p.header.message_id;
      token = p.token;
      options = p.options;
      payload = sent_by (empty_in strict p.header.code) p.payload;
    }

-- Options are added one after the other and each call is answered: from a builder and an output to the last ones.
abbrev pub AddsAll : Builder → List ℕ → List Opt → Builder → List ℕ → Type 0
AddsAll b out [] last new = (last ≡ b) × (new ≡ out)
AddsAll b out (o ∷ os) last new = (next : Builder) × (mid : List ℕ) × Adds b o out (Ok next) mid × AddsAll next mid os last new

-- A run of calls that are all answered: header and token, the options, the payload. A call that is refused leaves the output as
-- it was (`BuildKept`), so a caller may make another in its place: the run is that of the calls that were answered.
pub record Run (strict : Bool) (parts : Parts) (old : List ℕ) (n : ℕ) (new : List ℕ) : Type 0 where
  pub first : Builder
  pub headed : List ℕ
  pub starts : Starts strict parts.header parts.token old (Ok first) headed
  pub last : Builder
  pub filled : List ℕ
  pub adds : AddsAll first headed parts.options last filled
  pub ends : Ends last parts.payload filled (Ok n) new

-- What was built is the layout of the message that is sent: it stands at the start of the output, its length is the answer, and
-- the bytes after it are as they were.
abbrev pub BuildsLayout : Type 0
BuildsLayout =
    (strict : Bool) (parts : Parts) (old : List ℕ) (n : ℕ) (new : List ℕ) → Run strict parts old n new
    → Wrote (layout (sent_whole strict parts)) old (Ok n) new

-- It is what writing gives: a packet with that header which means these parts, over any two stores, has those bytes; and where
-- writing without a limit, in the same mode and into the same output, isn't refused, its answer and its output are the builder's.
abbrev pub BuildsAsWriting : Type 0
BuildsAsWriting =
    (strict : Bool) (parts : Parts) (old : List ℕ) (n : ℕ) (new : List ℕ) → Run strict parts old n new
    → (p : Packet) (s : Stores) → p.header ≡ parts.header → meaning s p ≡ whole parts
    → (bytes_written strict s p ≡ layout (sent_whole strict parts))
    × ((r : Result ℕ Refusal) (also : List ℕ) → ToBytes strict Unlimited p s old r also → (k : ℕ) → r ≡ Ok k → (k ≡ n) × (also ≡ new))

-- The calls refuse nothing that writing takes: where writing such a packet is answered, each of the calls is, and they leave what
-- it leaves.
abbrev pub BuildsAllWritten : Type 0
BuildsAllWritten =
    (strict : Bool) (parts : Parts) (p : Packet) (s : Stores) → p.header ≡ parts.header → meaning s p ≡ whole parts
    → (old : List ℕ) (r : Result ℕ Refusal) (new : List ℕ) → ToBytes strict Unlimited p s old r new → (n : ℕ) → r ≡ Ok n → Run strict parts old n new

-- Each option has a number of 16 bits and a value of bytes.
abbrev pub TypedOptions : List Opt → Type 0
TypedOptions [] = Unit {0}
TypedOptions (o ∷ os) = (o.number < 65536) × Bytes o.value × TypedOptions os

-- What the types say of the parts that a caller can hand over.
pub record Typed (parts : Parts) : Type 0 where
  pub code : byte_of parts.header.code < 256
  pub id : parts.header.message_id < 65536
  pub token : Bytes parts.token
  pub options : TypedOptions parts.options
  pub payload : Bytes parts.payload

-- What strict mode built is the layout of a well-formed message, that with all the parts.
abbrev pub BuildsWellFormed : Type 0
BuildsWellFormed =
    (parts : Parts) → Typed parts → (old : List ℕ) (n : ℕ) (new : List ℕ) → Run true parts old n new
    → WellFormed (whole parts) × Wrote (layout (whole parts)) old (Ok n) new

-- So strict reading accepts it, where it has at most 70,000 bytes, and answers that message, beside any edit store.
abbrev pub BuiltThenRead : Type 0
BuiltThenRead =
    (parts : Parts) → Typed parts → (old : List ℕ) (n : ℕ) (new : List ℕ) → Run true parts old n new → n ≤ max_store
    → (d : Result Packet Refusal) → FromBytes true (take n new) d
    → (q : Packet) × (d ≡ Ok q) × ((edits : List ℕ) → meaning (stores (take n new) edits) q ≡ whole parts)

-- A refused call of a builder, for header and token, for an option or for the payload, leaves the output as it was.
abbrev pub BuildKept : Type 0
BuildKept =
    ((a : Answer Builder) (at : ℕ) (bytes old : List ℕ) (r : Result Builder Refusal) (new : List ℕ) → Builds a at bytes old r new
    → (e : Refusal) → r ≡ Err e → new ≡ old)
    × ((b : Builder) (payload old : List ℕ) (r : Result ℕ Refusal) (new : List ℕ) → Ends b payload old r new → (e : Refusal) → r ≡ Err e → new ≡ old)

-- Every definition that a promise of a builder tells its answer by tells answers apart.
pub record ToldApart : Type 0 where
  pub builders : TellsApart built_of

-- So a call of a builder has one answer and leaves one output, and so has a piece that is laid.
abbrev pub OneBuild : Type 0
OneBuild =
    (a : Answer Builder) (at : ℕ) (bytes old : List ℕ) (r q : Result Builder Refusal) (new also : List ℕ) → Builds a at bytes old r new
    → Builds a at bytes old q also → (r ≡ q) × (new ≡ also)

abbrev pub OnePiece : Type 0
OnePiece =
    (a : Answer ℕ) (at : ℕ) (bytes old : List ℕ) (r q : Result ℕ Refusal) (new also : List ℕ) → Lays a at bytes old r new
    → Lays a at bytes old q also → (r ≡ q) × (new ≡ also)
