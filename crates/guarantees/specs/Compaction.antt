-- Compaction: the packet means what it meant, its bytes stand end to end from the start of the edit store, and what stands after
-- the new end may be used for new values.
use Rattle.std.specs.Prelude.{ℕ, ◌≤◌, ◌≡◌, Bool, List, ◌++◌, length, take, drop, Result, Ok, Err}
use Rattle.refusal.specs.declared.Refusal.{Refusal}
use Rattle.packet.specs.Limits.{max_store}
use Rattle.packet.specs.Packet.{Stores, stores, bytes_of, records_of}
use Rattle.packet.specs.Meaning.{meaning}
use Rattle.packet.specs.Shape.{Shaped}
use Rattle.packet.specs.declared.Packet.{Packet}
use Rattle.packet.specs.declared.Range.{Range}
use Rattle.packet.specs.declared.Home.TheVariants.{Datagram}
use Rattle.measuring.specs.declared.Limit.{Limit}
use Rattle.writing.specs.Writing.{ToBytes}
use Rattle.typed_options.specs.Apart.{Untouched}
use Rattle.compacting.specs.Compacting.{live_bytes, live_length, packet_left, Compacts}
use Rattle.compacting.specs.declared.Compacted.{Compacted}

-- What a compaction leaves that isn't refused: a new end, a packet, an edit store and a second buffer.
pub record GivesBack (p : Packet) (s : Stores) (second : List ℕ) (r : Compacted) (edits buffer : List ℕ) : Type 0 where
  -- The end is the sum of the lengths of token, values and payload.
  pub end : r.end ≡ live_length p
  -- Both begin with the live bytes, and from the end on are as they were.
  pub store_bytes : edits ≡ live_bytes s p ++ drop r.end s.edits
  pub buffer_bytes : buffer ≡ live_bytes s p ++ drop r.end second
  -- The packet means what it meant, beside any datagram, and over any edit store that is the same up to the end.
  pub means : (d e : List ℕ) → take r.end e ≡ take r.end edits → meaning (stores d e) r.packet ≡ meaning s p
  -- So room is freed: what is put at the end or after it touches none of its ranges.
  pub freed : (start len : ℕ) → r.end ≤ start → Untouched start len r.packet (records_of r.packet)
  -- Compacted again, with a second buffer that has room, it answers the same packet and end, and leaves the same bytes.
  pub again : (d : List ℕ) → length d ≤ max_store → (other : List ℕ) → r.end ≤ length other → (q : Result Compacted Refusal) (e b : List ℕ)
      → Compacts r.packet (stores d edits) other q e b → (q ≡ Ok r) × (e ≡ edits) × (b ≡ live_bytes s p ++ drop r.end other)
  -- Each writer, plain or strict, at every limit and into every output, answers and writes the same as before.
  pub writes : (d : List ℕ) → length d ≤ max_store → (strict : Bool) (limit : Limit) (old : List ℕ) (w v : Result ℕ Refusal) (new other : List ℕ)
      → ToBytes strict limit p s old w new → ToBytes strict limit r.packet (stores d edits) old v other → (w ≡ v) × (new ≡ other)

-- So it is of every packet, two stores, second buffer, and answer that meets the promise.
abbrev pub Compaction : Type 0
Compaction =
    (p : Packet) → Shaped p → (s : Stores) (second : List ℕ) (q : Result Compacted Refusal) (edits buffer : List ℕ) (r : Compacted)
    → Compacts p s second q edits buffer → q ≡ Ok r → GivesBack p s second r edits buffer

-- Compaction, done or refused, leaves what every range of the datagram names.
abbrev pub CompactionLeaves : Type 0
CompactionLeaves =
    (p : Packet) (s : Stores) (second : List ℕ) (r : Result Compacted Refusal) (edits buffer : List ℕ) → Compacts p s second r edits buffer
    → (range : Range) → range.home ≡ Datagram → bytes_of (stores s.datagram edits) range ≡ bytes_of s range

-- Beside a refused compaction stands the packet as it came, and it leaves edit store and second buffer as they were.
abbrev pub CompactionKept : Type 0
CompactionKept =
    (p : Packet) (s : Stores) (second : List ℕ) (r : Result Compacted Refusal) (edits buffer : List ℕ) → Compacts p s second r edits buffer
    → (e : Refusal) → r ≡ Err e → (packet_left p r ≡ p) × (edits ≡ s.edits) × (buffer ≡ second)

-- A compaction has one answer, and leaves one edit store and one second buffer.
abbrev pub OneCompaction : Type 0
OneCompaction =
    (p : Packet) (s : Stores) (second : List ℕ) (r q : Result Compacted Refusal) (edits also buffer other : List ℕ) → Compacts p s second r edits buffer
    → Compacts p s second q also other → (r ≡ q) × (edits ≡ also) × (buffer ≡ other)
