-- Compaction: what is kept, what is freed, and what a second compaction and every writer answer of what it leaves.
use Prim.Native.Nat.{ℕ, ◌+◌, ◌≤◌}
use mathlib.Core.Path.{◌≡◌, refl, sym, ap, subst, ◌∙◌}
use mathlib.Core.Bool.{Bool, true, false}
use mathlib.Core.List.{List, [], ◌∷◌, ◌++◌}
use mathlib.Core.Logic.{inl}
use native.Mathlib.Omega.{arith}
use lib.ListN.{length, take, drop, take-append-drop}
use lib.Seq.{take_at, drop_at}
use Rattle.std.specs.Prelude.{Result, Ok, Err}
use Rattle.ground.proofs.Choice.{on_le}
use Rattle.rfc.specs.Message.{Message, layout}
use Rattle.refusal.specs.Answer.{given, refused, after}
use Rattle.refusal.specs.Number.{number_of}
use Rattle.refusal.specs.declared.Refusal.{Refusal}
use Rattle.refusal.proofs.Answers.{not_refused, same_given, same_refused}
use Rattle.refusal.proofs.Distinct.{distinct, one_written}
use Rattle.class.specs.declared.MessageClass.{MessageClass}
use Rattle.class.specs.declared.MessageClass.TheVariants.{Empty, Request, Response, Reserved}
use Rattle.packet.specs.Limits.{max_store}
use Rattle.packet.specs.Packet.{Stores, stores, bytes_in, bytes_of, records_of}
use Rattle.packet.specs.Meaning.{meaning}
use Rattle.packet.specs.Shape.{Shaped}
use Rattle.packet.specs.declared.Packet.{Packet}
use Rattle.packet.specs.declared.OptionRecord.{OptionRecord}
use Rattle.packet.specs.declared.Range.{Range}
use Rattle.judging.specs.Judge.{lengths_of, options_size}
use Rattle.judging.proofs.Good.{not_bad}
use Rattle.measuring.specs.Measuring.{sent_payload, strictly, sized}
use Rattle.measuring.specs.declared.Limit.{Limit}
use Rattle.measuring.proofs.Sizes.{measured_good}
use Rattle.writing.specs.Writing.{bytes_written, writing, ToBytes}
use Rattle.writing.proofs.Answers.{writing_measured}
use Rattle.typed_options.specs.Apart.{AllApart, Untouched}
use Rattle.compacting.specs.Compacting.{live_bytes, values_length, relaid, relocated, compacting, end_given, packet_left, Compacts}
use Rattle.compacting.specs.declared.Compacted.{Compacted}
use Rattle.compacting.proofs.Relaid.{relaid_size, relocated_records, relocated_again}
use Rattle.compacting.proofs.Kept.{meaning_kept}
use Rattle.compacting.proofs.Done.{Done, done, counted, short_then, good_then, again, live_then}
use Rattle.guarantees.specs.Compaction.{GivesBack, Compaction, CompactionLeaves, CompactionKept, OneCompaction}
use Rattle.guarantees.proofs.Homes.{frozen_stays}
use Rattle.guarantees.proofs.Refusals.{kept_by}

-- Records relaid up to a place are apart from what is put there or after it.
relaid_apart : (start len at : ℕ) (rs : List OptionRecord) → at + values_length rs ≤ start → AllApart start len (relaid at rs)
relaid_apart start len at [] h = tt
relaid_apart start len at (r ∷ rs) h = (inl (omega arith), relaid_apart start len (at + r.len) rs (omega arith))

-- What is sent of a payload that says the same has the same length and the same bytes.
sent_length : (strict : Bool) (class : MessageClass) (a b : Range) → a.len ≡ b.len → (sent_payload strict class a).len ≡ (sent_payload strict class b).len
sent_length true class a b e = e
sent_length false Empty a b e = refl
sent_length false (Request r) a b e = e
sent_length false (Response r) a b e = e
sent_length false (Reserved r) a b e = e

no_bytes : (l : List ℕ) → bytes_in l 0 0 ≡ []
unfolding bytes_in
no_bytes l = on_le (λ (b : List ℕ). b ≡ []) 0 (length l) (λ h. refl) (λ h. refl)

sent_bytes : (s t : Stores) (strict : Bool) (class : MessageClass) (a b : Range) → bytes_of t b ≡ bytes_of s a
    → bytes_of t (sent_payload strict class b) ≡ bytes_of s (sent_payload strict class a)
sent_bytes s t true class a b e = e
sent_bytes s t false Empty a b e = no_bytes t.datagram ∙ sym (no_bytes s.datagram)
sent_bytes s t false (Request r) a b e = e
sent_bytes s t false (Response r) a b e = e
sent_bytes s t false (Reserved r) a b e = e

-- So two packets of one header that mean the same are sent as the same bytes.
same_bytes : (strict : Bool) (s t : Stores) (p q : Packet) → q.header ≡ p.header → meaning t q ≡ meaning s p → bytes_written strict t q ≡ bytes_written strict s p
same_bytes strict s t p q h m =
    let payload : bytes_of t (sent_payload strict q.header.code q.payload) ≡ bytes_of s (sent_payload strict p.header.code p.payload) = ap (λ x. bytes_of t (sent_payload strict x.code q.payload)) h ∙ sent_bytes s t strict p.header.code p.payload q.payload (ap (λ (x : Message). x.payload) m) in
    λ k. layout (record { version = (m k).version; type = (m k).type; code = (m k).code; id = (m k).id; token = (m k).token; options = (m k).options; payload = payload k })

module _ (p : Packet) (shaped : Shaped p) (s : Stores) (second : List ℕ) (edits buffer : List ℕ) (r : Compacted) (c : Compacts p s second (Ok r) edits buffer) where
  w : Done p s second r edits buffer
  w = done p s second r edits buffer c

  used : length (records_of p) ≡ p.count
  used = counted p shaped.array s second r edits buffer w

  -- An edit store that is the same up to the end begins with the live bytes.
  begins : (e : List ℕ) → take r.end e ≡ take r.end edits → e ≡ live_bytes s p ++ drop r.end e
  begins e t =
      sym (take-append-drop r.end e)
      ∙ ap (λ (l : List ℕ). l ++ drop r.end e) (t ∙ (ap (take r.end) w.edits ∙ take_at (live_bytes s p) (drop r.end s.edits) r.end w.long))

  kept : (d e : List ℕ) → take r.end e ≡ take r.end edits → meaning (stores d e) r.packet ≡ meaning s p
  kept d e t = ap (meaning (stores d e)) w.packet ∙ meaning_kept s p w.good used d e (drop r.end e) (begins e t)

  freed : (start len : ℕ) → r.end ≤ start → Untouched start len r.packet (records_of r.packet)
  freed start len f =
      rw (w.packet, relocated_records p used)
      (record {
        token = inl (omega (arith, w.fits.sum));
        options = relaid_apart start len p.token.len (records_of p) (omega (arith, w.fits.sum));
        payload = inl (omega (arith, w.fits.sum));
      })

  module _ (d : List ℕ) (short : length d ≤ max_store) where
    abbrev then : Stores
    then = stores d edits

    -- A second compaction.
    second_time : (other : List ℕ) → r.end ≤ length other → (q : Result Compacted Refusal) (e b : List ℕ) → Compacts r.packet then other q e b
        → (q ≡ Ok r) × (e ≡ edits) × (b ≡ live_bytes s p ++ drop r.end other)
    second_time other room (Err k) e b x =
        let y : Compacts (relocated p) then other (Err k) e b = rw w.packet at x in
        not_refused (sym (again p shaped.array s second r edits buffer w d short (length other) room) ∙ sym y.answer)
    second_time other room (Ok q) e b x =
        let y : Compacts (relocated p) then other (Ok q) e b = rw w.packet at x in
        let a : compacting (lengths_of then) (length other) (relocated p) ≡ given r.end = again p shaped.array s second r edits buffer w d short (length other) room in
        let end : q.end ≡ r.end = same_given (y.answer ∙ a) in
        let z = done (relocated p) then other q e b y in
        let live = live_then p shaped.array s second r edits buffer w d short in
        let packet : q.packet ≡ r.packet = z.packet ∙ (relocated_again p used ∙ sym w.packet) in
        let rest : drop q.end edits ≡ drop r.end s.edits = ap (λ (k : ℕ). drop k edits) end ∙ (ap (drop r.end) w.edits ∙ drop_at (live_bytes s p) (drop r.end s.edits) r.end w.long) in (
          λ k. Ok (record { end = end k; packet = packet k }),
          z.edits ∙ ((λ k. live k ++ rest k) ∙ sym w.edits),
          z.buffer ∙ (λ k. live k ++ drop (end k) other),
        )

    -- What a writer answers: the sizes are those that they were.
    same_sizes : (strict : Bool) (limit : Limit) (room : ℕ) → sized strict limit room (relocated p) ≡ sized strict limit room p
    unfolding strictly
    same_sizes strict limit room =
        let o : options_size 0 (records_of (relocated p)) ≡ options_size 0 (records_of p) = ap (options_size 0) (relocated_records p used) ∙ relaid_size 0 p.token.len (records_of p) in
        let l : (sent_payload strict p.header.code (relocated p).payload).len ≡ (sent_payload strict p.header.code p.payload).len = sent_length strict p.header.code (relocated p).payload p.payload refl in
        rw (o, l) refl

    same_answer : (strict : Bool) (limit : Limit) (room : ℕ) → writing strict limit room then r.packet ≡ writing strict limit room s p
    same_answer strict limit room =
        ap (writing strict limit room then) w.packet
        ∙ (writing_measured strict limit room then (relocated p)
        ∙ (measured_good strict limit room (lengths_of then) (relocated p) (short_then p shaped.array s second r edits buffer w d short) (not_bad (lengths_of then) (relocated p) (good_then p shaped.array s second r edits buffer w d short))
        ∙ (same_sizes strict limit room
        ∙ sym (writing_measured strict limit room s p ∙ measured_good strict limit room (lengths_of s) p w.fits.short w.fits.sound))))

    same_written : (strict : Bool) (limit : Limit) (old : List ℕ) (x v : Result ℕ Refusal) (new other : List ℕ) → ToBytes strict limit p s old x new
        → ToBytes strict limit r.packet then old v other → (x ≡ v) × (new ≡ other)
    same_written strict limit old x v new other a b =
        let answer = same_answer strict limit (length old) in
        let bytes = same_bytes strict s then p r.packet (ap (λ (q : Packet). q.header) w.packet) (kept d edits refl) in
        (one_written x v (a.answer ∙ sym (b.answer ∙ answer)), a.output ∙ sym (b.output ∙ (λ k. after (answer k) 0 (bytes k) old)))

  gives_back : GivesBack p s second r edits buffer
  gives_back =
      record {
        end = w.fits.sum;
        store_bytes = w.edits;
        buffer_bytes = w.buffer;
        means = kept;
        freed = freed;
        again = second_time;
        writes = same_written;
      }

pub compaction : Compaction
compaction p shaped s second q edits buffer r c is =
    gives_back p shaped s second edits buffer r (subst (λ (x : Result Compacted Refusal). Compacts p s second x edits buffer) is c)

pub compaction_leaves : CompactionLeaves
compaction_leaves p s second r edits buffer promise range e = frozen_stays s.datagram s.edits edits range e

pub compaction_kept : CompactionKept
compaction_kept p s second r edits buffer c e is =
    let a = compacting (lengths_of s) (length second) p in
    let no : a ≡ refused (number_of e) = sym c.answer ∙ ap end_given is in
    (ap (packet_left p) is, kept_by a 0 (live_bytes s p) s.edits edits (number_of e) no c.edits, kept_by a 0 (live_bytes s p) second buffer (number_of e) no c.buffer)

-- What two compactions that meet the promise answer.
one_answer : (p : Packet) (r q : Result Compacted Refusal) → end_given r ≡ end_given q → packet_left p r ≡ packet_left p q → r ≡ q
one_answer p (Ok r) (Ok q) e h =
    let end : r.end ≡ q.end = same_given e in
    λ k. Ok (record { end = end k; packet = h k })
one_answer p (Ok r) (Err y) e h = not_refused e
one_answer p (Err x) (Ok q) e h = not_refused (sym e)
one_answer p (Err x) (Err y) e h = ap Err (distinct x y (same_refused e))

pub one_compaction : OneCompaction
one_compaction p s second r q edits also buffer other c x = (
  one_answer p r q (c.answer ∙ sym x.answer) (c.packet ∙ sym x.packet),
  c.edits ∙ sym x.edits,
  c.buffer ∙ sym x.buffer,
)
