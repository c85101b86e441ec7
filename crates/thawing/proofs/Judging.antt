-- Judging a stream with its datagrams: what is known before each message, and how a turn goes.
use Prim.Native.Nat.{ℕ, suc, ◌+◌, ◌<◌, ◌≤◌}
use mathlib.Core.Path.{◌≡◌, refl, sym, ap, ◌∙◌}
use mathlib.Core.Bool.{true}
use mathlib.Core.List.{List, ◌∷◌, ◌++◌}
use native.Mathlib.Nat.{zero-add, add-zero}
use native.Mathlib.Omega.{arith}
use lib.ListN.{length, length-append}
use Rattle.refusal.specs.Answer.{Answer, given, refused, onward}
use Rattle.refusal.proofs.Answers.{not_refused, same_refused}
use Rattle.packet.specs.declared.Packet.{Packet}
use Rattle.reading.specs.Reading.{reading}
use Rattle.stream.specs.declared.Form.{Form}
use Rattle.stream.specs.declared.Form.TheVariants.{Old, New}
use Rattle.stream.specs.Stream.{Frozen, chunk_count, datagrams_of}
use Rattle.stream.specs.Messages.{Found, message_at, messages_from}
use Rattle.stream.specs.Answers.{Tally, tally}
use Rattle.stream.proofs.From.{from_end, from_more, from_bad}
use Rattle.thawing.specs.Message.{strict_at}
use Rattle.thawing.specs.Thawing.{all_strict, strict, chunks_in, Counts, counts_of, strict_from}
use Rattle.thawing.proofs.Accepting.{Accepted, bad_datagram}

-- One strict datagram before others.
strict_by : (m : Frozen) (p : Packet) (l : List Frozen) (a : Answer (Unit {0})) → onward a (λ _. given (m ∷ l)) ≡ onward (onward a (λ _. given l)) (λ r. given (m ∷ r))
strict_by m p l (given _) = refl
strict_by m p l (refused k) = refl

strict_more : (m : Frozen) (p : Packet) → reading true m.datagram ≡ given p → (a : Answer (List Frozen)) → onward (onward a (λ l. given (m ∷ l))) strict ≡ onward (onward a strict) (λ l. given (m ∷ l))
unfolding strict
strict_more m p e (given l) = rw e (strict_by m p l (all_strict l))
strict_more m p e (refused k) = refl

-- Counts of messages that were passed, put before those of an answer.
abbrev pub plus_counts : ℕ → ℕ → ℕ → Answer Counts → Answer Counts
plus_counts c b k (given t) = given (record { count = c + t.count; bytes = b + t.bytes; chunks = k + t.chunks })
plus_counts c b k (refused n) = refused n

counts_are : (c b k c' b' k' : ℕ) → c ≡ c' → b ≡ b' → k ≡ k' → ◌≡◌ {A = Answer Counts} (given (record { count = c; bytes = b; chunks = k })) (given (record { count = c'; bytes = b'; chunks = k' }))
counts_are c b k c' b' k' p q r = rw (p, q, r) refl

counts_none : (a : Answer Counts) → a ≡ plus_counts 0 0 0 a
counts_none (given t) = counts_are t.count t.bytes t.chunks _ _ _ (sym (zero-add t.count)) (sym (zero-add t.bytes)) (sym (zero-add t.chunks))
counts_none (refused k) = refl

counts_more : (other : Form) (c b k : ℕ) (m : Frozen) (a : Answer (List Frozen))
    → plus_counts c b k (counts_of other (onward a (λ l. given (m ∷ l)))) ≡ plus_counts (c + 1) (b + length m.datagram) (k + chunk_count other (length m.datagram)) (counts_of other a)
counts_more other c b k m (given l) =
    let n : ℕ = chunk_count other (length m.datagram) in
    counts_are (c + suc (length l)) (b + length (m.datagram ++ datagrams_of l)) (k + (n + chunks_in other l)) (c + 1 + length l) (b + length m.datagram + length (datagrams_of l)) (k + n + chunks_in other l)
    (omega arith) (omega (arith, length-append m.datagram (datagrams_of l))) (omega arith)
counts_more other c b k m (refused n) = refl

-- A datagram has no more chunks than bytes.
pub few_chunks : (form : Form) (n : ℕ) → chunk_count form n ≤ n
few_chunks Old n = omega arith
few_chunks New n = omega arith

module _ (form : Form) (s : List ℕ) where
  -- Before a message: the whole answer is the counts so far put before those from here.
  pub record StrictWalk (other : Form) (count bytes chunks at : ℕ) : Type 0 where
    pub few : count ≤ at
    pub short : bytes ≤ at
    pub chunked : chunks ≤ at
    pub whole : strict_from form other s 0 ≡ plus_counts count bytes chunks (strict_from form other s at)

  pub strict_start : (other : Form) → StrictWalk other 0 0 0 0
  strict_start other = record { few = omega arith; short = omega arith; chunked = omega arith; whole = counts_none (strict_from form other s 0) }

  module _ (other : Form) (count bytes chunks at : ℕ) (w : StrictWalk other count bytes chunks at) where
    pub strict_ends : length s ≤ at → given (record { count = count; bytes = bytes; chunks = chunks }) ≡ strict_from form other s 0
    unfolding strict
    strict_ends h =
        sym (w.whole ∙ (ap (λ (a : Answer (List Frozen)). plus_counts count bytes chunks (counts_of other (onward a strict))) (from_end form s at h)
        ∙ counts_are (count + 0) (bytes + 0) (chunks + 0) count bytes chunks (add-zero count) (add-zero bytes) (add-zero chunks)))

    pub strict_stops : (k : ℕ) → onward (messages_from form s at) strict ≡ refused k → refused k ≡ strict_from form other s 0
    strict_stops k e = sym (w.whole ∙ ap (λ (a : Answer (List Frozen)). plus_counts count bytes chunks (counts_of other a)) e)

    module _ (len next : ℕ) (h : at < length s) (o : Accepted form s at len next) where
      pub strict_room : at + len < next
      strict_room = omega (arith, o.whole.stands.room, o.whole.length_is, o.whole.next_is)

      pub strict_turn : (n : ℕ) → n ≡ chunk_count other len → StrictWalk other (count + 1) (bytes + len) (chunks + n) next
      strict_turn n e =
          let m : Found = o.whole.found in
          let d : List ℕ = m.message.datagram in
          record {
            few = omega (arith, w.few, strict_room);
            short = omega (arith, w.short, strict_room);
            chunked = omega (arith, w.chunked, strict_room, few_chunks other len);
            whole = w.whole
                ∙ (ap (λ (a : Answer (List Frozen)). plus_counts count bytes chunks (counts_of other (onward a strict))) (from_more form s at m h o.whole.is)
                ∙ (ap (λ (a : Answer (List Frozen)). plus_counts count bytes chunks (counts_of other a)) (strict_more m.message o.packet o.reads (messages_from form s m.next))
                ∙ (counts_more other count bytes chunks m.message (onward (messages_from form s m.next) strict)
                ∙ (ap (λ (k : ℕ). plus_counts (count + 1) (bytes + k) (chunks + chunk_count other k) (strict_from form other s m.next)) o.whole.length_is
                ∙ (ap (λ (k : ℕ). plus_counts (count + 1) (bytes + len) (chunks + k) (strict_from form other s m.next)) (sym e)
                ∙ ap (λ (k : ℕ). plus_counts (count + 1) (bytes + len) (chunks + n) (strict_from form other s k)) o.whole.next_is)))));
          }

  -- Where the stream is refused from a position on, it is for that.
  tally_refused : (k : ℕ) (a : Answer (List Frozen)) → refused k ≡ tally a → a ≡ refused k
  tally_refused k (given l) e = not_refused (sym e)
  tally_refused k (refused j) e = ap refused (same_refused (sym e))

  pub refused_stream : (at k : ℕ) → refused k ≡ tally (messages_from form s at) → onward (messages_from form s at) strict ≡ refused k
  refused_stream at k e = rw (tally_refused k (messages_from form s at) e) refl

  -- Else the datagram decides.
  first_bad : (m : Frozen) (k : ℕ) → reading true m.datagram ≡ refused k → (a : Answer (List Frozen)) (t : Tally) → given t ≡ tally (onward a (λ l. given (m ∷ l))) → onward (onward a (λ l. given (m ∷ l))) strict ≡ refused k
  unfolding strict
  first_bad m k r (given l) t e = rw r refl
  first_bad m k r (refused j) t e = not_refused e

  refused_by : (at k : ℕ) (f : Answer Found) → message_at form s at ≡ f → at < length s → strict_at form s at ≡ refused k → (t : Tally) → given t ≡ tally (messages_from form s at) → onward (messages_from form s at) strict ≡ refused k
  refused_by at k (given m) q h e t g =
      let n = from_more form s at m h q in
      ap (λ (a : Answer (List Frozen)). onward a strict) n
      ∙ first_bad m.message k (bad_datagram form s at m k q e) (messages_from form s m.next) t (g ∙ ap tally n)
  refused_by at k (refused j) q h e t g = not_refused (g ∙ ap tally (from_bad form s at j h q))

  pub refused_datagram : (at k : ℕ) → at < length s → strict_at form s at ≡ refused k → (t : Tally) → given t ≡ tally (messages_from form s at) → onward (messages_from form s at) strict ≡ refused k
  refused_datagram at k h e t g = refused_by at k (message_at form s at) refl h e t g
