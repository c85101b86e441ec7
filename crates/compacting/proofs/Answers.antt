-- The answer of compaction: what refuses, what a new end says, and what then stands in both buffers.
use Prim.Native.Nat.{ℕ, ◌<◌, ◌≤◌}
use mathlib.Core.Path.{◌≡◌, refl, sym, ap, ◌∙◌}
use mathlib.Core.Bool.{Bool, true, false}
use mathlib.Core.List.{List}
use native.Mathlib.Nat.{zero-add}
use native.Mathlib.Omega.{arith}
use lib.ListN.{length, take}
use lib.Dec.{ltb}
use borrow.Author.Tests.{lt-ltb, le-ltb, ltb-false}
use Rattle.std.specs.Prelude.{Ok, Err}
use Rattle.ground.specs.Choice.{pick, either}
use Rattle.ground.proofs.Choice.{on, neither, either_right}
use Rattle.refusal.specs.Answer.{Answer, given, refused}
use Rattle.refusal.specs.Number.{number_of}
use Rattle.refusal.specs.declared.Refusal.{Refusal}
use Rattle.refusal.proofs.Answers.{not_refused, same_given}
use Rattle.placing.specs.Put.{Puts, Put}
use Rattle.placing.proofs.Puts.{puts_whole, puts_front, puts_length}
use Rattle.packet.specs.Limits.{max_store}
use Rattle.packet.specs.Packet.{Stores, records_of}
use Rattle.packet.specs.declared.Packet.{Packet}
use Rattle.judging.specs.Judge.{lengths_of, is_too_long, bad_packet, options_size, judging}
use Rattle.judging.specs.declared.Lengths.{Lengths}
use Rattle.judging.proofs.Good.{Good, good}
use Rattle.compacting.specs.Compacting.{live_bytes, live_length, relocated, compacting, Compacts}
use Rattle.compacting.proofs.Live.{live_length_lem}

-- How each way out shows its answer.
module _ (lengths : Lengths) (room : ℕ) (p : Packet) where
  pub too_long : is_too_long lengths ≡ true → refused 10 ≡ compacting lengths room p
  unfolding compacting
  too_long t = rw t refl

  module _ (t : is_too_long lengths ≡ false) where
    pub bad_record : (k : ℕ) → refused k ≡ judging lengths p → refused k ≡ compacting lengths room p
    unfolding compacting judging
    bad_record k e = rw t (go (bad_packet lengths p) e)
      where
        go : (b : Bool) → refused k ≡ pick b (refused 11) (given (options_size 0 (records_of p)))
            → refused k ≡ pick b (refused 11) (pick (either (ltb lengths.edits (live_length p)) (ltb room (live_length p))) (refused 12) (given (live_length p)))
        go true d = d
        go false d = not_refused (sym d)

    module _ (b : bad_packet lengths p ≡ false) (n : ℕ) (e : n ≡ live_length p) where
      pub full_edits : lengths.edits < n → refused 12 ≡ compacting lengths room p
      unfolding compacting
      full_edits h = rw (t, b, lt-ltb lengths.edits (live_length p) (rw e at h)) refl

      pub full_second : room < n → refused 12 ≡ compacting lengths room p
      unfolding compacting
      full_second h =
          rw (t, b, either_right (ltb lengths.edits (live_length p)) (ltb room (live_length p)) (lt-ltb room (live_length p) (rw e at h))) refl

      pub ends : n ≤ lengths.edits → n ≤ room → given n ≡ compacting lengths room p
      unfolding compacting
      ends h k = rw (t, b, le-ltb lengths.edits (live_length p) (rw e at h), le-ltb room (live_length p) (rw e at k)) (ap given e)

-- What a new end says: no store is too long, nothing is bad, and both buffers have room for the sum of the lengths.
pub record Fits (lengths : Lengths) (room : ℕ) (p : Packet) (n : ℕ) : Type 0 where
  pub short : is_too_long lengths ≡ false
  pub sound : bad_packet lengths p ≡ false
  pub sum : n ≡ live_length p
  pub edits : n ≤ lengths.edits
  pub second : n ≤ room

pub fits : (lengths : Lengths) (room : ℕ) (p : Packet) (n : ℕ) → compacting lengths room p ≡ given n → Fits lengths room p n
unfolding compacting
fits lengths room p n =
    let P : Answer ℕ → Type 0 = λ a. a ≡ given n → Fits lengths room p n in
    let low = ltb lengths.edits (live_length p) in
    let high = ltb room (live_length p) in
    on P (is_too_long lengths) (λ t e. not_refused (sym e))
    (λ t. on P (bad_packet lengths p) (λ b e. not_refused (sym e))
    (λ b. on P (either low high) (λ f e. not_refused (sym e))
    (λ f e. let sum : n ≡ live_length p = sym (same_given e) in
    let both = neither low high f in
    record {
      short = t;
      sound = b;
      sum = sum;
      edits = omega (arith, ltb-false lengths.edits (live_length p) both.0);
      second = omega (arith, ltb-false room (live_length p) both.1);
    })))

pub short_edits : (lengths : Lengths) → is_too_long lengths ≡ false → lengths.edits ≤ max_store
unfolding is_too_long
short_edits lengths e = ltb-false max_store lengths.edits (neither (ltb max_store lengths.datagram) (ltb max_store lengths.edits) e).1

module _ (p : Packet) (s : Stores) (second : List ℕ) where
  -- A refusal leaves the packet and both buffers as they were.
  pub refuses : (r : Refusal) → compacting (lengths_of s) (length second) p ≡ refused (number_of r) → Compacts p s second (Err r) s.edits second
  refuses r e = record { answer = sym e; packet = rw e; edits = rw e; buffer = rw e }

  module _ (n : ℕ) (e : compacting (lengths_of s) (length second) p ≡ given n) where
    facts : Fits (lengths_of s) (length second) p n
    facts = fits (lengths_of s) (length second) p n e

    pub sound : Good (lengths_of s) p
    sound = good (lengths_of s) p facts.sound

    pub within : live_length p ≤ max_store
    within = omega (arith, facts.sum, facts.edits, short_edits (lengths_of s) facts.short)

    long : length (live_bytes s p) ≡ n
    long = live_length_lem s p sound ∙ sym facts.sum

    module _ (r : ℕ) (newSecond : List ℕ) (q : Puts second 0 (live_bytes s p) r newSecond) where
      gathered : Put second 0 (live_bytes s p) r newSecond
      gathered = puts_whole q (omega (arith, long, facts.second))

      -- The buffer then begins with the live bytes.
      pub begins : take n newSecond ≡ live_bytes s p
      begins =
          ap (λ (k : ℕ). take k newSecond) (sym long ∙ sym (gathered.next ∙ zero-add (length (live_bytes s p))))
          ∙ puts_front q (omega (arith, long, facts.second))

      pub end_inside : n ≤ length newSecond
      end_inside = omega (arith, facts.second, puts_length q)

      -- Copied back, they are all that changes in the edit store.
      pub compacts : (k : ℕ) (newEdits : List ℕ) → Puts s.edits 0 (take n newSecond) k newEdits → (q : Packet) → q ≡ relocated p
          → Compacts p s second (Ok (record { end = n; packet = q })) newEdits newSecond
      compacts k newEdits b q moved =
          let back : Put s.edits 0 (live_bytes s p) k newEdits = puts_whole (rw begins at b) (omega (arith, long, facts.edits)) in
          record { answer = sym e; packet = rw e moved; edits = rw e back.out; buffer = rw e gathered.out }
