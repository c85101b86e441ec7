-- Calls in a loop: what was listed, and what the calls that are left will leave, make the whole.
use Prim.Native.Nat.{ℕ, ◌+◌, ◌-◌, ◌<◌, ◌≤◌}
use mathlib.Core.Path.{◌≡◌, refl, sym, ap, ◌∙◌}
use mathlib.Core.List.{List, [], ◌∷◌, ◌++◌, append_assoc, append-nil}
use native.Mathlib.Omega.{arith}
use lib.ListN.{length, set, length-append}
use lib.Seq.{sets, length-sets}
use Rattle.ground.proofs.Part.{sets_append}
use Rattle.ground.proofs.Choice.{by_lt}
use Rattle.rfc.specs.Duplicates.{Arrival, Verdict}
use Rattle.refusal.specs.Answer.{Answer, given, refused}
use Rattle.refusal.specs.declared.Refusal.TheVariants.{NoRoom, ClockBack}
use Rattle.std.specs.Prelude.{Result, Err}
use Rattle.refusal.specs.declared.Refusal.{Refusal}
use Rattle.hearing.specs.declared.Verdict.{Verdict as Word}
use Rattle.hearing.specs.Hearing.{leaving, heard_of, Hears}
use Rattle.hearing.specs.Calls.{letter, calling, Called, Calls, further, calls_from, Ran}
use Rattle.hearing.proofs.Turns.{with_room, without_room, back_first, listed}
use Rattle.hearing.proofs.Left.{length_left}

-- With no place left in the listing the table isn't asked; else it is the call itself.
module _ (room before : ℕ) (m : Arrival) (s : List ℕ) where
  settled : (r : Result Word Refusal) (left : List ℕ) → calling room before s m ≡ heard_of r → left ≡ leaving (heard_of r) m s → Called room before m s r left
  settled r left e h = record { answer = sym e; table = rw e h }

  pub called_back : m.time < before → Called room before m s (Err ClockBack) s
  called_back h = settled (Err ClockBack) s (back_first room before s m h) refl

  pub called_full : room ≡ 0 → before ≤ m.time → Called room before m s (Err NoRoom) s
  called_full z h = settled (Err NoRoom) s (without_room room before s m z h) refl

  pub called_heard : (room ≡ 0 → ⊥) → (r : Result Word Refusal) (left : List ℕ) → Hears before m s r left → Called room before m s r left
  called_heard z r left h =
      let same = with_room room before s m (by_lt 0 room (λ (k : 0 < room). k) (λ k. absurd (z (omega arith)))) in
      record { answer = rw same h.answer; table = rw same h.table }

-- Bytes listed before those of the calls that are left.
abbrev pub listed_first : List ℕ → Calls → Calls
listed_first acc c = record { listing = acc ++ c.listing; table = c.table; outcome = c.outcome }

first_one : (acc : List ℕ) (l : ℕ) (x : Calls) → listed_first acc (record { listing = l ∷ x.listing; table = x.table; outcome = x.outcome }) ≡ listed_first (acc ++ (l ∷ [])) x
first_one acc l x = ap (λ (y : List ℕ). record { listing = y; table = x.table; outcome = x.outcome }) (sym (append_assoc acc (l ∷ []) x.listing))

-- Where a loop over the calls `c` is that began with the listing `old`: so many are listed, after a message of the time `before`; the
-- table and the listing as they are now; and the messages that are left.
pub record Going (c : Calls) (old table listing : List ℕ) (before count : ℕ) (left : List Arrival) : Type 0 where
  pub acc : List ℕ
  pub whole : c ≡ listed_first acc (calls_from (length old - count) before table left)
  pub counted : length acc ≡ count
  pub written : listing ≡ sets old 0 acc
  pub room : count ≤ length old

pub begin : (old table : List ℕ) (before : ℕ) (ms : List Arrival) → Going (calls_from (length old) before table ms) old table old before 0 ms
begin old table before ms =
    let all : length old - 0 ≡ length old = omega arith in
    record { acc = []; whole = rw all; counted = refl; written = refl; room = omega arith }

module _ (c : Calls) (old table listing : List ℕ) (before count : ℕ) (left : List Arrival) (g : Going c old table listing before count left) where
  pub same_size : length listing ≡ length old
  same_size = ap length g.written ∙ length-sets old 0 g.acc

  ran : (o : Answer (Unit {0})) → c ≡ listed_first g.acc (record { listing = []; table = table; outcome = o }) → Ran c old o count table listing
  ran o w =
      record {
        outcome = sym (ap (λ (x : Calls). x.outcome) w);
        count = sym (ap (λ (x : Calls). length x.listing) w ∙ simp append-nil g.counted);
        table = sym (ap (λ (x : Calls). x.table) w);
        listing = g.written ∙ ap (sets old 0) (sym (ap (λ (x : Calls). x.listing) w ∙ append-nil g.acc));
      }

  -- No message is left.
  pub finish : left ≡ [] → Ran c old (given tt) count table listing
  unfolding calls_from
  finish e = ran (given tt) (rw e at g.whole)

  module _ (m : Arrival) (ms : List Arrival) (e : left ≡ m ∷ ms) (r : Result Word Refusal) (next : List ℕ) (h : Called (length listing - count) before m table r next) where
    answered : calling (length old - count) before table m ≡ heard_of r
    answered = sym (rw same_size at h.answer)

    one_left : (a : Answer Verdict) → calling (length old - count) before table m ≡ a
        → c ≡ listed_first g.acc (further a table (calls_from (length old - count - 1) m.time (leaving a m table) ms))
    unfolding calls_from
    one_left a i = rw i at (rw e at g.whole)

    -- A call's table has the length of the one before.
    pub next_length : length next ≡ length table
    next_length = ap length h.table ∙ length_left (calling (length listing - count) before table m) m table

    -- The next message is refused.
    pub stop : (k : ℕ) → heard_of r ≡ refused k → Ran c old (refused k) count next listing
    stop k i =
        let same : next ≡ table = h.table ∙ ap (λ (a : Answer Verdict). leaving a m table) (sym h.answer ∙ i) in
        rw same (ran (refused k) (one_left (refused k) (answered ∙ i)))

    -- It isn't: there is a place for its byte, and with that put the loop goes on.
    module _ (v : Verdict) (i : heard_of r ≡ given v) where
      pub some_place : count < length listing
      some_place = omega (arith, (listed (length listing - count) before table m v (sym h.answer ∙ i)).some)

      pub turn : (byte : ℕ) → byte ≡ letter v → Going c old next (set listing count byte) m.time (count + 1) ms
      turn byte b =
          let same : next ≡ leaving (given v) m table = h.table ∙ ap (λ (a : Answer Verdict). leaving a m table) (sym h.answer ∙ i) in
          let w = one_left (given v) (answered ∙ i) in
          let rest : ℕ → Calls = λ (j : ℕ). calls_from j m.time (leaving (given v) m table) ms in
          let less : length old - count - 1 ≡ length old - (count + 1) = omega arith in
          rw (same, b)
          (record {
            acc = g.acc ++ (letter v ∷ []);
            whole = w ∙ (first_one g.acc (letter v) (rest (length old - count - 1)) ∙ ap (λ (j : ℕ). listed_first (g.acc ++ (letter v ∷ [])) (rest j)) less);
            counted = simp length-append (omega (arith, g.counted));
            written =
                ap (λ (x : List ℕ). set x count (letter v)) g.written
                ∙ sym (sets_append old 0 g.acc (letter v ∷ []) ∙ ap (λ (j : ℕ). set (sets old 0 g.acc) j (letter v)) (omega (arith, g.counted)));
            room = omega (arith, some_place, same_size);
          })
