-- Judging a trace with its datagrams: what is known before each message, and how a turn goes.
use Prim.Native.Nat.{ℕ, suc, ◌+◌, ◌<◌, ◌≤◌}
use mathlib.Core.Path.{◌≡◌, refl, sym, ap, ◌∙◌}
use mathlib.Core.Bool.{true, false}
use mathlib.Core.List.{List, ◌∷◌}
use native.Mathlib.Nat.{zero-add, add-zero}
use native.Mathlib.Omega.{arith}
use lib.ListN.{length}
use Rattle.ground.proofs.Choice.{on}
use Rattle.refusal.specs.Answer.{Answer, given, refused, onward}
use Rattle.refusal.proofs.Answers.{not_refused, same_refused, on_given}
use Rattle.packet.specs.declared.Packet.{Packet}
use Rattle.reading.specs.Reading.{reading}
use Rattle.stream.specs.declared.Form.{Form}
use Rattle.stream.proofs.Walk.{Whole}
use Rattle.thawing.specs.Message.{strict_at}
use Rattle.thawing.specs.Thawing.{all_strict}
use Rattle.thawing.proofs.Accepting.{Accepted, accepted, bad_datagram}
use Rattle.tracing.specs.Trace.{Timed, messages_of}
use Rattle.tracing.specs.TimedMessages.{is_time, time_at, TimedFound, timed_with, timed_at, traced_from}
use Rattle.tracing.specs.Judging.{strictly, strict_timed_at, count_of}
use Rattle.tracing.specs.Answers.{TimedExtent, timed_extent, whether}
use Rattle.tracing.proofs.Found.{timed_given, Stands, stands}
use Rattle.tracing.proofs.From.{from_end, from_more, from_bad}

-- One strict datagram before others.
strictly_by : (m : Timed) (l : List Timed) (a : Answer (Unit {0})) → onward a (λ _. given (m ∷ l)) ≡ onward (onward a (λ _. given l)) (λ r. given (m ∷ r))
strictly_by m l (given _) = refl
strictly_by m l (refused k) = refl

strictly_more : (m : Timed) (p : Packet) → reading true m.message.datagram ≡ given p → (a : Answer (List Timed)) → onward (onward a (λ l. given (m ∷ l))) strictly ≡ onward (onward a strictly) (λ l. given (m ∷ l))
unfolding strictly
strictly_more m p e (given l) = rw e (strictly_by m l (all_strict (messages_of l)))
strictly_more m p e (refused k) = refl

-- Messages that were passed, put before those of an answer.
abbrev pub plus : ℕ → Answer ℕ → Answer ℕ
plus c (given n) = given (c + n)
plus c (refused k) = refused k

plus_none : (a : Answer ℕ) → a ≡ plus 0 a
plus_none (given n) = ap given (sym (zero-add n))
plus_none (refused k) = refl

plus_more : (c : ℕ) (m : Timed) (a : Answer (List Timed)) → plus c (count_of (onward a (λ l. given (m ∷ l)))) ≡ plus (c + 1) (count_of a)
plus_more c m (given l) = let e : c + suc (length l) ≡ c + 1 + length l = omega arith in ap given e
plus_more c m (refused k) = refl

module _ (form : Form) (s : List ℕ) (at : ℕ) where
  -- The ways in which a message is judged with its datagram.
  pub strict_untimed : is_time s at ≡ false → strict_timed_at form s at ≡ refused 19
  unfolding strict_timed_at
  strict_untimed e = rw e refl

  pub strict_timed : is_time s at ≡ true → strict_timed_at form s at ≡ strict_at form s (at + 5)
  unfolding strict_timed_at
  strict_timed e = rw e refl

  -- A message that was accepted with its datagram.
  pub record Taken (len next : ℕ) : Type 0 where
    pub accepts : Accepted form s (at + 5) len next
    pub found : timed_at form s at ≡ given (timed_with (time_at s at) accepts.whole.found)
    pub onward : at < next
    pub inside : next ≤ length s

  taken_by : (len next : ℕ) → is_time s at ≡ true → Accepted form s (at + 5) len next → Taken len next
  taken_by len next e a =
      record {
        accepts = a;
        found = timed_given form s at e a.whole.found a.whole.is;
        onward = omega (arith, a.whole.stands.room, a.whole.next_is);
        inside = omega (arith, a.whole.stands.inside, a.whole.next_is);
      }

  pub taken : (len next : ℕ) → strict_timed_at form s at ≡ given (record { len = len; next = next }) → Taken len next
  taken len next h =
      on (λ (_ : Unit {0}). Taken len next) (is_time s at) {x = tt} {y = tt}
      (λ e. taken_by len next e (accepted form s (at + 5) len next (sym (strict_timed e) ∙ h)))
      (λ e. not_refused (sym h ∙ strict_untimed e))

module _ (form : Form) (s : List ℕ) where
  abbrev pub strict_from : ℕ → Answer (List Timed)
  strict_from at = onward (traced_from form s at) strictly

  -- Before a message: the whole answer is the messages so far put before those from here.
  pub record JudgeWalk (count at : ℕ) : Type 0 where
    pub few : count ≤ at
    pub whole : count_of (strict_from 0) ≡ plus count (count_of (strict_from at))

  pub judge_start : JudgeWalk 0 0
  judge_start = record { few = omega arith; whole = plus_none (count_of (strict_from 0)) }

  module _ (count at : ℕ) (w : JudgeWalk count at) where
    pub judge_ends : length s ≤ at → given count ≡ count_of (strict_from 0)
    unfolding strictly
    judge_ends h =
        sym (w.whole ∙ (ap (λ (a : Answer (List Timed)). plus count (count_of (onward a strictly))) (from_end form s at h) ∙ ap given (add-zero count)))

    pub judge_stops : (k : ℕ) → strict_from at ≡ refused k → refused k ≡ count_of (strict_from 0)
    judge_stops k e = sym (w.whole ∙ ap (λ (a : Answer (List Timed)). plus count (count_of a)) e)

    pub judge_turn : (len next : ℕ) → at < length s → Taken form s at len next → JudgeWalk (count + 1) next
    judge_turn len next h t =
        let o = t.accepts.whole in
        let m : TimedFound = timed_with (time_at s at) o.found in
        record {
          few = omega (arith, w.few, t.onward);
          whole = w.whole
              ∙ (ap (λ (a : Answer (List Timed)). plus count (count_of (onward a strictly))) (from_more form s at m h t.found)
              ∙ (ap (λ (a : Answer (List Timed)). plus count (count_of a)) (strictly_more m.timed t.accepts.packet t.accepts.reads (traced_from form s m.next))
              ∙ (plus_more count m.timed (strict_from m.next)
              ∙ ap (λ (n : ℕ). plus (count + 1) (count_of (strict_from n))) o.next_is)));
        }

  -- Before a message of what is judged without its datagrams: there is a value from the start exactly when there is one from here.
  pub record RestWalk (from at : ℕ) : Type 0 where
    pub whole : whether (traced_from form s from) ≡ whether (traced_from form s at)

  pub rest_start : (from : ℕ) → RestWalk from from
  rest_start from = record { whole = refl }

  whether_more : (m : Timed) (a : Answer (List Timed)) → whether (onward a (λ l. given (m ∷ l))) ≡ whether a
  whether_more m (given l) = refl
  whether_more m (refused k) = refl

  -- A message that was measured was found.
  pub record Measured (at time len next : ℕ) : Type 0 where
    pub found : TimedFound
    pub is : timed_at form s at ≡ given found
    pub stands : Stands form s at found
    pub time_is : found.timed.time ≡ time
    pub next_is : found.next ≡ next

  same_extent : (a b : TimedExtent) → ◌≡◌ {A = Answer TimedExtent} (given a) (given b) → a ≡ b
  same_extent a b e = cc

  measured_by : (at time len next : ℕ) (a : Answer TimedFound) → timed_at form s at ≡ a → given (record { time = time; len = len; next = next }) ≡ timed_extent a → Measured at time len next
  measured_by at time len next (given m) q e =
      let k = same_extent (record { time = time; len = len; next = next }) (record { time = m.timed.time; len = length m.timed.message.datagram; next = m.next }) e in
      record {
        found = m;
        is = q;
        stands = on_given (Stands form s at) (timed_at form s at) m (stands form s at) q;
        time_is = sym (ap (λ (x : TimedExtent). x.time) k);
        next_is = sym (ap (λ (x : TimedExtent). x.next) k);
      }
  measured_by at time len next (refused k) q e = not_refused e

  pub measured : (at time len next : ℕ) → given (record { time = time; len = len; next = next }) ≡ timed_extent (timed_at form s at) → Measured at time len next
  measured at time len next e = measured_by at time len next (timed_at form s at) refl e

  extents_are : (a b c a' b' c' : ℕ) → a ≡ a' → b ≡ b' → c ≡ c' → ◌≡◌ {A = Answer TimedExtent} (given (record { time = a; len = b; next = c })) (given (record { time = a'; len = b'; next = c' }))
  extents_are a b c a' b' c' p q r = rw (p, q, r) refl

  pub measures : (at time len next : ℕ) → is_time s at ≡ true → time ≡ time_at s at → Whole form s (at + 5) len next → given (record { time = time; len = len; next = next }) ≡ timed_extent (timed_at form s at)
  measures at time len next t e o =
      extents_are time len next (time_at s at) (length o.found.message.datagram) o.found.next e (sym o.length_is) (sym o.next_is)
      ∙ sym (ap timed_extent (timed_given form s at t o.found o.is))

  -- A message that wasn't measured wasn't found.
  unmeasured_by : (at k : ℕ) (a : Answer TimedFound) → timed_at form s at ≡ a → refused k ≡ timed_extent a → timed_at form s at ≡ refused k
  unmeasured_by at k (given m) q e = not_refused (sym e)
  unmeasured_by at k (refused j) q e = cc

  pub unmeasured : (at k : ℕ) → refused k ≡ timed_extent (timed_at form s at) → timed_at form s at ≡ refused k
  unmeasured at k e = unmeasured_by at k (timed_at form s at) refl e

  module _ (from at : ℕ) (w : RestWalk from at) where
    pub rest_ends : length s ≤ at → given tt ≡ whether (traced_from form s from)
    rest_ends h = sym (w.whole ∙ ap whether (from_end form s at h))

    pub rest_refused : (k : ℕ) → at < length s → refused k ≡ timed_extent (timed_at form s at) → refused k ≡ whether (traced_from form s from)
    rest_refused k h e = sym (w.whole ∙ ap whether (from_bad form s at k h (unmeasured at k e)))

    pub rest_turn : (time len next : ℕ) → at < length s → Measured at time len next → RestWalk from next
    rest_turn time len next h o =
        record {
          whole = w.whole
              ∙ (ap whether (from_more form s at o.found h o.is)
              ∙ (whether_more o.found.timed (traced_from form s o.found.next)
              ∙ ap (λ (n : ℕ). whether (traced_from form s n)) o.next_is));
        }

  -- Where the trace is refused from a position on, it is for that.
  whether_refused : (k : ℕ) (a : Answer (List Timed)) → refused k ≡ whether a → a ≡ refused k
  whether_refused k (given l) e = not_refused (sym e)
  whether_refused k (refused j) e = ap refused (same_refused (sym e))

  pub refused_trace : (at k : ℕ) → refused k ≡ whether (traced_from form s at) → strict_from at ≡ refused k
  refused_trace at k e = rw (whether_refused k (traced_from form s at) e) refl

  -- Else the datagram decides.
  first_bad : (m : Timed) (k : ℕ) → reading true m.message.datagram ≡ refused k → (a : Answer (List Timed)) → given tt ≡ whether (onward a (λ l. given (m ∷ l))) → onward (onward a (λ l. given (m ∷ l))) strictly ≡ refused k
  unfolding strictly
  first_bad m k r (given l) e = rw r refl
  first_bad m k r (refused j) e = not_refused e

  refused_by : (at k : ℕ) (f : Answer TimedFound) → timed_at form s at ≡ f → at < length s → strict_timed_at form s at ≡ refused k → given tt ≡ whether (traced_from form s at) → strict_from at ≡ refused k
  refused_by at k (given m) q h e g =
      let n = from_more form s at m h q in
      let t : Stands form s at m = on_given (Stands form s at) (timed_at form s at) m (stands form s at) q in
      let r = bad_datagram form s (at + 5) t.found k t.is (sym (strict_timed form s at t.timed) ∙ e) in
      let d : reading true m.timed.message.datagram ≡ refused k = ap (λ (x : TimedFound). reading true x.timed.message.datagram) t.value ∙ r in
      ap (λ (a : Answer (List Timed)). onward a strictly) n ∙ first_bad m.timed k d (traced_from form s m.next) (g ∙ ap whether n)
  refused_by at k (refused j) q h e g = not_refused (g ∙ ap whether (from_bad form s at j h q))

  pub refused_datagram : (at k : ℕ) → at < length s → strict_timed_at form s at ≡ refused k → given tt ≡ whether (traced_from form s at) → strict_from at ≡ refused k
  refused_datagram at k h e g = refused_by at k (timed_at form s at) refl h e g
