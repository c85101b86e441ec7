-- The two modes: the seven statements, from what each mode answers where one of them accepts.
use Prim.Native.Nat.{ℕ, ◌<◌}
use mathlib.Core.Path.{◌≡◌, refl, sym, ap, ◌∙◌}
use mathlib.Core.Logic.{◌⊎◌, inl, inr, ⊎_elim}
use mathlib.Core.Bool.{Bool, true, false, not}
use mathlib.Core.List.{List, [], ◌∷◌}
use native.Mathlib.Omega.{arith}
use lib.Dec.{T, ltb, eqb, leb}
use lib.ListN.{length, length-append}
use borrow.Author.Tests.{ltb-true, le-leb, lt-leb, lt-ltb, eqb-true, eqb-false, eq-eqb, ne_eqb, not-true}
use Rattle.std.specs.Prelude.{Result, Ok, Err}
use Rattle.ground.specs.Choice.{pick, both}
use Rattle.ground.specs.Part.{Bytes, Among}
use Rattle.ground.specs.Table.{listed}
use Rattle.ground.proofs.Choice.{on, on_lt, by_lt, both_true}
use Rattle.rfc.specs.Message.{Opt, layout}
use Rattle.refusal.specs.Answer.{Answer, given, refused, Beside, beside}
use Rattle.refusal.specs.declared.Refusal.{Refusal}
use Rattle.refusal.proofs.Answers.{on_given, not_refused, same_given, same_refused}
use Rattle.header.specs.Header.{raw_in}
use Rattle.packet.specs.Limits.{max_plain_value}
use Rattle.packet.specs.Meaning.{meaning}
use Rattle.packet.specs.Packet.{stores, new_packet}
use Rattle.packet.specs.declared.Packet.{Packet}
use Rattle.reading.specs.Reading.{FromBytes, decoded, after_header, reading}
use Rattle.reading.proofs.Longest.{values_within}
use Rattle.reading.proofs.Modes.{read_again, Seen, seen}
use Rattle.guarantees.specs.Modes.{Accepts, Refuses, RefusesWith, said, Long, HasLong, BareMarker, Cause, Modes, Exactly, TwoModes, RefusedApart, NoPacketRead}
use Rattle.guarantees.proofs.StrictReading.{done, gives}
use Rattle.guarantees.proofs.Refusals.{besides, not_err}

-- Where not every value is within 65535, one is longer; and where one is, not every value is.
some_long : (os : List Opt) → values_within max_plain_value os ≡ false → (o : Opt) × Among o os × Long o
some_long [] e = absurd (let z : ◌≡◌ {A = ℕ} 0 1 = cc in omega arith)
some_long (o ∷ os) e =
    by_lt max_plain_value (length o.value) (λ long. (o, inl refl, omega arith))
    (λ short. let r = some_long os (rw (le-leb (length o.value) max_plain_value short) at e) in (r.0, inr r.1, r.2))

long_found : (os : List Opt) (o : Opt) → Among o os → Long o → values_within max_plain_value os ≡ false
long_found [] o h long = absurd h
long_found (p ∷ os) o (inl e) long = let l : max_plain_value < length p.value = omega (arith, ap (λ (q : Opt). length q.value) e) in rw (lt-leb (length p.value) max_plain_value l)
long_found (p ∷ os) o (inr h) long = rw (long_found os o h long) (both_false (leb (length p.value) max_plain_value))
  where
    both_false : (t : Bool) → both t false ≡ false
    both_false true = refl
    both_false false = refl

-- An answer is refused with one of these numbers; then so is the reader that gives it.
abbrev RefusedAs : List ℕ → Answer Packet → Type 0
RefusedAs numbers (given p) = ⊥
RefusedAs numbers (refused k) = T (listed k numbers)

refuses_with : (numbers : List ℕ) (d : Result Packet Refusal) (a : Answer Packet) → decoded d ≡ beside new_packet a → RefusedAs numbers a → RefusesWith numbers d
refuses_with numbers d (given p) e h = absurd h
refuses_with numbers (Ok q) (refused k) e h = not_refused (ap (λ (r : Beside Packet). r.answer) e)
refuses_with numbers (Err r) (refused k) e h = (r, refl, rw (same_refused (ap (λ (b : Beside Packet). b.answer) e)) h)

-- A reader accepts or refuses, and never both.
one_way : (d : Result Packet Refusal) → Accepts d ⊎ Refuses d
one_way (Ok p) = inl (p, refl)
one_way (Err e) = inr (e, refl)

never : (d : Result Packet Refusal) → Accepts d → (e : Refusal) → d ≡ Err e → ⊥
never d h e r = not_err (sym h.1 ∙ r)

-- The packet beside the outcome is what an accepted datagram gives.
abbrev packet_in : Result Packet Refusal → Packet
packet_in d = (decoded d).value

given_in : (d : Result Packet Refusal) (a : Answer Packet) → decoded d ≡ beside new_packet a → Accepts d → a ≡ given (packet_in d)
given_in d a e h = done d h.0 a e h.1 ∙ ap (λ (x : Result Packet Refusal). given (packet_in x)) (sym h.1)

one_of : (t : Bool) (p q : Packet) (k : ℕ) → given p ≡ pick t (given q) (refused k) → p ≡ q
one_of true p q k e = same_given e
one_of false p q k e = not_refused e

-- A reader that accepts, in either mode; and what a reader answers then, in either mode.
module _ (s edits : List ℕ) (b : Bytes s) (mode : Bool) (d : Result Packet Refusal) (promise : FromBytes mode s d) (h : Accepts d) where
  read : Seen s edits (packet_in d)
  read = on_given (λ (p : Packet). (beside : List ℕ) → Seen s beside p) (reading mode s) (packet_in d) (seen mode s b) (given_in d (reading mode s) promise h) edits

  module _ (strict : Bool) (e : Result Packet Refusal) (other : FromBytes strict s e) where
    answers : decoded e ≡ beside new_packet (read_again strict s (said s edits d) (packet_in d))
    answers = other ∙ ap (beside new_packet) (read.answers strict)

    refuses : (numbers : List ℕ) → RefusedAs numbers (read_again strict s (said s edits d) (packet_in d)) → RefusesWith numbers e
    refuses numbers = refuses_with numbers e (read_again strict s (said s edits d) (packet_in d)) answers

module _ (s edits : List ℕ) (b : Bytes s) (plain strict : Result Packet Refusal) (p : FromBytes false s plain) (q : FromBytes true s strict) where
  -- A datagram that is longer than the layout has the bare marker.
  longer_bare : Accepts plain → length (layout (said s edits plain)) < length s → BareMarker s (said s edits plain)
  longer_bare h longer = ⊎_elim (λ same. absurd (omega (arith, ap length same))) (λ e. e) (read s edits b false plain p h).ends

  cause : Accepts plain → Refuses strict → Cause s (said s edits plain)
  cause h r =
      let m = said s edits plain in
      let P : Answer Packet → Type 0 = λ a. decoded strict ≡ beside new_packet a → Cause s m in
      let carried = both (eqb m.code 0) (ltb 4 (length s)) in
      on P (not (eqb m.version 1)) (λ e _. inl (eqb-false m.version 1 (not-true (eqb m.version 1) e)))
      (λ _. on P carried
      (λ e _. let c = both_true (eqb m.code 0) (ltb 4 (length s)) e in inr (inl (eqb-true m.code 0 c.0, ltb-true 4 (length s) c.1)))
      (λ _. rw (read s edits b false plain p h).fine (on_lt P (length (layout m)) (length s) (λ longer _. inr (inr (longer_bare h longer)))
      (λ _ e. absurd (never strict (packet_in plain, gives strict (packet_in plain) e) r.0 r.1)))))
      (answers s edits b false plain p h true strict q)

  too_long : Accepts strict → Refuses plain → HasLong (said s edits strict)
  too_long h r =
      let os = (said s edits strict).options in
      on (λ (a : Answer Packet). decoded plain ≡ beside new_packet a → (o : Opt) × Among o os × Long o) (values_within max_plain_value os)
      (λ _ e. absurd (never plain (packet_in strict, gives plain (packet_in strict) e) r.0 r.1)) (λ e _. some_long os e) (answers s edits b true strict q h false plain p)

  -- Both modes read one packet.
  one_packet : Accepts plain → Accepts strict → packet_in plain ≡ packet_in strict
  one_packet h k =
      one_of (values_within max_plain_value (said s edits strict).options) (packet_in plain) (packet_in strict) 4
      (sym (given_in plain (reading false s) p h) ∙ (read s edits b true strict q k).answers false)

  modes : Modes s edits plain strict
  modes =
      record {
        both = λ h k. ap (meaning (stores s edits)) (one_packet h k);
        strict_alone = too_long;
        long_value = λ h o among long. refuses s edits b true strict q h false plain p (4 ∷ []) (rw (long_found (said s edits strict).options o among long) tt);
        plain_alone = cause;
        other_version = λ h v. refuses s edits b false plain p h true strict q (7 ∷ []) (rw (ne_eqb (said s edits plain).version 1 v) tt);
        carries = λ h c.
            refuses s edits b false plain p h true strict q (7 ∷ 8 ∷ [])
            (on (RefusedAs (7 ∷ 8 ∷ [])) (not (eqb (said s edits plain).version 1)) (λ _. tt)
            (λ _. rw (eq-eqb (said s edits plain).code 0 c.0, lt-ltb 4 (length s) c.1) tt));
        bare_marker = λ h e.
            let m = said s edits plain in
            let longer : length (layout m) < length s = omega (arith, ap length e ∙ length-append (layout m) (255 ∷ [])) in
            refuses s edits b false plain p h true strict q (7 ∷ 8 ∷ 9 ∷ [])
            (on (RefusedAs (7 ∷ 8 ∷ 9 ∷ [])) (not (eqb m.version 1)) (λ _. tt)
            (λ _. on (RefusedAs (7 ∷ 8 ∷ 9 ∷ [])) (both (eqb m.code 0) (ltb 4 (length s))) (λ _. tt)
            (λ _. rw ((read s edits b false plain p h).fine, lt-ltb (length (layout m)) (length s) longer) tt)));
      }

  exactly : Exactly s edits plain strict
  exactly =
      record {
        strict_too = λ h. (
          λ k.
              ⊎_elim (λ v. let r = modes.other_version h v in never strict k r.0 r.1)
              (⊎_elim (λ c. let r = modes.carries h c in never strict k r.0 r.1) (λ e. let r = modes.bare_marker h e in never strict k r.0 r.1)),
          λ none. ⊎_elim (λ k. k) (λ r. absurd (none (modes.plain_alone h r))) (one_way strict),
        );
        plain_too = λ h. (
          λ k l. let r = modes.long_value h l.0 l.1 l.2 in never plain k r.0 r.1,
          λ none. ⊎_elim (λ k. k) (λ r. absurd (none (modes.strict_alone h r))) (one_way plain),
        );
        ends = λ h. (read s edits b false plain p h).ends;
      }

pub two_modes : TwoModes
two_modes s edits b plain strict p q = (modes s edits b plain strict p q, exactly s edits b plain strict p q)

pub refused_apart : RefusedApart
unfolding reading raw_in after_header
refused_apart plain strict p q = (refuses_with (2 ∷ []) plain (refused 2) p tt, refuses_with (7 ∷ []) strict (refused 7) q tt)

pub no_packet_read : NoPacketRead
no_packet_read strict s d q = besides Packet decoded new_packet (record { value = λ v. refl; refusal = λ e. refl }) d
