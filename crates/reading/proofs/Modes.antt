-- What a mode answers to a datagram that either mode accepts: by the message that it means, with the mode as data.
use Prim.Native.Nat.{ℕ, ◌+◌, ◌≤◌}
use mathlib.Core.Path.{◌≡◌, refl, sym, ap, ◌∙◌}
use mathlib.Core.Bool.{Bool, true, false, not}
use mathlib.Core.List.{List, [], ◌∷◌, ◌++◌, map, append-nil}
use mathlib.Core.Logic.{◌⊎◌, inl, inr}
use native.Mathlib.Omega.{arith}
use lib.ListN.{length, length-append}
use lib.Dec.{ltb, eqb}
use borrow.Author.Tests.{lt-ltb, le-ltb, le-leb, eq-eqb}
use Rattle.ground.specs.Choice.{pick, both, either}
use Rattle.ground.specs.Part.{Bytes}
use Rattle.ground.proofs.Choice.{by_lt}
use Rattle.rfc.specs.Message.{Opt, Message, Options, layout}
use Rattle.refusal.specs.Answer.{Answer, given, refused}
use Rattle.refusal.proofs.Answers.{Given, on_given}
use Rattle.header.specs.Header.{token_of}
use Rattle.packet.specs.Limits.{max_value}
use Rattle.packet.specs.Packet.{stores}
use Rattle.packet.specs.Meaning.{meaning}
use Rattle.packet.specs.declared.Packet.{Packet}
use Rattle.reading.specs.Options.{Tail, options}
use Rattle.reading.specs.Reading.{longest, finished, after_header, reading}
use Rattle.reading.proofs.Sound.{option_in, marks}
use Rattle.reading.proofs.Longest.{values_within, capped_tail, onward_pick, options_capped}
use Rattle.reading.proofs.Taken.{Taken, taken, bare, given_map}
use Rattle.reading.proofs.Accept.{meant, found, means, laid_out}

-- What a mode answers, where the packet `p` was read of a datagram and means `m`.
abbrev pub read_again : Bool → List ℕ → Message → Packet → Answer Packet
read_again strict s m p =
    pick (both strict (not (eqb m.version 1))) (refused 7)
    (pick (both strict (both (eqb m.code 0) (ltb 4 (length s)))) (refused 8)
    (pick (values_within (longest strict) m.options)
    (pick (both strict (ltb (length (layout m)) (length s))) (refused 9) (given p)) (refused 4)))

longest_wide : (strict : Bool) → 268 ≤ longest strict
longest_wide true = omega arith
longest_wide false = omega arith

-- A datagram is longer than the layout where FF follows it.
longer : (x : Bool) (l s : List ℕ) → l ++ marks x [] ≡ s → x ≡ ltb (length l) (length s)
longer true l s e = sym (lt-ltb (length l) (length s) (omega (arith, sym (length-append l (255 ∷ [])) ∙ ap length e)))
longer false l s e = sym (le-ltb (length l) (length s) (omega (arith, sym (length-append l []) ∙ ap length e)))

-- A token takes bytes after the header.
carries_is : (n token : ℕ) → 4 + token ≤ n → either (ltb 4 n) (not (eqb token 0)) ≡ ltb 4 n
carries_is n token h =
    by_lt 4 n (λ l. rw (lt-ltb 4 n l) refl)
    (λ l. let no-token : token ≡ 0 = omega arith in rw (le-ltb 4 n l, eq-eqb token 0 no-token) refl)

module _ (mode : Bool) (s : List ℕ) (b : Bytes s) (p : Packet) (k : Taken mode s p) (strict : Bool) where
  options_again : options (longest strict) s 128 0 (4 + token_of k.raw) ≡ capped_tail (longest strict) s k.tail
  options_again =
      on_given (λ (t : Tail). options (longest strict) s 128 0 (4 + token_of k.raw) ≡ capped_tail (longest strict) s t) (options (longest mode) s 128 0 (4 + token_of k.raw)) k.tail
      (options_capped (longest mode) (longest strict) (longest_wide strict) s b 128 0 (4 + token_of k.raw) k.token_inside) k.options

  after_again : after_header strict s k.raw ≡ read_again strict s (meant s k.raw k.tail) p
  unfolding after_header finished meant
  after_again =
      let raw = k.raw in
      let t = k.tail in
      rw (le-ltb 8 (token_of raw) k.token_short, le-ltb (length s) (4 + token_of raw) k.token_inside, carries_is (length s) (token_of raw) k.token_inside, options_again, onward_pick _ t 4 (finished strict s raw), k.packet, ← longer (bare s t) (layout (meant s raw t)) s (laid_out mode s b p k)) refl

  again : (edits : List ℕ) → reading strict s ≡ read_again strict s (meaning (stores s edits) p) p
  unfolding reading
  again edits =
      rw (le-ltb 70000 (length s) k.fits, k.header) (after_again ∙ ap (λ (m : Message). read_again strict s m p) (sym (means mode s b p k edits)))

-- No value is longer than any mode takes.
values_fine : (os : List Opt) → Options os → values_within max_value os ≡ true
values_fine [] h = refl
values_fine (o ∷ os) h = rw (le-leb (length o.value) max_value h.1, values_fine os h.3) refl

ending : (x : Bool) (l s : List ℕ) → l ++ marks x [] ≡ s → (s ≡ l) ⊎ (s ≡ l ++ (255 ∷ []))
ending true l s e = inr (sym e)
ending false l s e = inl (sym e ∙ append-nil l)

-- A datagram of which a mode has read a packet: what each mode answers to it, that no value is longer than strict takes, and
-- that the datagram is the layout of its meaning, or one FF more.
pub record Seen (s edits : List ℕ) (p : Packet) : Type 0 where
  pub answers : (strict : Bool) → reading strict s ≡ read_again strict s (meaning (stores s edits) p) p
  pub fine : values_within max_value (meaning (stores s edits) p).options ≡ true
  pub ends : (s ≡ layout (meaning (stores s edits) p)) ⊎ (s ≡ layout (meaning (stores s edits) p) ++ (255 ∷ []))

pub seen : (mode : Bool) (s : List ℕ) → Bytes s → Given (λ (p : Packet). (edits : List ℕ) → Seen s edits p) (reading mode s)
unfolding meant
seen mode s b = given_map one (reading mode s) (taken mode s b)
  where
    one : (p : Packet) → Taken mode s p → (edits : List ℕ) → Seen s edits p
    one p k edits =
        let m = means mode s b p k edits in
        record {
          answers = λ strict. again mode s b p k strict edits;
          fine = ap (λ (n : Message). values_within max_value n.options) m ∙ values_fine (map (option_in s) k.tail.records) (found mode s b p k).options;
          ends = ending (bare s k.tail) (layout (meaning (stores s edits) p)) s (rw m (laid_out mode s b p k));
        }
