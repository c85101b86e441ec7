-- Laws of numbers before a mark: what follows one, and what none leaves.
use Prim.Native.Nat.{ℕ, suc, ◌+◌, ◌-◌, ◌<◌, ◌≤◌}
use mathlib.Core.Path.{◌≡◌, refl, sym, ap, ◌∙◌}
use mathlib.Core.Bool.{true, false}
use mathlib.Core.List.{List, [], ◌∷◌}
use native.Mathlib.Omega.{arith}
use lib.ListN.{length, get_or, take, drop, length-drop}
use lib.Seq.{take_all}
use borrow.Author.Tests.{lt-ltb, le-ltb, eq-eqb, ne_eqb}
use Rattle.ground.proofs.Choice.{on, on_eq, by_lt}
use Rattle.refusal.specs.Answer.{Answer, given, refused, onward}
use Rattle.refusal.proofs.Answers.{not_refused, same_given}
use Rattle.decimal.specs.Decimal.{digits, decimal_at}
use Rattle.decimal.proofs.Reading.{small as within-most}
use Rattle.uri_text.specs.Tally.{first_length}
use Rattle.peer_reading.specs.Reading.{zero_first, numeral, number_then, mapped_peer, from_port, port_in, Before, number_of, number_to}
use Rattle.peer_reading.specs.declared.Number.{Number}
use Rattle.refusal.specs.declared.Refusal.{Refusal}
use Rattle.std.specs.Prelude.{Option, Result, Ok}
use Rattle.std.specs.Result.{result_ok}

pub first_within : (mark : ℕ) (s : List ℕ) → first_length mark s ≤ length s
unfolding first_length
first_within mark [] = omega arith
first_within mark (c ∷ s) = on_eq (λ (n : ℕ). n ≤ suc (length s)) c mark (λ _. omega arith) (λ _. omega (arith, first_within mark s))

pub numeral_small : (most : ℕ) (t : List ℕ) (n : ℕ) → numeral most t ≡ given n → n ≤ most
unfolding numeral
numeral_small most t n = on (λ (a : Answer ℕ). a ≡ given n → n ≤ most) (zero_first t) (λ _ e. not_refused (sym e)) (λ _ e. within-most most (digits t) n e)

-- What `number_to` goes on with.
abbrev keep : ℕ → ℕ → List ℕ → Answer Before
keep k n rest = given (record { value = n; next = k + 1 })

module _ (mark most : ℕ) (s : List ℕ) where
  -- No mark, and no number before it.
  pub to_none : {A : Type 0} (next : ℕ → List ℕ → Answer A) → length s ≤ first_length mark s → number_then mark most s next ≡ refused 15
  to_none next h = rw (le-ltb (first_length mark s) (length s) h) refl

  pub to_some : {A : Type 0} (next : ℕ → List ℕ → Answer A) → first_length mark s < length s
      → number_then mark most s next ≡ onward (numeral most (take (first_length mark s) s)) (λ n. next n (drop (first_length mark s + 1) s))
  to_some next h = rw (lt-ltb (first_length mark s) (length s) h) refl

  -- A number before a mark: what follows is read from there.
  pub record Numbered (v n : ℕ) : Type 1 where
    pub inside : n ≤ length s
    pub small : v ≤ most
    pub goes : {A : Type 0} (next : ℕ → List ℕ → Answer A) → number_then mark most s next ≡ next v (drop n s)

  numbered_by : (v n : ℕ) (a : Answer ℕ) → numeral most (take (first_length mark s) s) ≡ a → first_length mark s < length s
      → ◌≡◌ {A = Answer Before} (given (record { value = v; next = n })) (onward a (λ m. given (record { value = m; next = first_length mark s + 1 }))) → Numbered v n
  numbered_by v n (given m) q h e =
      let f : ◌≡◌ {A = Before} (record { value = v; next = n }) (record { value = m; next = first_length mark s + 1 }) = same_given e in
      let fv : v ≡ m = ap (λ (x : Before). x.value) f in
      let fn : n ≡ first_length mark s + 1 = ap (λ (x : Before). x.next) f in
      record {
        inside = omega arith;
        small = omega (arith, fv, numeral_small most (take (first_length mark s) s) m q);
        goes = λ {A} next. to_some next h ∙ (ap (λ (x : Answer ℕ). onward x (λ j. next j (drop (first_length mark s + 1) s))) q ∙ (rw (fv, fn) refl));
      }
  numbered_by v n (refused j) q h e = not_refused e

  pub numbered : (v n : ℕ) → given (record { value = v; next = n }) ≡ number_to mark most s → Numbered v n
  numbered v n e =
      by_lt (first_length mark s) (length s)
      (λ h. numbered_by v n (numeral most (take (first_length mark s) s)) refl h (e ∙ to_some (keep (first_length mark s)) h))
      (λ h. not_refused (e ∙ to_none (keep (first_length mark s)) h))

  unnumbered_by : {A : Type 0} (next : ℕ → List ℕ → Answer A) (a : Answer ℕ) → ◌≡◌ {A = Answer Before} (refused 15) (onward a (λ m. given (record { value = m; next = first_length mark s + 1 }))) → onward a (λ m. next m (drop (first_length mark s + 1) s)) ≡ refused 15
  unnumbered_by next (given m) e = not_refused (sym e)
  unnumbered_by next (refused j) e = cc

  pub unnumbered : refused 15 ≡ number_to mark most s → {A : Type 0} (next : ℕ → List ℕ → Answer A) → number_then mark most s next ≡ refused 15
  unnumbered e next =
      by_lt (first_length mark s) (length s)
      (λ h. to_some next h ∙ unnumbered_by next (numeral most (take (first_length mark s) s)) (e ∙ to_some (keep (first_length mark s)) h))
      (λ h. to_none next h)

-- What the code answers by: where the first mark stands, and what was read before it.
module _ (mark most : ℕ) (s : List ℕ) (end : ℕ) (at : end ≡ 0 + first_length mark s) where
  pub told_none : length s ≤ end → refused 15 ≡ number_to mark most s
  told_none h = sym (to_none mark most s (keep (first_length mark s)) (omega arith))

  pub told_number : (v : ℕ) → end < length s → given v ≡ numeral most (take end s) → given (record { value = v; next = end + 1 }) ≡ number_to mark most s
  told_number v h e =
      let k : end ≡ first_length mark s = omega arith in
      rw k (sym (to_some mark most s (keep (first_length mark s)) (omega arith) ∙ (rw (sym (rw k at e)) refl)))

  pub told_bad : end < length s → refused 15 ≡ numeral most (take end s) → refused 15 ≡ number_to mark most s
  told_bad h e =
      let k : end ≡ first_length mark s = omega arith in
      sym (to_some mark most s (keep (first_length mark s)) (omega arith) ∙ (rw (sym (rw k at e)) refl))

-- A number that was taken, of what `number_to` answered.
pub taken : (mark most : ℕ) (s : List ℕ) {o : Option Number} {r : Result Number Refusal} {n : Number} → number_of o ≡ number_to mark most s → o ≡ result_ok r → r ≡ Ok n
    → Numbered mark most s n.value n.next
taken mark most s e p q = numbered mark most s _ _ (sym (ap number_of (p ∙ ap result_ok q)) ∙ e)

-- A numeral: with a zero first, and without.
pub numeral_zero : (most : ℕ) (t : List ℕ) → zero_first t ≡ true → refused 15 ≡ numeral most t
unfolding numeral
numeral_zero most t e = rw e refl

pub numeral_is : (most : ℕ) (t : List ℕ) (a : Answer ℕ) → zero_first t ≡ false → a ≡ decimal_at most t → a ≡ numeral most t
unfolding numeral
numeral_is most t a e q = rw e q

-- The rest of a text from a place on.
pub rest_is : (s : List ℕ) (n : ℕ) → take (length s - n) (drop n s) ≡ drop n s
rest_is s n = take_all (length s - n) (drop n s) (rw length-drop (omega arith))

-- The port after a colon.
pub port_none : (t : List ℕ) → length t ≡ 0 → refused 15 ≡ port_in t
unfolding port_in
port_none [] e = refl
port_none (c ∷ t) e = absurd (omega arith)

pub port_other : (t : List ℕ) → (get_or t 0 0 ≡ 58 → ⊥) → refused 15 ≡ port_in t
unfolding port_in
port_other t z = rw (ne_eqb (get_or t 0 0) 58 z) refl

pub port_is : (t : List ℕ) (a : Answer ℕ) → get_or t 0 0 ≡ 58 → a ≡ numeral 65535 (drop 1 t) → a ≡ port_in t
unfolding port_in
port_is t a e q = rw (eq-eqb (get_or t 0 0) 58 e) q

-- A port that is none, and one.
module _ (a b c d : ℕ) (s : List ℕ) where
  pub no_port : refused 15 ≡ numeral 65535 s → from_port a b c d s ≡ refused 15
  no_port e = rw (sym e) refl

  pub a_port : (port : ℕ) → given port ≡ numeral 65535 s → from_port a b c d s ≡ given (mapped_peer a b c d port)
  a_port port e = rw (sym e) refl
