-- A call by the answer of the piece that it lays: where nothing else is wrong, it is refused as the piece is, and goes on as the
-- piece does.
use Prim.Native.Nat.{ℕ, ◌+◌, ◌-◌, ◌<◌, ◌≤◌}
use mathlib.Core.Path.{◌≡◌, refl, sym, ap, subst, ◌∙◌}
use mathlib.Core.Bool.{Bool, true, false}
use mathlib.Core.List.{List, []}
use lib.ListN.{length}
use lib.Dec.{ltb}
use borrow.Author.Tests.{lt-ltb, le-ltb, eq-eqb, ne_eqb}
use native.Mathlib.Nat.{add-zero}
use native.Mathlib.Omega.{arith}
use Rattle.std.specs.Prelude.{Result, Err}
use Rattle.ground.specs.Choice.{pick, both}
use Rattle.ground.proofs.Choice.{on_lt}
use Rattle.rfc.specs.Message.{Opt, option_layout, payload_layout}
use Rattle.refusal.specs.Answer.{Answer, given, refused, onward, written, after}
use Rattle.refusal.specs.Number.{number_of}
use Rattle.refusal.specs.declared.Refusal.{Refusal}
use Rattle.refusal.specs.declared.Refusal.TheVariants.{TooLong, BadRecord}
use Rattle.refusal.proofs.Answers.{not_refused, same_given}
use Rattle.header.specs.declared.Header.{Header}
use Rattle.laying.specs.Laying.{Lays, LaysHeader, LaysOption, LaysPayload, laid, head_layout, laid_header, laid_option}
use Rattle.laying.proofs.Laid.{lays_refused, laid_judged, judged_given}
use Rattle.building.specs.Building.{built_of, Builds, Starts, Adds, Ends, empty_in, start_judged, starting, adding, sent_by, ending, bare_refusal, bare_end}
use Rattle.building.specs.declared.Builder.{Builder}

-- A test that refuses, before an answer and before what goes on with it.
on_refusal : {A B : Type 0} (t : Bool) (k : ℕ) (x : Answer B) (y : Answer A) (next : A → Answer B) → x ≡ onward y next → pick t (refused k) x ≡ onward (pick t (refused k) y) next
on_refusal true k x y next e = refl
on_refusal false k x y next e = e

-- What goes on with a value leaves the same output.
same_after : {A B : Type 0} (a : Answer A) (f : A → B) (at : ℕ) (bytes old : List ℕ) → after a at bytes old ≡ after (onward a (λ v. given (f v))) at bytes old
same_after (given v) f at bytes old = refl
same_after (refused k) f at bytes old = refl

-- A call that goes on with what a piece answers.
module _ (b : Answer ℕ) (at : ℕ) (bytes old : List ℕ) (r : Result ℕ Refusal) (new : List ℕ) (p : Lays b at bytes old r new) where
  pub builds_by : (f : ℕ → Builder) (a : Answer Builder) → a ≡ onward b (λ n. given (f n)) → (x : Result Builder Refusal) → built_of x ≡ onward (written r) (λ n. given (f n)) → Builds a at bytes old x new
  builds_by f a e x w =
      record {
        answer = w ∙ (ap (λ (c : Answer ℕ). onward c (λ n. given (f n))) p.answer ∙ sym e);
        output = p.output ∙ (same_after b f at bytes old ∙ ap (λ (c : Answer Builder). after c at bytes old) (sym e));
      }

  pub lays_by : (f : ℕ → ℕ) (a : Answer ℕ) → a ≡ onward b (λ n. given (f n)) → (x : Result ℕ Refusal) → written x ≡ onward (written r) (λ n. given (f n)) → Lays a at bytes old x new
  lays_by f a e x w =
      record {
        answer = w ∙ (ap (λ (c : Answer ℕ). onward c (λ n. given (f n))) p.answer ∙ sym e);
        output = p.output ∙ (same_after b f at bytes old ∙ ap (λ (c : Answer ℕ). after c at bytes old) (sym e));
      }

-- A refusal, with the output as it was.
pub builds_refused : (a : Answer Builder) (at : ℕ) (bytes old : List ℕ) (k : ℕ) (r : Result Builder Refusal) → built_of r ≡ refused k → a ≡ refused k → Builds a at bytes old r old
builds_refused a at bytes old k r w e = record { answer = w ∙ sym e; output = rw e }

-- The builder after a header and a token that took this many bytes, and after an option that did.
abbrev pub headed_to : Bool → Header → ℕ → Builder
headed_to strict h n = record { strict = strict; empty = empty_in strict h.code; before = 0; at = n; left = 128 }

abbrev pub added_to : Builder → ℕ → ℕ → Builder
added_to b number n = record { strict = b.strict; empty = b.empty; before = number; at = b.at + n; left = b.left - 1 }

-- Header and token: refused before their room, or by their own answer.
pub start_refused : (strict : Bool) (h : Header) (token old : List ℕ) (k : ℕ) (r : Result Builder Refusal) → built_of r ≡ refused k → start_judged strict h (length token) ≡ refused k → Starts strict h token old r old
start_refused strict h token old k r w e = builds_refused _ 0 _ old k r w (rw e)

module _ (strict : Bool) (h : Header) (token : List ℕ) (e : start_judged strict h (length token) ≡ given tt) where
  -- What was asked of header and token is that they are in range.
  in_range_lem : (h.version ≤ 3) × (length token ≤ 15)
  unfolding start_judged
  in_range_lem =
      let P : Answer (Unit {0}) → Type 0 = λ b. b ≡ given tt → (h.version ≤ 3) × (length token ≤ 15) in
      on_lt P 3 h.version (λ v q. not_refused (sym q)) (λ v. on_lt P 15 (length token) (λ t q. not_refused (sym q)) (λ t q. (v, t))) e

  starting_laid : (room : ℕ) → starting strict h token room ≡ onward (laid_header h token room) (λ n. given (headed_to strict h n))
  unfolding laid_header
  starting_laid room =
      rw (e, le-ltb 3 h.version in_range_lem.0, le-ltb 15 (length token) in_range_lem.1)
      (on_refusal (ltb room (0 + length (head_layout h token))) 12 _ _ _ refl)

  pub start_by : (old : List ℕ) (w : Result ℕ Refusal) (new : List ℕ) → LaysHeader h token old w new → (r : Result Builder Refusal) → built_of r ≡ onward (written w) (λ n. given (headed_to strict h n)) → Starts strict h token old r new
  start_by old w new p r q = builds_by _ 0 _ old w new p (headed_to strict h) _ (starting_laid (length old)) r q

-- An option: none left, in an empty message, or by its own answer.
module _ (b : Builder) (o : Opt) (old : List ℕ) where
  pub option_none_left : b.left ≡ 0 → Adds b o old (Err BadRecord) old
  unfolding adding
  option_none_left l = builds_refused _ _ _ old 11 _ refl (rw (eq-eqb b.left 0 l))

  pub option_bare : (b.left ≡ 0 → ⊥) → both b.strict b.empty ≡ true → (e : Refusal) → number_of e ≡ bare_refusal b.before o.number (length o.value) → Adds b o old (Err e) old
  unfolding adding bare_refusal
  option_bare l s e n =
      builds_refused _ _ _ old (number_of e) _ refl
      (rw (ne_eqb b.left 0 l, s) (first_of (ltb o.number b.before) (ltb 65804 (length o.value)) ∙ ap refused (sym n)))
    where
      first_of : {A : Type 0} (x y : Bool) → ◌≡◌ {A = Answer A} (pick x (refused 11) (pick y (refused 11) (refused 8))) (refused (pick x 11 (pick y 11 8)))
      first_of true y = refl
      first_of false true = refl
      first_of false false = refl

  adding_laid : (b.left ≡ 0 → ⊥) → both b.strict b.empty ≡ false → adding b o (length old) ≡ onward (laid_option b.before o (length old) b.at) (λ n. given (added_to b o.number n))
  unfolding adding laid_option
  adding_laid l s =
      rw (ne_eqb b.left 0 l, s)
      (on_refusal (ltb o.number b.before) 11 _ _ _
      (on_refusal (ltb 65804 (length o.value)) 11 _ _ _
      (on_refusal (ltb (length old) (b.at + length (option_layout b.before o))) 12 _ _ _ refl)))

  pub option_by : (b.left ≡ 0 → ⊥) → both b.strict b.empty ≡ false → (w : Result ℕ Refusal) (new : List ℕ) → LaysOption b.before o b.at old w new → (r : Result Builder Refusal) → built_of r ≡ onward (written w) (λ n. given (added_to b o.number n)) → Adds b o old r new
  option_by l s w new p r q = builds_by _ b.at _ old w new p (added_to b o.number) _ (adding_laid l s) r q

-- What an option takes ends within the output.
pub option_within : (b : Builder) (o : Opt) (room n : ℕ) → laid_option b.before o room b.at ≡ given n → b.at + n ≤ room
option_within b o room n e =
    let j = judged_given b.before o.number (length o.value) room b.at n (sym (laid_judged b.before o room b.at) ∙ e) in
    omega (arith, j.fits, j.size)

-- The payload: too long, of an empty message, or by its own answer.
module _ (b : Builder) (payload old : List ℕ) where
  pub payload_long : 70000 < length payload → Ends b payload old (Err TooLong) old
  unfolding ending
  payload_long l = lays_refused _ _ _ old 10 _ refl (rw (lt-ltb 70000 (length payload) l))

  pub payload_bare : length payload ≤ 70000 → b.empty ≡ true → (r : Result ℕ Refusal) → written r ≡ bare_end b.strict b.at (length payload) (length old) → Ends b payload old r old
  unfolding ending bare_end
  payload_bare l e r w =
      let is : ending b payload (length old) ≡ bare_end b.strict b.at (length payload) (length old) = rw (le-ltb 70000 (length payload) l, e, add-zero b.at) in
      record { answer = w ∙ sym is; output = subst (λ (x : Bool). old ≡ after (ending b payload (length old)) b.at (payload_layout (sent_by x payload)) old) (sym e) (nothing_put (ending b payload (length old))) }
    where
      nothing_put : (a : Answer ℕ) → old ≡ after a b.at [] old
      nothing_put (given n) = refl
      nothing_put (refused k) = refl

  ending_laid : length payload ≤ 70000 → b.empty ≡ false → ending b payload (length old) ≡ onward (laid (length old) b.at (payload_layout payload)) (λ n. given (b.at + n))
  unfolding ending
  ending_laid l e =
      rw (le-ltb 70000 (length payload) l, e)
      (on_refusal (ltb (length old) (b.at + length (payload_layout payload))) 12 _ _ _ refl)

  pub payload_by : length payload ≤ 70000 → b.empty ≡ false → (w : Result ℕ Refusal) (new : List ℕ) → LaysPayload payload b.at old w new → (r : Result ℕ Refusal) → written r ≡ onward (written w) (λ n. given (b.at + n)) → Ends b payload old r new
  payload_by l e w new p r q =
      subst (λ (x : Bool). Lays (ending b payload (length old)) b.at (payload_layout (sent_by x payload)) old r new) (sym e)
      (lays_by _ b.at _ old w new p (λ n. b.at + n) _ (ending_laid l e) r q)

pub payload_within : (b : Builder) (payload : List ℕ) (room n : ℕ) → laid room b.at (payload_layout payload) ≡ given n → b.at + n ≤ room
payload_within b payload room n =
    on_lt (λ (a : Answer ℕ). a ≡ given n → b.at + n ≤ room) room (b.at + length (payload_layout payload)) (λ h e. not_refused (sym e)) (λ h e. omega (arith, same_given e))
