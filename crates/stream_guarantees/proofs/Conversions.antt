-- Conversions: what is written, and that each undoes the other.
use Prim.Native.Nat.{ℕ, ◌≤◌}
use mathlib.Core.Path.{◌≡◌, refl, sym, ap, ◌∙◌}
use mathlib.Core.Logic.{◌⊎◌, inl, inr, ⊎_elim}
use mathlib.Core.List.{List, [], ◌∷◌, ◌++◌}
use native.Mathlib.Omega.{arith}
use lib.ListN.{length, take, length-append}
use Rattle.std.specs.Prelude.{Result, Ok, Err}
use Rattle.refusal.specs.Answer.{Answer, given, refused, onward, fitted}
use Rattle.refusal.specs.declared.Refusal.TheVariants.{BadFreeze}
use Rattle.refusal.proofs.Answers.{onward_given, same_given}
use Rattle.refusal.proofs.Distinct.{one_written}
use Rattle.refusal.specs.declared.Refusal.{Refusal}
use Rattle.framing.specs.Framing.{Converts}
use Rattle.stream.specs.declared.Form.{Form}
use Rattle.stream.specs.declared.Form.TheVariants.{Old, New}
use Rattle.stream.specs.Stream.{Frozen, Sized, AllSized, message_of, stream_of}
use Rattle.stream.specs.Messages.{thawed}
use Rattle.stream.proofs.Complete.{message_some}
use Rattle.stream.proofs.Exact.{exact, one_form, two_firsts, same_rest}
use Rattle.thawing.specs.Thawing.{strict, thawed_strictly, listed, thawing}
use Rattle.converting.specs.Converting.{other_form, converted}
use Rattle.stream_guarantees.specs.StreamOf.{IsStreamOf}
use Rattle.stream_guarantees.specs.Conversions.{ConvertsExactly, Converting, ThereAndBack, OneForm, each_in, EachSized, SomeIn, MixedForms}
use Rattle.transfer_guarantees.proofs.Frames.{wrote, converted as came, stood}
use Rattle.stream_guarantees.proofs.Streams.{is_stream, of_stream, not_thawed, no_stream}

-- The stream in the other form, of the list that the stream has.
to_other : (from : Form) (s : List ℕ) (l : List Frozen) → IsStreamOf from s l → converted from s ≡ given (stream_of (other_form from) l)
to_other from s l i = ap (λ (a : Answer (List Frozen)). onward a (λ x. given (stream_of (other_form from) x))) (of_stream from s l i)

module _ (from : Form) (s old : List ℕ) (r : Result ℕ Refusal) (new : List ℕ) (promise : Converts (converted from s) old r new) where
  -- What was written is the stream of such a list.
  record Written-as (n : ℕ) : Type 0 where
    messages : List Frozen
    is : IsStreamOf from s messages
    fits : length (stream_of (other_form from) messages) ≤ length old

  written_as : (n : ℕ) → r ≡ Ok n → Written-as n
  written_as n e =
      let c = came (converted from s) old r new promise n e in
      let o = onward_given (thawed_strictly from s) (λ l. given (stream_of (other_form from) l)) c.bytes c.is in
      let b : stream_of (other_form from) o.0 ≡ c.bytes = same_given o.2 in
      record { messages = o.0; is = is_stream from s o.0 o.1; fits = omega (arith, ap length b, c.fits) }

  converts_exactly : ConvertsExactly from s old r new
  converts_exactly =
      record {
        writes = λ l i fits. wrote (converted from s) old r new promise (stream_of (other_form from) l) (to_other from s l i) fits;
        exactly = (
          λ x. let w = written_as x.0 x.1 in (w.messages, w.is, w.fits),
          λ x. (length (stream_of (other_form from) x.0), (wrote (converted from s) old r new promise (stream_of (other_form from) x.0) (to_other from s x.0 x.1) x.2).answer),
        );
      }

pub converting_exactly : Converting
converting_exactly from s old r new p = converts_exactly from s old r new p

back_again : (form : Form) → other_form (other_form form) ≡ form
back_again Old = refl
back_again New = refl

pub there_and_back : ThereAndBack
there_and_back from s old r new n p e old₂ r₂ new₂ room q =
    let w = written_as from s old r new p n e in
    let l : List Frozen = w.messages in
    let t : take n new ≡ stream_of (other_form from) l = stood (converted from s) old r new p n e (stream_of (other_form from) l) (to_other from s l w.is) w.fits in
    let i : IsStreamOf (other_form from) (take n new) l = record { sized = w.is.sized; accepted = w.is.accepted; bytes = t } in
    let b : converted (other_form from) (take n new) ≡ given s =
    to_other (other_form from) (take n new) l i ∙ ap given (ap (λ (f : Form). stream_of f l) (back_again from) ∙ sym w.is.bytes) in
    wrote (converted (other_form from) (take n new)) old₂ r₂ new₂ q s b room

pub at_most_one_form : OneForm
at_most_one_form s l m a b i j = one_form s l m (ap (thawed Old) i ∙ (exact Old).complete l a) (ap (thawed New) j ∙ (exact New).complete m b)

-- A form is the one or the other, and not both.
which : (form f : Form) → (f ≡ form) ⊎ (f ≡ other_form form)
which Old Old = inl refl
which Old New = inr refl
which New Old = inr refl
which New New = inl refl

never_other : (form : Form) → form ≡ other_form form → ⊥
never_other Old e = let z : ◌≡◌ {A = ℕ} 0 1 = cc in omega arith
never_other New e = let z : ◌≡◌ {A = ℕ} 0 1 = cc in omega arith

-- No bytes begin with a message of a form and with one of the other.
differ : (form : Form) (x y : Frozen) (a b : List ℕ) → Sized x → Sized y → message_of (other_form form) x ++ a ≡ message_of form y ++ b → ⊥
differ Old x y a b z w e = two_firsts (message_of Old y ++ b) y x b a w z refl (sym e)
differ New x y a b z w e = two_firsts (message_of Old x ++ a) x y a b z w refl e

-- Messages of which one is in the other form are no stream: those before it are the stream's own, and it begins none.
no_mixture : (form : Form) (l : List (Form × Frozen)) → EachSized l → SomeIn (other_form form) l → (k : List Frozen) → AllSized k → each_in l ≡ stream_of form k → ⊥
no_mixture form [] z o k a e = o
no_mixture form (x ∷ l) z o [] a e = omega (arith, message_some x.0 x.1, sym (length-append (message_of x.0 x.1) (each_in l)) ∙ ap length e)
no_mixture form (x ∷ l) z o (y ∷ k) a e =
    ⊎_elim
    (λ same.
    let f : message_of form x.1 ++ each_in l ≡ message_of form y ++ stream_of form k = ap (λ (g : Form). message_of g x.1 ++ each_in l) (sym same) ∙ e in
    ⊎_elim (λ other. never_other form (sym same ∙ other))
    (λ later. no_mixture form l z.1 later k a.1 (same_rest form x.1 y (each_in l) (stream_of form k) z.0 a.0 f)) o)
    (λ other. differ form x.1 y (each_in l) (stream_of form k) z.0 a.0 (ap (λ (g : Form). message_of g x.1 ++ each_in l) (sym other) ∙ e))
    (which form x.0)

pub mixed_forms : MixedForms
unfolding thawing
mixed_forms form l z o =
    let s : List ℕ = each_in l in
    let t : thawed form s ≡ refused 19 = not_thawed form s (no_mixture form l z o) in
    record {
      judging = λ other r p. no_stream form other s r p (no_mixture form l z o);
      thawing = λ oldList oldOut r newList newOut p. one_written r (Err BadFreeze) (p.answer ∙ ap (λ (a : Answer (List Frozen)). onward (onward a strict) (listed (length oldList) (length oldOut))) t);
      converting = λ old r new p. one_written r (Err BadFreeze) (p.answer ∙ ap (λ (a : Answer (List Frozen)). onward (onward (onward a strict) (λ x. given (stream_of (other_form form) x))) (fitted (length old))) t);
    }
