-- A stream is read exactly when it is that of a list, which is the one that is read.
use Prim.Native.Nat.{ℕ, zero, suc, ◌+◌, ◌≤◌}
use mathlib.Core.Path.{◌≡◌, refl, sym, ap, ◌∙◌}
use mathlib.Core.List.{List, [], ◌∷◌, ◌++◌, append_assoc}
use native.Mathlib.Omega.{arith}
use lib.ListN.{length, get_or, drop}
use lib.Seq.{drop_at}
use Rattle.ground.specs.Part.{part}
use Rattle.ground.proofs.Choice.{on, on_lt, on_eq}
use Rattle.refusal.specs.Answer.{Answer, given}
use Rattle.refusal.proofs.Answers.{Refusing, refusing_onward, same_given}
use Rattle.packet.specs.Limits.{full_size}
use Rattle.stream.specs.declared.Form.{Form}
use Rattle.stream.specs.declared.Form.TheVariants.{Old, New}
use Rattle.stream.specs.Stream.{Frozen, Sized, AllSized, full, head_size, padding, message_of, stream_of}
use Rattle.stream.specs.Messages.{count_at, end_of_chunk, zeros, chunk_at, body_at, Found, sized_body, message_at, messages_at, thawed}
use Rattle.stream.proofs.Sound.{thawed_sound}
use Rattle.stream.proofs.Complete.{message_complete, thawed_complete, first_chunk}

-- The only refusal is 19.
abbrev pub Only19 : {A : Type 0} → Answer A → Type 0
Only19 a = Refusing (λ k. k ≡ 19) a

only_chunk : (form : Form) (s : List ℕ) (at : ℕ) → Only19 (chunk_at form s at)
unfolding chunk_at
only_chunk form s at =
    let n : ℕ = count_at form s at in
    on_lt Only19 n 1 (λ a. refl)
    (λ a. on_lt Only19 (full form) n (λ b. refl)
    (λ b. on_lt Only19 (length s) (end_of_chunk form at n) (λ i. refl)
    (λ i. on Only19 (zeros (part s (at + head_size form + n) (padding form n))) (λ z. tt) (λ z. refl))))

only_body : (form : Form) (s : List ℕ) (fuel before at : ℕ) → Only19 (body_at form s fuel before at)
unfolding body_at
only_body form s zero before at = refl
only_body form s (suc fuel) before at =
    on_eq Only19 (get_or s at 0) 3 (λ e. tt)
    (λ e. on_lt Only19 before (full form) (λ l. refl)
    (λ l. refusing_onward (λ k. k ≡ 19) (chunk_at form s at) _ (only_chunk form s at)
    (λ n. refusing_onward (λ k. k ≡ 19) (body_at form s fuel n (end_of_chunk form at n)) _ (only_body form s fuel n (end_of_chunk form at n)) (λ b. tt))))

pub only_message : (form : Form) (s : List ℕ) (at : ℕ) → Only19 (message_at form s at)
unfolding message_at sized_body
only_message form s at =
    on_eq Only19 (get_or s at 0) 1
    (λ e. on_lt Only19 (length s) (at + 19) (λ l. refl)
    (λ l. refusing_onward (λ k. k ≡ 19) (body_at form s (length s) (full form) (at + 19)) (sized_body (part s (at + 1) 18)) (only_body form s (length s) (full form) (at + 19))
    (λ b. on_lt Only19 (length b.bytes) 4 (λ u. refl) (λ u. on_lt Only19 full_size (length b.bytes) (λ v. refl) (λ v. tt)))))
    (λ e. refl)

pub only_19 : (form : Form) (s : List ℕ) (fuel at : ℕ) → Only19 (messages_at form s fuel at)
unfolding messages_at
only_19 form s zero at = on_lt Only19 at (length s) (λ h. refl) (λ h. tt)
only_19 form s (suc fuel) at =
    on_lt Only19 at (length s)
    (λ h. refusing_onward (λ k. k ≡ 19) (message_at form s at) _ (only_message form s at) (λ m. refusing_onward (λ k. k ≡ 19) (messages_at form s fuel m.next) _ (only_19 form s fuel m.next) (λ l. tt)))
    (λ h. tt)

-- What may be relied on of reading in a form.
pub record Exact (form : Form) : Type 1 where
  -- A stream that is read is that of the list, and each message keeps to the lengths.
  pub sound : (s : List ℕ) (l : List Frozen) → thawed form s ≡ given l → (s ≡ stream_of form l) × AllSized l
  -- The stream of such a list is read as that list.
  pub complete : (l : List Frozen) → AllSized l → thawed form (stream_of form l) ≡ given l
  -- No other such list has that stream.
  pub unique : (l m : List Frozen) → AllSized l → AllSized m → stream_of form l ≡ stream_of form m → l ≡ m
  -- Every other stream is refused with 19.
  pub refusal : (s : List ℕ) → Only19 (thawed form s)

pub exact : (form : Form) → Exact form
exact form =
    record {
      sound = thawed_sound form;
      complete = thawed_complete form;
      unique = λ l m a b e. same_given (sym (thawed_complete form l a) ∙ (ap (thawed form) e ∙ thawed_complete form m b));
      refusal = λ s. only_19 form s (length s) 0;
    }

-- The stream of two lists is that of one after that of the other.
pub stream_append : (form : Form) (l m : List Frozen) → stream_of form (l ++ m) ≡ stream_of form l ++ stream_of form m
stream_append form [] m = refl
stream_append form (x ∷ l) m =
    ap (λ (r : List ℕ). message_of form x ++ r) (stream_append form l m) ∙ sym (append_assoc (message_of form x) (stream_of form l) (stream_of form m))

-- No chunk is of both forms.
two_counts : (s : List ℕ) (at : ℕ) → 1 ≤ count_at Old s at → 1 ≤ count_at New s at → ⊥
unfolding count_at
two_counts s at =
    on_eq (λ (n : ℕ). 1 ≤ n → 1 ≤ count_at New s at → ⊥) (get_or s at 0) 2
    (λ e a. on_eq (λ (n : ℕ). 1 ≤ n → ⊥) (get_or s at 0) 4 (λ f b. omega arith)
    (λ f. on_lt (λ (n : ℕ). 1 ≤ n → ⊥) (get_or s at 0) 192 (λ g b. omega arith) (λ g b. omega arith)))
    (λ e a b. omega arith)

-- No bytes begin with a message of each form.
pub two_firsts : (s : List ℕ) (x y : Frozen) (a b : List ℕ) → Sized x → Sized y → s ≡ message_of Old x ++ a → s ≡ message_of New y ++ b → ⊥
two_firsts s x y a b z w e f = two_counts s 19 (first_chunk Old s x a z e) (first_chunk New s y b w f)

-- Only the stream of no bytes has both forms.
pub one_form : (s : List ℕ) (l m : List Frozen) → thawed Old s ≡ given l → thawed New s ≡ given m → s ≡ []
one_form s [] m e f = (thawed_sound Old s [] e).0
one_form s (x ∷ l) [] e f = (thawed_sound New s [] f).0
one_form s (x ∷ l) (y ∷ m) e f =
    let a = thawed_sound Old s (x ∷ l) e in
    let b = thawed_sound New s (y ∷ m) f in
    absurd (two_firsts s x y (stream_of Old l) (stream_of New m) a.1.0 b.1.0 a.0 b.0)

-- Bytes that begin with a message of a form, and with another of that form: the same follows both.
pub same_rest : (form : Form) (x y : Frozen) (a b : List ℕ) → Sized x → Sized y → message_of form x ++ a ≡ message_of form y ++ b → a ≡ b
same_rest form x y a b z w e =
    let s : List ℕ = message_of form x ++ a in
    let f = same_given (sym (message_complete form s 0 x a (omega arith) z refl) ∙ message_complete form s 0 y b (omega arith) w e) in
    let m : List ℕ = message_of form y in
    let i : message_of form x ≡ m = ap (λ (r : Found). message_of form r.message) f in
    sym (drop_at m a (length m) refl) ∙ (ap (λ (l : List ℕ). drop (length m) (l ++ a)) (sym i) ∙ (ap (drop (length m)) e ∙ drop_at m b (length m) refl))
