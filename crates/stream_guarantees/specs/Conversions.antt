-- Conversions of a freeze stream between its two forms: the same messages, and there and back the same bytes.
use Rattle.std.specs.Prelude.{ℕ, ◌≤◌, ◌≡◌, ◌↔◌, ◌⊎◌, List, [], ◌∷◌, ◌++◌, length, take, Result, Ok, Err}
use Rattle.refusal.specs.declared.Refusal.TheVariants.{BadFreeze}
use Rattle.refusal.specs.declared.Refusal.{Refusal}
use Rattle.framing.specs.Framing.{Converts}
use Rattle.stream.specs.declared.Form.{Form}
use Rattle.stream.specs.declared.Form.TheVariants.{Old, New}
use Rattle.stream.specs.Stream.{Frozen, Sized, AllSized, message_of, stream_of}
use Rattle.thawing.specs.Thawing.{Strictly, Thaws}
use Rattle.thawing.specs.declared.Strict.{Strict}
use Rattle.converting.specs.Converting.{other_form, converted}
use Rattle.guarantees.specs.Wrote.{Wrote}
use Rattle.stream_guarantees.specs.StreamOf.{IsStreamOf}

pub record ConvertsExactly (from : Form) (s old : List ℕ) (r : Result ℕ Refusal) (new : List ℕ) : Type 0 where
  -- The stream of a list is written as the stream, in the other form, of the same list.
  pub writes : (l : List Frozen) → IsStreamOf from s l → length (stream_of (other_form from) l) ≤ length old → Wrote (stream_of (other_form from) l) old r new
  -- Something is written exactly when the stream is that of a list, and there is room for the other.
  pub exactly : ((n : ℕ) × (r ≡ Ok n)) ↔ ((l : List Frozen) × IsStreamOf from s l × (length (stream_of (other_form from) l) ≤ length old))

-- So it is of every stream and output, and of every answer that meets the promise.
abbrev pub Converting : Type 0
Converting = (from : Form) (s old : List ℕ) (r : Result ℕ Refusal) (new : List ℕ) → Converts (converted from s) old r new → ConvertsExactly from s old r new

-- There and back: with room, what was written converts back to the stream, byte for byte, from either form.
abbrev pub ThereAndBack : Type 0
ThereAndBack =
    (from : Form) (s old : List ℕ) (r : Result ℕ Refusal) (new : List ℕ) (n : ℕ) → Converts (converted from s) old r new → r ≡ Ok n
    → (old₂ : List ℕ) (r₂ : Result ℕ Refusal) (new₂ : List ℕ) → length s ≤ length old₂
    → Converts (converted (other_form from) (take n new)) old₂ r₂ new₂ → Wrote s old₂ r₂ new₂

-- Messages one after the other, each in the form that stands beside it.
abbrev pub each_in : List (Form × Frozen) → List ℕ
each_in [] = []
each_in (x ∷ l) = message_of x.0 x.1 ++ each_in l

-- Each keeps to the lengths.
abbrev pub EachSized : List (Form × Frozen) → Type 0
EachSized [] = Unit {0}
EachSized (x ∷ l) = Sized x.1 × EachSized l

-- One of them is in this form.
abbrev pub SomeIn : Form → List (Form × Frozen) → Type 0
SomeIn form [] = ⊥
SomeIn form (x ∷ l) = (x.0 ≡ form) ⊎ SomeIn form l

-- The bytes are refused 19 as a stream of the form: judged, thawed and converted.
pub record RefusedIn (form : Form) (s : List ℕ) : Type 0 where
  pub judging : (other : Form) (r : Result Strict Refusal) → Strictly form other s r → r ≡ Err BadFreeze
  pub thawing : (oldList oldOut : List ℕ) (r : Result ℕ Refusal) (newList newOut : List ℕ) → Thaws form s oldList oldOut r newList newOut → r ≡ Err BadFreeze
  pub converting : (old : List ℕ) (r : Result ℕ Refusal) (new : List ℕ) → Converts (converted form s) old r new → r ≡ Err BadFreeze

-- Messages of which one is in the other form are none of a form, wherever it stands; so where both forms stand, the bytes are
-- refused as either.
abbrev pub MixedForms : Type 0
MixedForms = (form : Form) (l : List (Form × Frozen)) → EachSized l → SomeIn (other_form form) l → RefusedIn form (each_in l)

-- A stream that has bytes has at most one form, whatever its datagrams are.
abbrev pub OneForm : Type 0
OneForm = (s : List ℕ) (l m : List Frozen) → AllSized l → AllSized m → s ≡ stream_of Old l → s ≡ stream_of New m → s ≡ []
