-- The answer of writing numbers: it is what was measured, and what a refusal and a length say of the output.
use Prim.Native.Nat.{ℕ, ◌≤◌}
use mathlib.Core.Path.{◌≡◌, refl, sym, ◌∙◌}
use mathlib.Core.Bool.{Bool, false}
use mathlib.Core.List.{List}
use native.Mathlib.Nat.{zero-add}
use lib.ListN.{length}
use lib.Seq.{sets}
use Rattle.ground.specs.Choice.{pick}
use Rattle.ground.proofs.Choice.{on}
use Rattle.refusal.specs.Answer.{Answer, given, refused, onward, after}
use Rattle.refusal.proofs.Answers.{not_refused, same_given}
use Rattle.placing.specs.Put.{Put}
use Rattle.packet.specs.Packet.{Stores}
use Rattle.packet.specs.declared.Packet.{Packet}
use Rattle.judging.specs.Judge.{lengths_of, is_too_long}
use Rattle.measuring.specs.Measuring.{measured}
use Rattle.measuring.specs.declared.Limit.TheVariants.{Unlimited}
use Rattle.writing.specs.Writing.{bytes_written}
use Rattle.writing.proofs.Answers.{writing_measured, roomy, writes}
use Rattle.unflat.specs.Unflat.{bad_flat, packet_in, unflat}
use Rattle.flat_measuring.specs.FlatMeasuring.{measured_in, Sound}
use Rattle.flat_writing.specs.FlatWriting.{packet_of, packet_over, copying}

onward_same : {A B : Type 0} (a : Answer A) (f g : A → Answer B) → ((v : A) → f v ≡ g v) → onward a f ≡ onward a g
onward_same (given v) f g h = h v
onward_same (refused k) f g h = refl

pub copying_measured : (strict : Bool) (room : ℕ) (s : Stores) (l : List ℕ) → copying strict room s (packet_over s l) ≡ measured_in strict room (lengths_of s) l
unfolding packet_over measured_in
copying_measured strict room s l =
    onward_same (pick (is_too_long (lengths_of s)) (refused 10) (unflat l)) _ _ (writing_measured strict Unlimited room s)

-- What a writer shows that answers `r`.
abbrev pub Writes : Bool → List ℕ → Stores → List ℕ → Answer ℕ → List ℕ → Type 0
Writes strict l s old r new =
    (r ≡ copying strict (length old) s (packet_over s l))
    × (new ≡ after (copying strict (length old) s (packet_over s l)) 0 (bytes_written strict s (packet_of (packet_over s l))) old)

module _ (strict : Bool) (l : List ℕ) (s : Stores) (old : List ℕ) where
  -- A refusal leaves the output as it was.
  pub refuses : (k : ℕ) → measured_in strict (length old) (lengths_of s) l ≡ refused k → Writes strict l s old (refused k) old
  refuses k e = let a = copying_measured strict (length old) s l ∙ e in (sym a, rw a refl)

  module _ (n : ℕ) (e : measured_in strict (length old) (lengths_of s) l ≡ given n) where
    -- A length says that the numbers are a flat form over stores that are not too long, and is measured of their packet.
    parts : (is_too_long (lengths_of s) ≡ false) × (bad_flat l ≡ false) × (measured strict Unlimited (length old) (lengths_of s) (packet_in l) ≡ given n)
    unfolding measured_in unflat
    parts =
        let next = measured strict Unlimited (length old) (lengths_of s) in
        let Q : Type 0 = (is_too_long (lengths_of s) ≡ false) × (bad_flat l ≡ false) × (next (packet_in l) ≡ given n) in
        let P : Answer Packet → Type 0 = λ a. onward a next ≡ given n → Q in
        on P (is_too_long (lengths_of s)) (λ t d. not_refused (sym d)) (λ t. on P (bad_flat l) (λ u d. not_refused (sym d)) (λ u d. (t, u, d))) e

    over : packet_over s l ≡ given (packet_in l)
    unfolding packet_over unflat
    over = rw (parts.0, parts.1)

    -- So a message that was put is one that was written.
    pub wrote : (r : ℕ) (new : List ℕ) → Put old 0 (bytes_written strict s (packet_in l)) r new → Writes strict l s old (given r) new
    wrote r new q = let w = writes strict Unlimited (packet_in l) s old n parts.2 r new q in rw over (w.answer, w.output)

    -- The length is that of the message, for which there is room.
    pub fits : Sound (lengths_of s) l × (length (bytes_written strict s (packet_in l)) ≤ length old) × (n ≡ length (bytes_written strict s (packet_in l)))
    fits =
        let bytes = bytes_written strict s (packet_in l) in
        let r = roomy strict Unlimited (packet_in l) s old n parts.2 in
        let w = wrote (length bytes) (sets old 0 bytes) (record { next = sym (zero-add (length bytes)); out = refl }) in
        (record { flat = parts.1; packet = r.0 }, r.1, same_given (sym (w.0 ∙ (copying_measured strict (length old) s l ∙ e))))
