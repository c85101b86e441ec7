-- The answer of writing: it is what was measured, and what a refusal and a length say of the output.
use Prim.Native.Nat.{ℕ, ◌≤◌}
use mathlib.Core.Path.{◌≡◌, refl, sym, ap, ◌∙◌}
use mathlib.Core.Bool.{Bool, true, false}
use mathlib.Core.List.{List}
use native.Mathlib.Nat.{zero-add}
use native.Mathlib.Omega.{arith}
use lib.ListN.{length}
use Rattle.std.specs.Prelude.{Result, Ok}
use Rattle.ground.specs.Choice.{pick}
use Rattle.refusal.specs.Answer.{Answer, given, refused, onward, written}
use Rattle.refusal.specs.declared.Refusal.{Refusal}
use Rattle.placing.specs.Put.{Put}
use Rattle.packet.specs.Packet.{Stores}
use Rattle.judging.specs.Judge.{lengths_of, is_too_long, bad_packet}
use Rattle.packet.specs.declared.Packet.{Packet}
use Rattle.judging.proofs.Good.{good}
use Rattle.measuring.specs.Measuring.{strictly, limited, counted, size_fitted, measured}
use Rattle.measuring.specs.declared.Limit.{Limit}
use Rattle.measuring.proofs.Sizes.{Fits, measured_fits}
use Rattle.writing.specs.Writing.{bytes_written, writing, ToBytes}
use Rattle.writing.proofs.Sizes.{written_length}

-- Answers that are compared only where a test fails.
where_false : (t : Bool) (a b c : Answer ℕ) → (t ≡ false → b ≡ c) → pick t a b ≡ pick t a c
where_false true a b c f = refl
where_false false a b c f = f refl

-- The bytes of a good packet are as many as are measured.
pub writing_measured : (strict : Bool) (limit : Limit) (room : ℕ) (s : Stores) (p : Packet) → writing strict limit room s p ≡ measured strict limit room (lengths_of s) p
unfolding writing measured
writing_measured strict limit room s p =
    ap (pick (is_too_long (lengths_of s)) (refused 10))
    (where_false (bad_packet (lengths_of s) p) (refused 11) _ _
    (λ e. ap (λ (n : ℕ). onward (strictly strict p) (λ _. limited limit (counted strict p) (size_fitted room n))) (written_length strict s p (good (lengths_of s) p e))))

module _ (strict : Bool) (limit : Limit) (p : Packet) (s : Stores) (old : List ℕ) where
  -- A refusal leaves the output as it was.
  pub refuses : (r : Result ℕ Refusal) (k : ℕ) → written r ≡ refused k → measured strict limit (length old) (lengths_of s) p ≡ refused k → ToBytes strict limit p s old r old
  refuses r k w e = let a = writing_measured strict limit (length old) s p ∙ e in record { answer = w ∙ sym a; output = rw a }

  module _ (n : ℕ) (e : measured strict limit (length old) (lengths_of s) p ≡ given n) where
    -- A length is that of the bytes of a good packet, and there is room for them.
    fits : Fits strict (length old) (lengths_of s) p n
    fits = measured_fits strict limit (length old) (lengths_of s) p n e

    same : n ≡ length (bytes_written strict s p)
    same = fits.size ∙ sym (written_length strict s p (good (lengths_of s) p fits.good))

    pub roomy : (bad_packet (lengths_of s) p ≡ false) × (length (bytes_written strict s p) ≤ length old)
    roomy = (fits.good, omega (arith, fits.within, same))

    -- So a message that was put is one that was written.
    pub writes : (r : ℕ) (new : List ℕ) → Put old 0 (bytes_written strict s p) r new → ToBytes strict limit p s old (Ok r) new
    writes r new q =
        let a = writing_measured strict limit (length old) s p ∙ (e ∙ ap given (same ∙ sym (q.next ∙ zero-add (length (bytes_written strict s p))))) in
        record { answer = sym a; output = rw a q.out }
