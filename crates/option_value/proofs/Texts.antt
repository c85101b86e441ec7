-- Laws of text: a text that was written is read again, and is its own part.
use Prim.Native.Nat.{ℕ}
use mathlib.Core.Path.{◌≡◌, refl}
use mathlib.Core.List.{List}
use native.Mathlib.Omega.{arith}
use Rattle.utf8.specs.Walk.{text}
use Rattle.ground.proofs.Choice.{on}
use Rattle.refusal.specs.Answer.{Answer, given, fitted}
use Rattle.option_value.specs.Text.{read_text, text_part, write_text}

-- Written then read is text, and the bytes are those that were written.
pub text_written_then_read : (room n : ℕ) (bs : List ℕ) → write_text room bs ≡ given n → (read_text bs ≡ given tt) × (text_part bs ≡ bs) × (fitted room bs ≡ given n)
text_written_then_read room n bs =
    on (λ (a : Answer ℕ). a ≡ given n → (read_text bs ≡ given tt) × (text_part bs ≡ bs) × (fitted room bs ≡ given n)) (text bs)
    (λ t e. (rw t refl, rw t refl, e))
    (λ t e. absurd (let z : ◌≡◌ {A = ℕ} 0 1 = cc in omega arith))
