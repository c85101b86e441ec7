-- How many bytes a message takes, by its datagram's.
use Prim.Native.Nat.{ℕ, zero, suc, ◌+◌, ◌*◌, ◌/◌, min}
use mathlib.Core.Path.{◌≡◌, refl, ap, ◌∙◌}
use mathlib.Core.List.{List}
use native.Mathlib.Omega.{arith}
use lib.ListN.{length, take, drop, length-append, length-take, length-drop}
use Rattle.stream.specs.declared.Form.{Form}
use Rattle.stream.specs.declared.Form.TheVariants.{Old, New}
use Rattle.stream.specs.Stream.{Frozen, chunk_of, chunks_of, message_of, message_size}
use Rattle.stream.proofs.Complete.{chunk_end, message_length}

-- Chunks take 32 bytes each in the old form, and one for each beside their own in the new.
old_length : (k : ℕ) (d : List ℕ) → length (chunks_of Old k d) ≡ 32 * k
unfolding chunks_of
old_length zero d = refl
old_length (suc k) d =
    let c : List ℕ = take 30 d in
    let r : List ℕ = drop 30 d in
    length-append (chunk_of Old c) (chunks_of Old k r) ∙ omega (arith, chunk_end Old 0 c, length-take 30 d, old_length k r)

new_length : (k : ℕ) (d : List ℕ) → length (chunks_of New k d) ≡ k + min (64 * k) (length d)
unfolding chunks_of
new_length zero d = omega arith
new_length (suc k) d =
    let c : List ℕ = take 64 d in
    let r : List ℕ = drop 64 d in
    length-append (chunk_of New c) (chunks_of New k r) ∙ omega (arith, chunk_end New 0 c, length-take 64 d, length-drop 64 d, new_length k r)

pub message_size_lem : (form : Form) (m : Frozen) → length m.peer ≡ 18 → length (message_of form m) ≡ message_size form (length m.datagram)
message_size_lem Old m z = message_length Old m z ∙ ap (λ (n : ℕ). 20 + n) (old_length ((length m.datagram + 29) / 30) m.datagram)
message_size_lem New m z = message_length New m z ∙ omega (arith, new_length ((length m.datagram + 63) / 64) m.datagram)
