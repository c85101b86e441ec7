-- Bytes put into an output at a place: what is answered, and what the output then holds.
use Rattle.std.specs.Prelude.{ℕ, ◌+◌, ◌-◌, ◌≡◌, List, length, take}
use Rattle.std.proofs.lemmas.List.Edits.{sets}

-- What of some bytes goes into an output of this length from a place on; the rest is cut off.
abbrev pub cut : ℕ → ℕ → List ℕ → List ℕ
cut room at bytes = take (room - at) bytes

-- What fits of the bytes was put at the place: the answer is the place after it, and the output holds it there and is otherwise
-- as it was.
pub record Puts (old : List ℕ) (at : ℕ) (bytes : List ℕ) (r : ℕ) (new : List ℕ) : Type 0 where
  pub next : r ≡ at + length (cut (length old) at bytes)
  pub out : new ≡ sets old at (cut (length old) at bytes)

-- All of the bytes were put at the place.
pub record Put (old : List ℕ) (at : ℕ) (bytes : List ℕ) (r : ℕ) (new : List ℕ) : Type 0 where
  pub next : r ≡ at + length bytes
  pub out : new ≡ sets old at bytes
