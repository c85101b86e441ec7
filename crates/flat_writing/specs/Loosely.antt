-- Bytes put loosely: what is put too much stands before the message's end, and is put over later.
use Rattle.std.specs.Prelude.{ℕ, ◌+◌, ◌*◌, ◌≡◌, List, ◌∷◌, ◌++◌, length, take, drop}
use Rattle.std.proofs.lemmas.List.Edits.{sets}
use Rattle.rfc.specs.Message.{nibble_of, extension_of}

-- Two outputs that differ at most from one place up to another.
pub record Like (low high : ℕ) (xs ys : List ℕ) : Type 0 where
  pub front : take low xs ≡ take low ys
  pub back : drop high xs ≡ drop high ys

-- Bytes were put at a place, and the answer is the place after them: the output is like one that holds them and is otherwise as it
-- was, but from there up to the end anything may stand.
pub record Loosely (old : List ℕ) (at : ℕ) (bytes : List ℕ) (end r : ℕ) (new : List ℕ) : Type 0 where
  pub next : r ≡ at + length bytes
  pub like : Like r end new (sets old at bytes)
  pub kept : length new ≡ length old

-- What stands before the value of an option, by its delta and the value's length (RFC 7252, section 3.1, figure 8).
abbrev pub nibbles_of : ℕ → ℕ → List ℕ
nibbles_of delta len = (nibble_of delta * 16 + nibble_of len) ∷ (extension_of delta ++ extension_of len)
