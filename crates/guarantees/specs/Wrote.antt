-- What it is that bytes were written: they stand in the output before what stood after them.
use Rattle.std.specs.Prelude.{ℕ, ◌≡◌, List, ◌++◌, length, drop, Result, Ok}
use Rattle.refusal.specs.declared.Refusal.{Refusal}

-- What was written: the answer is the length of the bytes, which stand in the output before what stood after them.
pub record Wrote (bytes old : List ℕ) (r : Result ℕ Refusal) (new : List ℕ) : Type 0 where
  pub answer : r ≡ Ok (length bytes)
  pub output : new ≡ bytes ++ drop (length bytes) old
