-- Putting the chunks of a datagram: what is known before each, and how a turn goes.
use Prim.Native.Nat.{ℕ, zero, suc, ◌+◌, ◌-◌, ◌<◌, ◌≤◌, min}
use mathlib.Core.Path.{◌≡◌, refl, sym, ap, ◌∙◌}
use mathlib.Core.List.{List, ◌∷◌, ◌++◌}
use native.Mathlib.Omega.{arith}
use lib.ListN.{length, take, drop, replicate, length-drop, drop_of_length-le}
use Rattle.placing.specs.Put.{Puts}
use Rattle.placing.proofs.Puts.{Putting, putting_start, putting_turn, putting_end}
use Rattle.stream.specs.declared.Form.{Form}
use Rattle.stream.specs.Stream.{full, chunk_of, chunk_count, chunks_of}
use Rattle.stream.proofs.Complete.{chunks_first, chunks_none}
use Rattle.stream.proofs.Chunks.{next_rest}

-- The first of some zeros are zeros.
pub zeros_front : (n k : ℕ) → n ≤ k → take n (replicate {A = ℕ} k 0) ≡ replicate n 0
zeros_front zero k h = refl
zeros_front (suc n) zero h = absurd (omega arith)
zeros_front (suc n) (suc k) h = ap (λ (l : List ℕ). 0 ∷ l) (zeros_front n k (omega arith))

-- The chunks of a datagram.
abbrev pub chunks : Form → List ℕ → List ℕ
chunks form d = chunks_of form (chunk_count form (length d)) d

-- Before a chunk: once those of what is left are put, all are.
pub record ChunkWalk (form : Form) (old : List ℕ) (at : ℕ) (d : List ℕ) (new : List ℕ) (next i : ℕ) : Type 0 where
  pub put : Putting old at (chunks form d) new next (chunks form (drop i d))
  pub inside : i ≤ length d

pub chunk_start : (form : Form) (old : List ℕ) (at : ℕ) (d : List ℕ) → ChunkWalk form old at d old at 0
chunk_start form old at d = record { put = putting_start old at (chunks form d); inside = omega arith }

module _ (form : Form) (old : List ℕ) (at : ℕ) (d : List ℕ) (new : List ℕ) (next i : ℕ) (w : ChunkWalk form old at d new next i) where
  pub chunk_done : length d ≤ i → Puts old at (chunks form d) next new
  chunk_done h = putting_end w.put (chunks_none form (drop i d) (drop_of_length-le d h))

  pub chunk_turn : (n : ℕ) → i < length d → n ≡ min (full form) (length d - i) → (r : ℕ) (newer : List ℕ) → Puts new next (chunk_of form (take (full form) (drop i d))) r newer → ChunkWalk form old at d newer r (i + n)
  chunk_turn n h least r newer p =
      let x : List ℕ = drop i d in
      let some : 1 ≤ length x = rw length-drop (omega arith) in
      record {
        put = putting_turn w.put (chunks_first form x some ∙ ap (λ (y : List ℕ). chunk_of form (take (full form) x) ++ chunks form y) (sym (next_rest form d i n least))) p;
        inside = omega arith;
      }
