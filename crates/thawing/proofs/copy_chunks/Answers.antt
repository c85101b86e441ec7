-- `copy_chunks`: once the bytes that are left are put, all are, and their chunks stand in the stream.
use Prim.Native.Nat.{ℕ, ◌+◌, ◌-◌, ◌≤◌, ◌<◌, min}
use mathlib.Core.Path.{◌≡◌, ap, ◌∙◌}
use mathlib.Core.List.{List}
use native.Mathlib.Omega.{arith}
use lib.ListN.{length, take, drop}
use Rattle.stream.specs.declared.Form.{Form}
use Rattle.stream.specs.Stream.{full, head_size}
use Rattle.stream.specs.Messages.{end_of_chunk}
use Rattle.thawing.proofs.Copy.{CopyWalk, copy_start, copy_done, copy_part, copy_inside, copy_turn}
use Rattle.thawing.proofs.copy_chunks.Goals as goal

-- The chunk that is next: what it holds of the bytes that are left, and where it lies.
record Next (form : Form) (s d : List ℕ) (at done n head : ℕ) : Type 0 where
  pub least : n ≡ min (full form) (length d - done)
  pub more : done < length d
  pub inside : end_of_chunk form at n ≤ length s
  pub part : take (at + head + n - (at + head)) (drop (at + head) s) ≡ take (full form) (drop done d)

next_chunk : (form : Form) (s d old : List ℕ) (to : ℕ) (new : List ℕ) (at done next n head len : ℕ) → CopyWalk form s d old to new at done next
    → len ≡ length d → done < len → n ≡ min (full form) (len - done) → head ≡ head_size form → Next form s d at done n head
next_chunk form s d old to new at done next n head len w l m c e =
    let least : n ≡ min (full form) (length d - done) = c ∙ ap (λ (x : ℕ). min (full form) (x - done)) l in
    let more : done < length d = omega arith in
    let k : at + head + n - (at + head) ≡ n = omega arith in
    record {
      least = least;
      more = more;
      inside = copy_inside form s d old to new at done next w n more least;
      part = rw (k, e) (copy_part form s d old to new at done next w n more least);
    }

pub loop-done-init : goal.loop-done-init
loop-done-init c = copy_start _ _ _ _ _

pub slice_bounds-c-end : goal.slice_bounds-c-end
slice_bounds-c-end c =
    let f = next_chunk _ _ _ _ _ _ _ _ _ _ _ _ c.loop-done.invariant c.requires c.loop-done-test.true c.chunk_length-n.ensures c.head_of-head.ensures in
    omega (arith, f.inside, f.least, f.more, c.head_of-head.ensures)

pub loop-done-preserved : goal.loop-done-preserved
loop-done-preserved c =
    let f = next_chunk _ _ _ _ _ _ _ _ _ _ _ _ c.loop-done.invariant c.requires c.loop-done-test.true c.chunk_length-n.ensures c.head_of-head.ensures in
    rw (c.head_of-head.ensures, c.padding_of.ensures)
    (copy_turn _ _ _ _ _ _ _ _ _ c.loop-done.invariant _ f.more f.least _ _ (rw f.part at c.put_bytes-next.ensures))

pub returns : goal.returns
returns c = copy_done _ _ _ _ _ _ _ _ _ c.loop-done.invariant (omega (arith, c.loop-done-test.false, c.requires))
