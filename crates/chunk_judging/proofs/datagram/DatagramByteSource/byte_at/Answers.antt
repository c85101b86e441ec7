-- `byte_at`: the byte at its place, which is not past that of the last; and past that, 0.
use Prim.Native.Nat.{ℕ, ◌+◌, ◌-◌, ◌≤◌}
use mathlib.Core.Path.{sym, ap, ◌∙◌}
use native.Mathlib.Omega.{arith}
use mathlib.Core.List.{List}
use lib.ListN.{length, get_or}
use Rattle.std.proofs.lemmas.List.{get_or_past}
use Rattle.chunk_judging.specs.Chunks.{gathered}
use Rattle.chunk_judging.proofs.Places.{offset_rises, gathered_length, gathered_at}
use Rattle.chunk_judging.proofs.datagram.DatagramByteSource.byte_at.Goals as goal

pub returns-then-self-idx : goal.returns-then-self-idx
returns-then-self-idx c =
    let d = c.args.self in
    let all : List ℕ = gathered d.form d.stream.now d.from d.len in
    let past : length all ≤ c.args.idx = omega (arith, gathered_length d.form d.stream.now d.from d.len) in
    record { is = sym (get_or_past all c.args.idx 0 past); small = omega arith }

pub offset_of-requires : goal.offset_of-requires
offset_of-requires c = let d = c.args.self in omega (arith, d.lies.0)

pub overflow_add-place : goal.overflow_add-place
overflow_add-place c =
    let d = c.args.self in
    omega (arith, offset_rises d.form c.args.idx (d.len - 1) (omega arith), d.lies.1, c.offset_of.ensures)

pub bounds-self-place : goal.bounds-self-place
bounds-self-place c =
    let d = c.args.self in
    omega (arith, offset_rises d.form c.args.idx (d.len - 1) (omega arith), d.lies.1, c.offset_of.ensures)

pub returns : goal.returns
returns c =
    let d = c.args.self in
    record {
      is = ap (λ (i : ℕ). get_or c.args.self.stream.now (c.args.self.from + i) 0) c.offset_of.ensures ∙ sym (gathered_at d.form d.stream.now d.from d.len c.args.idx (omega arith));
      small = omega arith;
    }
