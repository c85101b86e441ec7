-- `chunk_at`: each return is a law of `Heads`.
use Prim.Native.Nat.{ℕ, ◌+◌}
use mathlib.Core.Path.{ap, ◌∙◌}
use native.Mathlib.Omega.{arith}
use Rattle.ground.specs.Part.{part}
use Rattle.stream.specs.Stream.{head_size}
use Rattle.stream.specs.Messages.{zeros}
use Rattle.stream.proofs.Heads.{chunk_none, chunk_over, chunk_cut, chunk_whole}
use Rattle.stream.proofs.chunk_at.Goals as goal

pub returns-then-n-lt1 : goal.returns-then-n-lt1
returns-then-n-lt1 c = chunk_none _ _ _ _ c.count_at-n.ensures c.if-n-lt1.true

pub returns-then-full_of-n : goal.returns-then-full_of-n
returns-then-full_of-n c = chunk_over _ _ _ _ c.count_at-n.ensures c.if-n-lt1.false (omega (arith, c.full_of.ensures))

pub returns-then-stream-at : goal.returns-then-stream-at
returns-then-stream-at c =
    chunk_cut _ _ _ _ c.count_at-n.ensures c.if-n-lt1.false (omega (arith, c.full_of.ensures)) (omega (arith, c.padding_of-unused.ensures, c.head_of-head.ensures))

pub returns-then-all_zero : goal.returns-then-all_zero
returns-then-all_zero c =
    let a = c.args in
    let n = c.count_at-n.result in
    chunk_whole a.form a.stream.now a.at n c.count_at-n.ensures c.if-n-lt1.false (omega (arith, c.full_of.ensures)) (omega (arith, c.padding_of-unused.ensures, c.head_of-head.ensures)) _
    (c.if-all_zero.ensures ∙ (ap (λ (x : ℕ). zeros (part a.stream.now (a.at + x + n) c.padding_of-unused.result)) c.head_of-head.ensures
    ∙ ap (λ (x : ℕ). zeros (part a.stream.now (a.at + head_size a.form + n) x)) c.padding_of-unused.ensures))

pub returns : goal.returns
returns c =
    let a = c.args in
    let n = c.count_at-n.result in
    chunk_whole a.form a.stream.now a.at n c.count_at-n.ensures c.if-n-lt1.false (omega (arith, c.full_of.ensures)) (omega (arith, c.padding_of-unused.ensures, c.head_of-head.ensures)) _
    (c.if-all_zero.ensures ∙ (ap (λ (x : ℕ). zeros (part a.stream.now (a.at + x + n) c.padding_of-unused.result)) c.head_of-head.ensures
    ∙ ap (λ (x : ℕ). zeros (part a.stream.now (a.at + head_size a.form + n) x)) c.padding_of-unused.ensures))
