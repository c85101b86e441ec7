-- `body_at`: the walk over the chunks keeps the whole answer.
use mathlib.Core.Path.{sym, ◌∙◌}
use native.Mathlib.Omega.{arith}
use Rattle.stream.proofs.Walk.{body_start, body_ends, body_stops, body_refused, body_turn, chunk_of}
use Rattle.stream.proofs.body_at.Goals as goal

pub loop-form-init : goal.loop-form-init
loop-form-init c = rw c.full_of-whole.ensures (body_start c.args.form c.args.stream.now c.args.from c.requires)

pub returns-then-byte_at-eq3 : goal.returns-then-byte_at-eq3
returns-then-byte_at-eq3 c = body_ends _ _ _ _ _ _ c.loop-form.invariant (sym c.byte_at.ensures.is ∙ c.if-byte_at-eq3.true)

pub returns-then-before-whole : goal.returns-then-before-whole
returns-then-before-whole c =
    body_stops _ _ _ _ _ _ c.loop-form.invariant (λ q. c.if-byte_at-eq3.false (c.byte_at.ensures.is ∙ q)) (omega (arith, c.full_of-whole.ensures))

pub returns-in_default : goal.returns-in_default
returns-in_default c =
    body_refused _ _ _ _ _ _ c.loop-form.invariant (λ q. c.if-byte_at-eq3.false (c.byte_at.ensures.is ∙ q)) (omega (arith, c.full_of-whole.ensures)) c.in_default.ensures

pub overflow_add-len : goal.overflow_add-len
overflow_add-len c =
    let k = chunk_of c.args.form c.args.stream.now c.loop-form.at c.in-Some.n (sym c.in-Some.ensures) in
    omega (arith, k.inside, c.loop-form.invariant.short)

pub overflow_add-at-in-loop-form : goal.overflow_add-at-in-loop-form
overflow_add-at-in-loop-form c =
    let k = chunk_of c.args.form c.args.stream.now c.loop-form.at c.in-Some.n (sym c.in-Some.ensures) in
    omega (arith, k.inside, c.head_of.ensures)

pub overflow_add-at-in-loop-form-2 : goal.overflow_add-at-in-loop-form-2
overflow_add-at-in-loop-form-2 c =
    let k = chunk_of c.args.form c.args.stream.now c.loop-form.at c.in-Some.n (sym c.in-Some.ensures) in
    omega (arith, k.inside, c.head_of.ensures, c.padding_of.ensures)

pub loop-form-smaller : goal.loop-form-smaller
loop-form-smaller c =
    let k = chunk_of c.args.form c.args.stream.now c.loop-form.at c.in-Some.n (sym c.in-Some.ensures) in
    omega (arith, k.inside, k.some, c.head_of.ensures, c.padding_of.ensures)

pub loop-form-preserved : goal.loop-form-preserved
loop-form-preserved c =
    rw (c.head_of.ensures, c.padding_of.ensures)
    (body_turn _ _ _ _ _ _ c.loop-form.invariant c.in-Some.n (λ q. c.if-byte_at-eq3.false (c.byte_at.ensures.is ∙ q)) (omega (arith, c.full_of-whole.ensures)) c.in-Some.ensures)
