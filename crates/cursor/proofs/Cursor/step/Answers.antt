-- `Cursor::step`: a test for each refusal that is not the place's, and else what stands at the cursor.
use Rattle.std.proofs.Common.{ℕ, ◌≤◌, ◌≡◌, List, length, sym, ap, ◌∙◌, arith}
use borrow.Author.Tests.{lt-ltb, le-ltb, eq-eqb, ne_eqb}
use Rattle.std.proofs.lemmas.Result.{err_from_is_err_and}
use Rattle.ground.proofs.Part.{bytes_of}
use Rattle.refusal.specs.Answer.{given}
use Rattle.refusal.proofs.Answers.{on_given}
use Rattle.packet.specs.Packet.{in_datagram}
use Rattle.packet.specs.declared.OptionRecord.{OptionRecord}
use Rattle.option_reading.specs.Option.{option, place_at, placed}
use Rattle.option_reading.proofs.Within.{here, inside_here}
use Rattle.cursor.specs.Cursor.{passed, past, rest_at, step_of, record_of}
use Rattle.cursor.proofs.Places.{Recorded, place_recorded, step_found}
use Rattle.cursor.proofs.Cursor.step.Goals as goal

-- The record of an option that was found is made of its number and its range.
recorded : (s : List ℕ) (most number at : ℕ) (r : OptionRecord) → length s ≤ 70000 → given (option r) ≡ placed most s number at
    → r ≡ record_of r.number (in_datagram r.start r.len)
recorded s most number at r short e =
    on_given Recorded (place_at most s number at) (option r) (place_recorded most s number at) (here most s number at short e)

pub returns-then-datagram-gt-MAX_STORE : goal.returns-then-datagram-gt-MAX_STORE
unfolding step_of
returns-then-datagram-gt-MAX_STORE c = rw (lt-ltb _ _ c.if-datagram-gt-MAX_STORE.true)

pub returns-then-datagram-at : goal.returns-then-datagram-at
unfolding step_of
returns-then-datagram-at c = rw (le-ltb _ _ c.if-datagram-gt-MAX_STORE.false, lt-ltb _ _ c.if-datagram-at.true)

pub returns-then-marker_alone : goal.returns-then-marker_alone
unfolding rest_at
returns-then-marker_alone c =
    let a = c.args in
    sym (step_found a.datagram.now a.self c.if-datagram-gt-MAX_STORE.false c.if-datagram-at.false _ c.longest_value.ensures _ (rw c.in-End.is at c.in_ok-marked.ensures)
    ∙ rw (sym c.if-marker_alone.ensures))

pub overflow_cast-result : goal.overflow_cast-result
overflow_cast-result c =
    omega (arith, inside_here _ c.args.datagram.now _ _ c.if-datagram-gt-MAX_STORE.false _ (bytes_of c.args.datagram.now (λ i. omega (arith, c.type_inv.datagram i))) (rw c.in-End.is at c.in_ok-marked.ensures))

pub overflow_sub-result : goal.overflow_sub-result
overflow_sub-result c =
    omega (arith, inside_here _ c.args.datagram.now _ _ c.if-datagram-gt-MAX_STORE.false _ (bytes_of c.args.datagram.now (λ i. omega (arith, c.type_inv.datagram i))) (rw c.in-End.is at c.in_ok-marked.ensures))

pub returns-then-self-eq0 : goal.returns-then-self-eq0
returns-then-self-eq0 c =
    let a = c.args in
    sym (step_found a.datagram.now a.self c.if-datagram-gt-MAX_STORE.false c.if-datagram-at.false _ c.longest_value.ensures _ (rw c.in-Option.is at c.in_ok-marked.ensures)
    ∙ rw (eq-eqb _ _ c.if-self-eq0.true))

pub returns-in_err-marked : goal.returns-in_err-marked
returns-in_err-marked c =
    let a = c.args in
    let p = err_from_is_err_and c.from_residual.result c.from_residual.ensures.1 in
    rw (p.1, p.2)
    (sym (step_found a.datagram.now a.self c.if-datagram-gt-MAX_STORE.false c.if-datagram-at.false _ c.longest_value.ensures _ c.in_err-marked.ensures))

pub returns-else-marker_alone : goal.returns-else-marker_alone
unfolding rest_at
returns-else-marker_alone c =
    let a = c.args in
    sym (step_found a.datagram.now a.self c.if-datagram-gt-MAX_STORE.false c.if-datagram-at.false _ c.longest_value.ensures _ (rw c.in-End.is at c.in_ok-marked.ensures)
    ∙ rw (sym c.if-marker_alone.ensures))

pub returns-else-self-eq0 : goal.returns-else-self-eq0
returns-else-self-eq0 c =
    let a = c.args in
    let r = c.in-Option.r in
    let short = c.if-datagram-gt-MAX_STORE.false in
    sym (step_found a.datagram.now a.self short c.if-datagram-at.false _ c.longest_value.ensures _ (rw c.in-Option.is at c.in_ok-marked.ensures)
    ∙ rw (ne_eqb _ _ c.if-self-eq0.false) (ap (λ (o : OptionRecord). given (passed o (past a.self r))) (recorded a.datagram.now _ _ _ r short (rw c.in-Option.is at c.in_ok-marked.ensures))))
