-- `hear`: one law for each way out.
use mathlib.Core.Path.{sym, ◌∙◌}
use native.Mathlib.Omega.{arith}
use Rattle.hearing.proofs.Answers.{is_back, is_short, is_passed, is_duplicate, is_full, is_new}
use Rattle.hearing.proofs.hear.Goals as goal

pub returns-then-time-before : goal.returns-then-time-before
returns-then-time-before c = is_back _ _ _ c.if-time-before.true

pub returns-then-table-lt-TABLE_SIZE : goal.returns-then-table-lt-TABLE_SIZE
returns-then-table-lt-TABLE_SIZE c = is_short _ _ _ c.if-time-before.false c.if-table-lt-TABLE_SIZE.true

pub returns-then-number-gt1 : goal.returns-then-number-gt1
returns-then-number-gt1 c =
    is_passed _ _ _ c.if-time-before.false c.if-table-lt-TABLE_SIZE.false (omega (arith, c.to_number-number.ensures))

pub returns-then-is_known : goal.returns-then-is_known
returns-then-is_known c =
    let is = c.to_number-number.ensures in
    is_duplicate _ _ _ c.if-time-before.false c.if-table-lt-TABLE_SIZE.false (omega (arith, is))
    (sym (rw is at c.is_known.ensures) ∙ c.if-is_known.true)

pub returns-in_default : goal.returns-in_default
returns-in_default c =
    let is = c.to_number-number.ensures in
    is_full _ _ _ c.if-time-before.false c.if-table-lt-TABLE_SIZE.false (omega (arith, is))
    (sym (rw is at c.is_known.ensures) ∙ c.if-is_known.false) c.in_default.ensures

pub returns : goal.returns
returns c =
    let is = c.to_number-number.ensures in
    is_new _ _ _ c.if-time-before.false c.if-table-lt-TABLE_SIZE.false (omega (arith, is))
    (sym (rw is at c.is_known.ensures) ∙ c.if-is_known.false) _ c.in-Some.ensures.0 c.in-Some.ensures.1 (omega arith) _ _ (rw is at c.put_entry.ensures)
