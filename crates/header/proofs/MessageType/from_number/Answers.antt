-- `MessageType::from_number`: each arm knows the low two bits.
use Rattle.std.proofs.Common.{◌%◌, ◌≢◌, arith}
use borrow.Author.Tests.{ne_eqb}
use Rattle.header.specs.Header.{type_of}
use Rattle.header.proofs.MessageType.from_number.Goals as goal

pub returns-in-0 : goal.returns-in-0
unfolding type_of
returns-in-0 c = rw c.in-0.is

pub returns-in-1 : goal.returns-in-1
unfolding type_of
returns-in-1 c = rw c.in-1.is

pub returns-in-2 : goal.returns-in-2
unfolding type_of
returns-in-2 c = rw c.in-2.is

pub returns-in_default : goal.returns-in_default
unfolding type_of
returns-in_default c =
    let zero : c.args.number % 4 ≢ 0 = omega arith in
    let one : c.args.number % 4 ≢ 1 = omega arith in
    let two : c.args.number % 4 ≢ 2 = omega arith in
    simp (ne_eqb _ _ zero, ne_eqb _ _ one, ne_eqb _ _ two)
