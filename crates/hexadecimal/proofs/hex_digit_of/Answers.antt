-- `hex_digit_of` meets its contract: each range of bytes has its law.
use mathlib.Core.Path.{sym}
use native.Mathlib.Omega.{arith}
use Rattle.hexadecimal.proofs.Digits.{of_decimal, of_letter, of_below, of_between, of_above, some_digit, no_digit}
use Rattle.hexadecimal.proofs.hex_digit_of.Goals as goal

pub returns-in-48-to-57 : goal.returns-in-48-to-57
returns-in-48-to-57 c = some_digit (sym (of_decimal _ (omega arith) (omega arith))) (omega arith)

pub returns-in-97-to-102 : goal.returns-in-97-to-102
returns-in-97-to-102 c = some_digit (sym (of_letter _ (omega arith) (omega arith))) (omega arith)

pub returns-in_default : goal.returns-in_default
returns-in_default c = no_digit (sym (of_below _ (omega arith)))

pub returns-in_default-2 : goal.returns-in_default-2
returns-in_default-2 c = no_digit (sym (of_between _ (omega arith) (omega arith)))

pub returns-in_default-3 : goal.returns-in_default-3
returns-in_default-3 c = no_digit (sym (of_above _ (omega arith)))
