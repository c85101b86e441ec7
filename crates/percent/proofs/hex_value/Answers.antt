-- `hex_value` meets its contract: each run by computing.
use native.Mathlib.Omega.{arith}
use Rattle.rfc.specs.Percent.{hex_value}
use Rattle.percent.proofs.Chars.{hex_run, no_hex_run, some_digit, no_digit}
use Rattle.percent.proofs.hex_value.Goals as goal

pub returns-in-48-to-57 : goal.returns-in-48-to-57
unfolding hex_value
returns-in-48-to-57 c = some_digit (hex_run 0x30 0x39 0x30 tt c.args.c (omega arith) (omega arith)) (omega arith)

pub returns-in-65-to-70 : goal.returns-in-65-to-70
unfolding hex_value
returns-in-65-to-70 c = some_digit (hex_run 0x41 0x46 0x37 tt c.args.c (omega arith) (omega arith)) (omega arith)

pub returns-in-97-to-102 : goal.returns-in-97-to-102
unfolding hex_value
returns-in-97-to-102 c = some_digit (hex_run 0x61 0x66 0x57 tt c.args.c (omega arith) (omega arith)) (omega arith)

pub returns-in_default : goal.returns-in_default
unfolding hex_value
returns-in_default c = no_digit (no_hex_run 0x0 0x2F tt c.args.c (omega arith) (omega arith))

pub returns-in_default-2 : goal.returns-in_default-2
unfolding hex_value
returns-in_default-2 c = no_digit (no_hex_run 0x3A 0x40 tt c.args.c (omega arith) (omega arith))

pub returns-in_default-3 : goal.returns-in_default-3
unfolding hex_value
returns-in_default-3 c = no_digit (no_hex_run 0x47 0x60 tt c.args.c (omega arith) (omega arith))

pub returns-in_default-4 : goal.returns-in_default-4
unfolding hex_value
returns-in_default-4 c = no_digit (no_hex_run 0x67 0xFF tt c.args.c (omega arith) (omega arith))
