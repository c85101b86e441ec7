-- `is_pchar` meets its contract: single characters by computing, runs by computing each.
use mathlib.Core.Path.{refl}
use native.Mathlib.Omega.{arith}
use Rattle.rfc.specs.Uri.{literal}
use Rattle.percent.proofs.Chars.{literal_run, other_run}
use Rattle.percent.proofs.is_pchar.Goals as goal

pub returns-in-33 : goal.returns-in-33
unfolding literal
returns-in-33 c = rw c.in-33.is refl

pub returns-in-36 : goal.returns-in-36
unfolding literal
returns-in-36 c = rw c.in-36.is refl

pub returns-in-61 : goal.returns-in-61
unfolding literal
returns-in-61 c = rw c.in-61.is refl

pub returns-in-95 : goal.returns-in-95
unfolding literal
returns-in-95 c = rw c.in-95.is refl

pub returns-in-126 : goal.returns-in-126
unfolding literal
returns-in-126 c = rw c.in-126.is refl

pub returns-in-38-to-46 : goal.returns-in-38-to-46
unfolding literal
returns-in-38-to-46 c = literal_run 0x26 0x2E tt c.args.c (omega arith) (omega arith)

pub returns-in-48-to-59 : goal.returns-in-48-to-59
unfolding literal
returns-in-48-to-59 c = literal_run 0x30 0x3B tt c.args.c (omega arith) (omega arith)

pub returns-in-64-to-90 : goal.returns-in-64-to-90
unfolding literal
returns-in-64-to-90 c = literal_run 0x40 0x5A tt c.args.c (omega arith) (omega arith)

pub returns-in-97-to-122 : goal.returns-in-97-to-122
unfolding literal
returns-in-97-to-122 c = literal_run 0x61 0x7A tt c.args.c (omega arith) (omega arith)

pub returns-in_default : goal.returns-in_default
unfolding literal
returns-in_default c = other_run 0x0 0x25 tt c.args.c (omega arith) (omega arith) (omega arith) (omega arith) (omega arith) (omega arith) (omega arith)

pub returns-in_default-2 : goal.returns-in_default-2
unfolding literal
returns-in_default-2 c = other_run 0x2F 0x2F tt c.args.c (omega arith) (omega arith) (omega arith) (omega arith) (omega arith) (omega arith) (omega arith)

pub returns-in_default-3 : goal.returns-in_default-3
unfolding literal
returns-in_default-3 c = other_run 0x3C 0x3F tt c.args.c (omega arith) (omega arith) (omega arith) (omega arith) (omega arith) (omega arith) (omega arith)

pub returns-in_default-4 : goal.returns-in_default-4
unfolding literal
returns-in_default-4 c = other_run 0x5B 0x60 tt c.args.c (omega arith) (omega arith) (omega arith) (omega arith) (omega arith) (omega arith) (omega arith)

pub returns-in_default-5 : goal.returns-in_default-5
unfolding literal
returns-in_default-5 c = other_run 0x7B 0xFF tt c.args.c (omega arith) (omega arith) (omega arith) (omega arith) (omega arith) (omega arith) (omega arith)
