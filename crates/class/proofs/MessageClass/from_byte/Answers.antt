-- `MessageClass::from_byte`: the constant is the table that the rule asks for, which the checker computes, all 256 entries of it.
use mathlib.Core.Path.{◌∙◌}
use borrow.Author.Rules.{rules}
use Rattle.class.specs.Table.{entries}
use Rattle.class.proofs.Agreement.{agrees}
use Rattle.class.proofs.MessageClass.from_byte.Goals as goal

pub returns : goal.returns
unfolding entries
returns c = c.class_named.ensures ∙ agrees c.args.number (search rules)
