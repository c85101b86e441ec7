-- `is_query` meets its contract: three characters by computing, the rest as in a segment.
use mathlib.Core.Path.{refl, ◌∙◌}
use native.Mathlib.Omega.{arith}
use Rattle.rfc.specs.Uri.{literal}
use Rattle.percent.proofs.Chars.{query_else}
use Rattle.percent.proofs.is_query.Goals as goal

pub returns-in-38 : goal.returns-in-38
unfolding literal
returns-in-38 c = rw c.in-38.is refl

pub returns-in-47 : goal.returns-in-47
unfolding literal
returns-in-47 c = rw c.in-47.is refl

pub returns-in-63 : goal.returns-in-63
unfolding literal
returns-in-63 c = rw c.in-63.is refl

pub returns-in_default : goal.returns-in_default
returns-in_default c = c.is_pchar.ensures ∙ query_else _ (omega arith) (omega arith) (omega arith)
