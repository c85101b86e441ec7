-- `coded_count` meets its contract: those are counted that aren't literal.
use mathlib.Core.Path.{◌≡◌, sym, ◌∙◌}
use borrow.Author.Rules.{rules}
use Rattle.std.specs.Prelude.{count_by, not}
use Rattle.rfc.specs.Uri.{literal}
use Rattle.percent.specs.Step.{kind_of}
use Rattle.percent.proofs.Coding.{others_counted}
use Rattle.percent.proofs.coded_count.Goals as goal

pub returns : goal.returns
returns c =
    let e : c.count.result ≡ count_by (λ b. not (literal (kind_of c.args.kind) b)) c.args.value.now = search rules in
    e ∙ sym (others_counted (kind_of c.args.kind) c.args.value.now)
