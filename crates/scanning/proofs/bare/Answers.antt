-- `bare`: the datagram's end, or the marker.
use mathlib.Core.Path.{sym, ◌∙◌}
use native.Mathlib.Omega.{arith}
use Rattle.scanning.proofs.Judged.{bare_end, bare_alone, bare_well}
use Rattle.scanning.proofs.bare.Goals as goal

pub returns-then-buf-start : goal.returns-then-buf-start
returns-then-buf-start c =
    bare_end c.args.strict c.args.buf.now c.args.start c.requires.0 c.if-buf-start.true

pub returns-then-marker_alone : goal.returns-then-marker_alone
returns-then-marker_alone c =
    bare_alone c.args.strict c.args.buf.now c.args.start (omega (arith, c.if-buf-start.false)) c.requires.2 (sym c.marker_alone.ensures ∙ c.if-marker_alone.true)

pub returns : goal.returns
returns c =
    bare_well c.args.strict c.args.buf.now c.args.start (omega (arith, c.if-buf-start.false)) c.requires.2 (sym c.marker_alone.ensures ∙ c.if-marker_alone.false)
