-- `judge`: the header decides, or leaves the answer to the options or to their absence.
use mathlib.Core.Path.{sym, ap, ◌∙◌}
use Rattle.std.proofs.lemmas.Result.{err_from_is_err_and}
use Rattle.refusal.specs.Answer.{Answer, given, onward}
use Rattle.packet.specs.declared.Packet.{Packet}
use Rattle.scanning.specs.Scanning.{span_of}
use Rattle.scanning.proofs.Judged.{headed_refused, headed_open}
use Rattle.scanning.proofs.judge.Goals as goal

pub walked-requires : goal.walked-requires
walked-requires c =
    let o = headed_open c.args.strict c.args.datagram.now _ (sym c.in_ok-raw.ensures) in
    rw c.token_length.ensures (o.inside, o.short)

pub returns-then-option_at : goal.returns-then-option_at
returns-then-option_at c =
    let o = headed_open c.args.strict c.args.datagram.now _ (sym c.in_ok-raw.ensures) in
    rw c.token_length.ensures at c.walked.ensures.result_value ∙ sym o.rest

pub bare-requires : goal.bare-requires
bare-requires c =
    let o = headed_open c.args.strict c.args.datagram.now _ (sym c.in_ok-raw.ensures) in
    (rw c.token_length.ensures o.inside, o.short, sym c.if-option_at.ensures)

pub returns-in_err-raw : goal.returns-in_err-raw
returns-in_err-raw c =
    let p = err_from_is_err_and c.from_residual.result c.from_residual.ensures.1 in
    rw (p.1, p.2)
    (ap (λ (x : Answer Packet). onward x (λ p. given (span_of p))) (sym (headed_refused c.args.strict c.args.datagram.now _ (sym c.in_err-raw.ensures))))

pub returns : goal.returns
returns c =
    let o = headed_open c.args.strict c.args.datagram.now _ (sym c.in_ok-raw.ensures) in
    rw c.token_length.ensures at c.bare.ensures ∙ sym o.rest
