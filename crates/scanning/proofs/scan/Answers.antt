-- `scan`: the header decides, or leaves the answer to the options or to their absence.
use mathlib.Core.Path.{sym}
use Rattle.std.proofs.lemmas.Result.{err_from_is_err_and}
use Rattle.scanning.proofs.Judged.{headed_refused, headed_open, scan_refused}
use Rattle.scanning.proofs.scan.Goals as goal

pub scan_options-requires : goal.scan_options-requires
scan_options-requires c = rw c.token_length.ensures (headed_open c.args.strict c.args.datagram.now _ (sym c.in_ok-raw.ensures))

pub scan_bare-requires : goal.scan_bare-requires
scan_bare-requires c = (rw c.token_length.ensures (headed_open c.args.strict c.args.datagram.now _ (sym c.in_ok-raw.ensures)), sym c.if-option_at.ensures)

pub returns-in_err-raw : goal.returns-in_err-raw
returns-in_err-raw c =
    let a = c.args in
    let p = scan_refused a.strict a.datagram.now a.out.now _ (headed_refused a.strict a.datagram.now _ (sym c.in_err-raw.ensures)) in
    let e = err_from_is_err_and c.from_residual.result c.from_residual.ensures.1 in
    rw (e.1, e.2) (record { result_value = p.0; out_after = p.1 })
