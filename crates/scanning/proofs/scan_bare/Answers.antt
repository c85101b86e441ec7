-- `scan_bare`: a marker alone is refused, and of what is good the head is put, where there is room for it.
use mathlib.Core.Path.{sym, ◌∙◌}
use native.Mathlib.Omega.{arith}
use Rattle.ground.proofs.Part.{bytes_of}
use Rattle.scanning.proofs.Judged.{good, none_found, scan_full, scan_head}
use Rattle.scanning.proofs.scan_bare.Goals as goal

pub returns-then-out-lt11 : goal.returns-then-out-lt11
returns-then-out-lt11 c =
    let a = c.args in
    let s = a.datagram.now in
    let g = good a.strict s (bytes_of s (λ i. omega (arith, c.type_inv.datagram i))) _ (c.in_ok-extent.ensures ∙ sym c.requires.0.rest) in
    let p = scan_full a.strict s a.out.now _ g (omega arith) in
    record { result_value = p.0; out_after = p.1 }

pub put_head-requires : goal.put_head-requires
put_head-requires c =
    let s = c.args.datagram.now in
    let g = good c.args.strict s (bytes_of s (λ i. omega (arith, c.type_inv.datagram i))) _ (c.in_ok-extent.ensures ∙ sym c.requires.0.rest) in
    (omega arith, g.long, g.short, g.payload, g.few)

pub returns : goal.returns
returns c =
    let a = c.args in
    let s = a.datagram.now in
    let g = good a.strict s (bytes_of s (λ i. omega (arith, c.type_inv.datagram i))) _ (c.in_ok-extent.ensures ∙ sym c.requires.0.rest) in
    let p = scan_head a.strict s a.out.now _ g (none_found a.strict s a.start c.requires.0 c.requires.1) (omega arith) _ c.put_head.ensures in
    record { result_value = p.0; out_after = p.1 }
