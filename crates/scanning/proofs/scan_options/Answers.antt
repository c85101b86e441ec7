-- `scan_options`: what the walk refuses is refused, and of what it finds good head and options are put, where there is room for both.
use Prim.Native.Nat.{ℕ}
use mathlib.Core.Path.{sym, ap, subst, ◌∙◌}
use native.Mathlib.Omega.{arith}
use lib.ListN.{length}
use lib.Seq.{length-sets}
use Rattle.ground.proofs.Part.{bytes_of}
use Rattle.scanning.specs.Plain.{head_in, options_from, Places}
use Rattle.scanning.proofs.Judged.{good, scan_full, scan_puts}
use Rattle.scanning.proofs.scan_options.Goals as goal

pub overflow_mul-count : goal.overflow_mul-count
overflow_mul-count c =
    let s = c.args.datagram.now in
    let g = good c.args.strict s (bytes_of s (λ i. omega (arith, c.type_inv.datagram i))) _ (c.in_ok-extent.ensures.result_value ∙ sym c.requires.rest) in
    omega (arith, g.few)

pub overflow_add-count : goal.overflow_add-count
overflow_add-count c =
    let s = c.args.datagram.now in
    let g = good c.args.strict s (bytes_of s (λ i. omega (arith, c.type_inv.datagram i))) _ (c.in_ok-extent.ensures.result_value ∙ sym c.requires.rest) in
    omega (arith, g.few)

pub returns-then-out-count : goal.returns-then-out-count
returns-then-out-count c =
    let a = c.args in
    let s = a.datagram.now in
    let g = good a.strict s (bytes_of s (λ i. omega (arith, c.type_inv.datagram i))) _ (c.in_ok-extent.ensures.result_value ∙ sym c.requires.rest) in
    let p = scan_full a.strict s a.out.now _ g c.if-out-count.true in
    record { result_value = p.0; out_after = p.1 }

pub put_head-requires : goal.put_head-requires
put_head-requires c =
    let s = c.args.datagram.now in
    let g = good c.args.strict s (bytes_of s (λ i. omega (arith, c.type_inv.datagram i))) _ (c.in_ok-extent.ensures.result_value ∙ sym c.requires.rest) in
    (omega arith, g.long, g.short, g.payload, g.few)

pub put_options-requires : goal.put_options-requires
put_options-requires c =
    let a = c.args in
    let s = a.datagram.now in
    let g = good a.strict s (bytes_of s (λ i. omega (arith, c.type_inv.datagram i))) _ (c.in_ok-extent.ensures.result_value ∙ sym c.requires.rest) in
    let same = ap length c.put_head.ensures ∙ length-sets a.out.now 0 (head_in s c.in_ok-extent.extent.payload c.in_ok-extent.extent.count) in
    record {
      buf_in_bounds = (g.token, g.short, omega (arith, same), g.few, omega (arith, g.few));
      count_value = (g.count ∙ ap length (sym g.records), subst (λ (n : ℕ). Places n (options_from a.strict s n) c.walked.new.places) c.requires.is c.walked.ensures.places);
    }

pub returns : goal.returns
returns c =
    let a = c.args in
    let s = a.datagram.now in
    let g = good a.strict s (bytes_of s (λ i. omega (arith, c.type_inv.datagram i))) _ (c.in_ok-extent.ensures.result_value ∙ sym c.requires.rest) in
    let p = scan_puts a.strict s a.out.now _ g (omega arith) _ _ c.put_head.ensures c.put_options.ensures in
    record { result_value = p.0; out_after = p.1 }
