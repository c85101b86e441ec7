-- `freeze`: what the strict writer leaves in the local array is the datagram.
use mathlib.Core.Path.{◌≡◌, refl, sym, ap, ◌∙◌}
use mathlib.Core.Bool.{true}
use native.Mathlib.Omega.{arith}
use lib.ListN.{length, take, replicate, length-take}
use Rattle.std.proofs.lemmas.Result.{err_from_is_err_and}
use Rattle.refusal.specs.Answer.{given}
use Rattle.packet.specs.Limits.{full_size}
use Rattle.packet.specs.Packet.{held}
use Rattle.measuring.specs.declared.Limit.TheVariants.{Given}
use Rattle.writing.specs.Writing.{writing, bytes_written}
use Rattle.freezing.proofs.Full.{full_written}
use Rattle.freezing.proofs.Freezing.{freezes_nothing, freezes, front}
use Rattle.freezing.proofs.freeze.Goals as goal
use Rattle.freezing.proofs.freeze.Goals.{In_ok-n}

read : (c : In_ok-n) → given c.in_ok-n.n ≡ writing true (Given full_size) full_size (held c.args.stores) c.args.packet
read c = c.in_ok-n.ensures.answer

bytes_are : (c : In_ok-n) → take c.in_ok-n.n c.to_bytes_with_limit_strict.new.out ≡ bytes_written true (held c.args.stores) c.args.packet
bytes_are c = front _ _ _ (replicate full_size 0) _ refl (read c) c.in_ok-n.ensures.output

count : (c : In_ok-n) → length (take c.in_ok-n.n c.to_bytes_with_limit_strict.new.out) ≡ c.in_ok-n.n
count c =
    let a = c.args in
    ap length (bytes_are c) ∙ sym (full_written (held a.stores) a.packet c.in_ok-n.n (sym (read c))).0

pub slice_bounds-message-end : goal.slice_bounds-message-end
slice_bounds-message-end c = omega (arith, count c, length-take c.in_ok-n.n c.to_bytes_with_limit_strict.new.out)

pub slice_bounds-write_message-end : goal.slice_bounds-write_message-end
slice_bounds-write_message-end c = sym (count (goal.at.slice_bounds-write_message-end c).In_ok-n)

pub returns-in_err-n : goal.returns-in_err-n
returns-in_err-n c =
    let p = err_from_is_err_and c.from_residual.result c.from_residual.ensures.1 in
    rw (p.1, p.2) (freezes_nothing _ _ _ _ _ _ _ _ c.in_err-n.ensures.answer refl)

pub returns : goal.returns
returns c =
    freezes _ _ _ _ _ _ _ _ _ (read (goal.at.returns c).In_ok-n) (rw (bytes_are (goal.at.returns c).In_ok-n) at c.write_message.ensures)
