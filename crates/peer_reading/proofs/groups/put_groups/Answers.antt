-- `put_groups`: once the bytes of what is left are put, all are.
use mathlib.Core.Path.{sym}
use native.Mathlib.Omega.{arith}
use Rattle.placing.proofs.Puts.{putting_turn, puts_none}
use Rattle.peer_reading.proofs.Grouping.{hex_most, side_none, side_some, bytes_colon, bytes_digit, bytes_end}
use Rattle.peer_reading.proofs.groups.put_groups.Goals as goal
use Rattle.peer_reading.proofs.groups.put_groups.Goals.{then-byte-eq58, else-byte-eq58}

pub returns-then-text-eq0 : goal.returns-then-text-eq0
returns-then-text-eq0 c =
    rw (side_none _ c.if-text-eq0.true) (puts_none _ _)

pub overflow_add-value : goal.overflow_add-value
overflow_add-value c = omega (arith, c.worth.ensures, hex_most)

pub loop-byte-preserved : goal.loop-byte-preserved
loop-byte-preserved c =
    let l = c.loop-byte in
    elim c.if-byte-eq58.branch [
      | then-byte-eq58 w ↦ rw (w.out-is, w.next-is, w.value-is) (putting_turn l.invariant (bytes_colon c.args.text.now l.value l.byte-index (omega arith) w.if-byte-eq58.true) w.put_pair-next.ensures)
      | else-byte-eq58 w ↦
          rw (w.out-is, w.next-is, w.value-is, w.worth.ensures, sym (bytes_digit c.args.text.now l.value l.byte-index (omega arith) w.if-byte-eq58.false)) l.invariant
    ]

pub returns : goal.returns
returns c =
    let l = c.loop-byte in
    rw (side_some c.args.text.now c.if-text-eq0.false)
    (l.invariant.onward _ _ (rw (bytes_end c.args.text.now l.value l.byte-index (omega arith)) c.put_pair.ensures))
