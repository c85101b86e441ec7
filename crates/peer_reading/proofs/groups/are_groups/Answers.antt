-- `are_groups`: the whole is groups exactly when what is left is (`Judging`).
use native.Mathlib.Omega.{arith}
use Rattle.peer_reading.proofs.Grouping.{told_none, told_digit, no_groups, some_groups, judging_end, no_digit_before, colon, no_digit, fifth_digit, digit}
use Rattle.peer_reading.proofs.groups.are_groups.Goals as goal
use Rattle.peer_reading.proofs.groups.are_groups.Goals.{then-byte-eq58+else-digits-eq0, else-byte-eq58+else-is_none+else-digits-gt3}

pub returns-then-text-eq0 : goal.returns-then-text-eq0
returns-then-text-eq0 c = no_groups _ c.if-text-eq0.true

pub returns-then-digits-eq0 : goal.returns-then-digits-eq0
returns-then-digits-eq0 c =
    let l = c.loop-byte in
    some_groups c.args.text.now c.if-text-eq0.false _ (no_digit_before c.args.text.now l.digits l.byte-index l.invariant (omega arith) c.if-byte-eq58.true c.if-digits-eq0.true)

pub returns-then-is_none : goal.returns-then-is_none
returns-then-is_none c =
    let l = c.loop-byte in
    some_groups c.args.text.now c.if-text-eq0.false _
    (no_digit c.args.text.now l.digits l.byte-index l.invariant (omega arith) c.if-byte-eq58.false (told_none _ _ (rw c.hex_value.ensures at c.is_none.ensures) c.if-is_none.true))

pub returns-then-digits-gt3 : goal.returns-then-digits-gt3
returns-then-digits-gt3 c =
    let l = c.loop-byte in
    some_groups c.args.text.now c.if-text-eq0.false _
    (fifth_digit c.args.text.now l.digits l.byte-index l.invariant (omega arith) c.if-byte-eq58.false (told_digit _ _ (rw c.hex_value.ensures at c.is_none.ensures) c.if-is_none.false) c.if-digits-gt3.true)

pub loop-byte-preserved : goal.loop-byte-preserved
loop-byte-preserved c =
    let l = c.loop-byte in
    elim c.if-byte-eq58.branch [
      | then-byte-eq58+else-digits-eq0 w ↦ rw w.digits-is (colon c.args.text.now l.digits l.byte-index l.invariant (omega arith) w.if-byte-eq58.true w.if-digits-eq0.false)
      | else-byte-eq58+else-is_none+else-digits-gt3 w ↦
          rw w.digits-is
          (digit c.args.text.now l.digits l.byte-index l.invariant (omega arith) w.if-byte-eq58.false (told_digit _ _ (rw w.hex_value.ensures at w.is_none.ensures) w.if-is_none.false) w.if-digits-gt3.false)
    ]

pub returns : goal.returns
returns c =
    let l = c.loop-byte in
    some_groups c.args.text.now c.if-text-eq0.false _ (judging_end c.args.text.now l.digits l.byte-index l.invariant (omega arith))
