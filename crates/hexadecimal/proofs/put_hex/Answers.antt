-- `put_hex` meets its contract: once the digits of the bytes that are left are put, all are.
use native.Mathlib.Numerals.{add-one}
use native.Mathlib.Omega.{arith}
use lib.Seq.{drop-cons}
use Rattle.placing.proofs.Puts.{putting_turn}
use Rattle.hexadecimal.proofs.put_hex.Goals as goal

pub loop-byte-preserved : goal.loop-byte-preserved
loop-byte-preserved c =
    putting_turn c.loop-byte.invariant (rw (add-one, drop-cons c.args.bytes.now c.loop-byte.byte-index 0 (omega arith))) c.put_hex_byte-next.ensures
