-- `put_hex` meets its contract: once the digits of the bytes that are left are put, all are.
use lib.ListN.{drop}
use Rattle.placing.proofs.Puts.{Putting}
use Rattle.hexadecimal.specs.Hex.{hex, hex_digits}
use Rattle.hexadecimal.proofs.put_hex.Given as goal

abbrev pub invariant-loop-byte : goal.invariant-loop-byte
invariant-loop-byte l = Putting l.initial.out l.at (hex l.bytes) l.out l.next (hex_digits (drop l.byte-index l.bytes))
