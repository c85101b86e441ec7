-- `is_hex` meets its contract: all are digits where those that are left are.
use mathlib.Core.Path.{◌≡◌}
use lib.ListN.{drop}
use Rattle.hexadecimal.specs.Hex.{all_digits}
use Rattle.hexadecimal.proofs.is_hex.Given as goal

abbrev pub invariant-loop-byte : goal.invariant-loop-byte
invariant-loop-byte l = all_digits l.text ≡ all_digits (drop l.byte-index l.text)
