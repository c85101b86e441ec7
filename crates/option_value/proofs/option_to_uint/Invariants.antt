-- `option_to_uint` meets its contract: the bytes read and those left make the number (`Reading`).
use Rattle.option_value.proofs.Reading.{Reading}
use Rattle.option_value.proofs.option_to_uint.Given as goal

abbrev pub invariant-loop-byte : goal.invariant-loop-byte
invariant-loop-byte l = Reading l.encoded l.value l.byte-index
