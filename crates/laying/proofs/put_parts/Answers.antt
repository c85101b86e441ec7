-- `put_parts`: the byte of a short option and its value; or the byte of the nibbles, the two extensions and the value, one after the other.
use Prim.Native.Nat.{ℕ, ◌+◌, ◌*◌, ◌<◌, ◌≤◌}
use mathlib.Core.Path.{sym, ap, ◌∙◌}
use native.Mathlib.Omega.{arith}
use lib.ListN.{length}
use Rattle.rfc.specs.Message.{nibble_of}
use Rattle.rfc.proofs.Message.{nibble_small}
use Rattle.laying.proofs.Pieces.{both_short, short_put, option_put}
use Rattle.laying.proofs.put_parts.Goals as goal
use Rattle.laying.proofs.put_parts.Goals.{Then-is_short}

short_at : (c : Then-is_short) → (c.args.delta < 13) × (length c.args.value.now < 13)
short_at c = both_short _ _ (sym c.if-is_short.ensures)

pub returns-then-is_short : goal.returns-then-is_short
returns-then-is_short c = let k = short_at (goal.at.returns-then-is_short c).Then-is_short in short_put _ _ k.0 k.1 _ _ _ _ c.requires.2 c.put_bytes.ensures

pub overflow_mul-out-2 : goal.overflow_mul-out-2
overflow_mul-out-2 c = let high : c.nibble.result ≤ 14 = rw c.nibble.ensures (nibble_small _) in omega arith

pub overflow_add-out-2 : goal.overflow_add-out-2
overflow_add-out-2 c = let high : c.nibble.result ≤ 14 = rw c.nibble.ensures (nibble_small _) in let low : c.nibble-2.result ≤ 14 = rw c.nibble-2.ensures (nibble_small _) in omega arith

pub returns : goal.returns
returns c = option_put _ _ _ _ _ _ _ _ _ _ _ (ap (λ (n : ℕ). n * 16 + c.nibble-2.result) c.nibble.ensures ∙ ap (λ (n : ℕ). nibble_of c.args.delta * 16 + n) c.nibble-2.ensures) c.requires.2 c.put_extension-after_delta.ensures c.put_extension-after_length.ensures c.put_bytes-2.ensures
