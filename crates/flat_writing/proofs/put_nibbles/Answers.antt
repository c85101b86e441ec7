-- `put_nibbles`: the one byte of a short option; or the byte of the nibbles and the two extensions.
use Prim.Native.Nat.{ℕ, ◌+◌, ◌*◌, ◌<◌, ◌≤◌}
use mathlib.Core.Path.{sym, ap, ◌∙◌}
use native.Mathlib.Omega.{arith}
use lib.ListN.{length-set}
use Rattle.rfc.specs.Message.{nibble_of}
use Rattle.rfc.proofs.Message.{nibble_small}
use Rattle.laying.proofs.Pieces.{both_short}
use Rattle.flat_writing.proofs.Pieces.{extension_short, nibbles_short, nibbles_loosely}
use Rattle.flat_writing.proofs.put_nibbles.Goals as goal

short_at : (c : goal.Then-is_short) → (c.args.delta < 13) × (c.args.len < 13)
short_at c = both_short _ _ (sym c.is_short.ensures ∙ c.if-is_short.true)

pub returns-then-is_short : goal.returns-then-is_short
returns-then-is_short c = let k = short_at c in nibbles_short _ _ _ _ k.0 k.1 c.requires.2

pub overflow_mul-out-2 : goal.overflow_mul-out-2
overflow_mul-out-2 c = let high : c.nibble.result ≤ 14 = rw c.nibble.ensures (nibble_small _) in omega arith

pub overflow_add-out-2 : goal.overflow_add-out-2
overflow_add-out-2 c =
    let high : c.nibble.result ≤ 14 = rw c.nibble.ensures (nibble_small _) in
    let low : c.nibble-2.result ≤ 14 = rw c.nibble-2.ensures (nibble_small _) in
    omega arith

pub put_extension-requires : goal.put_extension-requires
put_extension-requires c =
    let p = c.put_extension-next.ensures in
    (c.requires.1, omega (arith, c.requires.2, p.next, extension_short c.args.delta, simp length-set at p.kept))

pub returns : goal.returns
returns c =
    let a = c.args in
    nibbles_loosely _ _ _ _ _ _ _ _ _ c.requires.2
    (ap (λ (n : ℕ). n * 16 + c.nibble-2.result) c.nibble.ensures ∙ ap (λ (n : ℕ). nibble_of a.delta * 16 + n) c.nibble-2.ensures)
    c.put_extension-next.ensures c.put_extension.ensures
