-- `head_in`: the bytes that the nibbles call for are counted once.
use Prim.Native.Nat.{ℕ, ◌+◌, ◌/◌, ◌%◌}
use mathlib.Core.Path.{◌≡◌, sym}
use native.Mathlib.Omega.{arith}
use lib.ListN.{get_or}
use mathlib.Core.List.{List}
use Rattle.ground.proofs.Part.{bytes_of}
use Rattle.framing.specs.Head.{extra, length_in}
use Rattle.framing.proofs.Heads.{head_is, head_bad, extra_small, length_small}
use Rattle.framing.proofs.head_in.Goals as goal

-- What a nibble of the first byte calls for.
called : (f : List ℕ) (first more len : ℕ) → first ≡ get_or f 0 0 → more ≡ extra (first / 16) → len ≡ length_in f (first / 16)
    → 2 + more + first % 16 + len ≡ 2 + extra (get_or f 0 0 / 16) + get_or f 0 0 % 16 + length_in f (get_or f 0 0 / 16)
called f first more len e m l = rw (l, m, e)

pub returns-then-frame-lt2 : goal.returns-then-frame-lt2
returns-then-frame-lt2 c = sym (head_bad _ _ _ (λ e. omega arith))

pub overflow_add-extra : goal.overflow_add-extra
overflow_add-extra c = omega (arith, c.extra_bytes-extra.ensures, extra_small (c.byte_at-first.result / 16))

pub returns-then-frame-extra : goal.returns-then-frame-extra
returns-then-frame-extra c = sym (head_bad _ _ _ (λ e. omega (arith, rw c.byte_at-first.ensures.is at c.extra_bytes-extra.ensures)))

pub overflow_add-extra-4 : goal.overflow_add-extra-4
overflow_add-extra-4 c = omega (arith, c.extra_bytes-extra.ensures, extra_small (c.byte_at-first.result / 16), c.length_in-length.ensures, length_small c.args.frame.now (c.byte_at-first.result / 16) (bytes_of c.args.frame.now (λ i. omega (arith, c.type_inv.frame i))))

pub returns-then-frame-extra-2 : goal.returns-then-frame-extra-2
returns-then-frame-extra-2 c = sym (head_bad _ _ _ (λ e. omega (arith, called c.args.frame.now _ _ _ c.byte_at-first.ensures.is c.extra_bytes-extra.ensures c.length_in-length.ensures, c.if-frame-extra-2.true)))

pub returns : goal.returns
returns c =
    rw (c.extra_bytes-extra.ensures, c.byte_at-first.ensures.is) (sym (head_is _ _ _ (omega (arith, called c.args.frame.now _ _ _ c.byte_at-first.ensures.is c.extra_bytes-extra.ensures c.length_in-length.ensures))))
