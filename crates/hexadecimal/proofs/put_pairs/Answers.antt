-- `put_pairs` meets its contract: once the bytes of the pairs that are left are put, all are.
use Prim.Native.Nat.{◌*◌, ◌+◌, ◌<◌}
use mathlib.Core.Path.{◌≡◌, refl, sym, ◌∙◌}
use native.Mathlib.Omega.{arith}
use lib.ListN.{length, get_or}
use Rattle.placing.proofs.Puts.{putting_turn, putting_end}
use Rattle.std.specs.Prelude.{Some}
use Rattle.hexadecimal.specs.Hex.{digit_of}
use Rattle.hexadecimal.proofs.Digits.{some_digit, was_digit, digit_at, pairs_more, pairs_end}
use Rattle.hexadecimal.proofs.put_pairs.Goals.{After-hex_digit_of, After-hex_digit_of-in-loop-i, After-unwrap-high, After-unwrap-low}
use Rattle.hexadecimal.proofs.put_pairs.Goals as goal

-- The digits that a pair is made of are digits.
high : (c : After-hex_digit_of) → c.hex_digit_of.result ≡ Some (digit_of (get_or c.args.text.now (2 * c.loop-i.i) 0))
high c =
    let h : 2 * c.loop-i.i < length c.args.text.now = omega arith in
    c.hex_digit_of.ensures ∙ sym (some_digit refl (digit_at c.args.text.now (2 * c.loop-i.i) c.requires h))

low : (c : After-hex_digit_of-in-loop-i) → c.hex_digit_of-in-loop-i.result ≡ Some (digit_of (get_or c.args.text.now (2 * c.loop-i.i + 1) 0))
low c =
    let h : 2 * c.loop-i.i + 1 < length c.args.text.now = omega arith in
    c.hex_digit_of-in-loop-i.ensures ∙ sym (some_digit refl (digit_at c.args.text.now (2 * c.loop-i.i + 1) c.requires h))

pub unwrap-high-requires : goal.unwrap-high-requires
unwrap-high-requires c = rw (high c) refl

pub unwrap-low-requires : goal.unwrap-low-requires
unwrap-low-requires c = rw (low c) refl

pub loop-i-preserved : goal.loop-i-preserved
loop-i-preserved c =
    let text = c.args.text.now in
    let h : 2 * c.loop-i.i + 1 < length text = omega arith in
    let a = was_digit _ (sym c.unwrap-high.ensures ∙ c.hex_digit_of.ensures) in
    let b = was_digit _ (sym c.unwrap-low.ensures ∙ c.hex_digit_of-in-loop-i.ensures) in
    putting_turn c.loop-i.invariant (rw (a.0, b.0) (pairs_more text c.loop-i.i h)) c.put_byte-next.ensures

pub returns : goal.returns
returns c = putting_end c.loop-i.invariant (pairs_end _ _ c.loop-i-test.false)
