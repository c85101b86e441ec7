-- `lead_of` meets its contract: each arm's bytes have the row that it gives, single bytes by computing it, ranges by `row`.
use mathlib.Core.Path.{refl, ap, ◌∙◌}
use Rattle.std.specs.Prelude.{Some}
use native.Mathlib.Omega.{arith}
use Rattle.utf8.specs.Walk.{due, never}
use Rattle.utf8.specs.Row.{dues, led_by}
use Rattle.rfc.specs.Text.{rows}
use Rattle.utf8.proofs.Utf8.{same, row}
use Rattle.utf8.proofs.lead_of.Goals as goal

pub returns-in-224 : goal.returns-in-224
unfolding rows
returns-in-224 c = rw (c.in-224.is, c.new.ensures) refl

pub returns-in-237 : goal.returns-in-237
unfolding rows
returns-in-237 c = rw (c.in-237.is, c.new-in-237.ensures) refl

pub returns-in-240 : goal.returns-in-240
unfolding rows
returns-in-240 c = rw (c.in-240.is, c.new-in-240.ensures) refl

pub returns-in-244 : goal.returns-in-244
unfolding rows
returns-in-244 c = rw (c.in-244.is, c.new-in-244.ensures) refl

pub returns-in-0-to-127 : goal.returns-in-0-to-127
unfolding rows same
returns-in-0-to-127 c = ap Some c.new-in-0-to-127.ensures ∙ ap led_by (row 0x00 0x7F (due (dues 0 0x80 0xBF)) tt c.args.b (omega arith) (omega arith))

pub returns-in-194-to-223 : goal.returns-in-194-to-223
unfolding rows same
returns-in-194-to-223 c = ap Some c.new-in-194-to-223.ensures ∙ ap led_by (row 0xC2 0xDF (due (dues 1 0x80 0xBF)) tt c.args.b (omega arith) (omega arith))

pub returns-in-225-to-236 : goal.returns-in-225-to-236
unfolding rows same
returns-in-225-to-236 c = ap Some c.new-in-225-to-236.ensures ∙ ap led_by (row 0xE1 0xEC (due (dues 2 0x80 0xBF)) tt c.args.b (omega arith) (omega arith))

pub returns-in-238-to-239 : goal.returns-in-238-to-239
unfolding rows same
returns-in-238-to-239 c = ap Some c.new-in-238-to-239.ensures ∙ ap led_by (row 0xEE 0xEF (due (dues 2 0x80 0xBF)) tt c.args.b (omega arith) (omega arith))

pub returns-in-241-to-243 : goal.returns-in-241-to-243
unfolding rows same
returns-in-241-to-243 c = ap Some c.new-in-241-to-243.ensures ∙ ap led_by (row 0xF1 0xF3 (due (dues 3 0x80 0xBF)) tt c.args.b (omega arith) (omega arith))

pub returns-in_default : goal.returns-in_default
unfolding rows same
returns-in_default c = ap led_by (row 0x80 0xC1 never tt c.args.b (omega arith) (omega arith))

pub returns-in_default-2 : goal.returns-in_default-2
unfolding rows same
returns-in_default-2 c = ap led_by (row 0xF5 0xFF never tt c.args.b (omega arith) (omega arith))
