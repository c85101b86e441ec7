-- `put_unhexed` meets its contract: it goes by `is_hex`, and then the bytes have room or they do not.
use mathlib.Core.Bool.{true}
use mathlib.Core.Path.{◌≡◌, sym, ◌∙◌}
use native.Mathlib.Omega.{arith}
use Rattle.hexadecimal.specs.Hex.{is_hex}
use Rattle.hexadecimal.proofs.Laws.{unhex_room, unhex_put}
use Rattle.hexadecimal.proofs.put_unhexed.Goals.{Else-not-is_hex}
use Rattle.hexadecimal.proofs.put_unhexed.Goals as goal

-- Past the first test the text is hexadecimal.
judged : (c : Else-not-is_hex) → is_hex c.args.text.now ≡ true
judged c = sym c.is_hex.ensures ∙ c.if-not-is_hex.false

pub returns-then-out-at-2 : goal.returns-then-out-at-2
returns-then-out-at-2 c =
    let a = c.args in
    let said = unhex_room a.out.now a.text.now a.at (judged (goal.at.returns-then-out-at-2 c).Else-not-is_hex) (omega arith) in
    record { result_value = said.0; out_after = said.1 }

pub returns : goal.returns
returns c =
    let a = c.args in
    let said = unhex_put a.out.now a.text.now a.at (judged (goal.at.returns c).Else-not-is_hex) (omega arith) c.put_pairs.ensures in
    record { result_value = said.0; out_after = said.1 }
