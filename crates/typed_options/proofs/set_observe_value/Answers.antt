-- `set_observe_value` is `set_option` and then `put_value`, with the bytes of a number of 32 bits.
use Prim.Native.Nat.{ℕ}
use mathlib.Core.Path.{◌≡◌, ap, ◌∙◌}
use mathlib.Core.List.{[], ◌∷◌}
use native.Mathlib.Omega.{arith}
use lib.ListN.{length}
use Rattle.rfc.specs.Uint.{uint}
use Rattle.rfc.proofs.Uint.{uint_enough, length_uint}
use Rattle.refusal.specs.Answer.{beside}
use Rattle.packet.specs.declared.Home.TheVariants.{Edits}
use Rattle.editing.specs.Edit.{option_set}
use Rattle.typed_options.specs.Setters.{range_at, observe_set}
use Rattle.typed_options.proofs.Setters.{sets_edit}
use Rattle.typed_options.proofs.set_observe_value.Goals as goal

pub overflow_cast-len : goal.overflow_cast-len
overflow_cast-len c =
    omega (arith, c.uint_length-len.ensures, length_uint 8 c.args.value)

pub returns : goal.returns
unfolding observe_set
returns c =
    let a = c.args in
    let bytes : uint 8 a.value ≡ uint 4 a.value = uint_enough 4 4 a.value (omega (arith, c.ranges.value)) in
    sets_edit a.packet (option_set a.packet 6 (range_at a.start (uint 4 a.value) ∷ [])) a.start (uint 4 a.value) (uint 8 a.value) a.edits.now c.set_option-edit.result _ _
    (c.set_option-edit.ensures ∙ ap (λ (n : ℕ). beside a.packet (option_set a.packet 6 (record { home = Edits; start = a.start; len = n } ∷ []))) (c.uint_length-len.ensures ∙ ap length bytes)) bytes (c.put_value.ensures a.packet)
