-- `set_content_format` is `add_option` and then `put_value`, with the bytes of a number of 16 bits.
use Prim.Native.Nat.{ℕ}
use mathlib.Core.Path.{◌≡◌, ap, ◌∙◌}
use native.Mathlib.Omega.{arith}
use lib.ListN.{length}
use Rattle.rfc.specs.Uint.{uint}
use Rattle.rfc.proofs.Uint.{uint_enough, length_uint}
use Rattle.refusal.specs.Answer.{beside}
use Rattle.packet.specs.declared.Home.TheVariants.{Edits}
use Rattle.editing.specs.Edit.{added}
use Rattle.typed_options.specs.Setters.{range_at, format_set}
use Rattle.typed_options.proofs.Setters.{sets_edit}
use Rattle.typed_options.proofs.set_content_format.Goals as goal

pub overflow_cast-len : goal.overflow_cast-len
overflow_cast-len c =
    omega (arith, c.uint_length-len.ensures, length_uint 8 c.args.format)

pub returns : goal.returns
unfolding format_set
returns c =
    let a = c.args in
    let bytes : uint 8 a.format ≡ uint 2 a.format = uint_enough 2 6 a.format (omega (arith, c.ranges.format)) in
    sets_edit a.packet (added a.packet 12 (range_at a.start (uint 2 a.format))) a.start (uint 2 a.format) (uint 8 a.format) a.edits.now c.add_option-edit.result _ _
    (c.add_option-edit.ensures ∙ ap (λ (n : ℕ). beside a.packet (added a.packet 12 (record { home = Edits; start = a.start; len = n }))) (c.uint_length-len.ensures ∙ ap length bytes)) bytes (c.put_value.ensures a.packet)
