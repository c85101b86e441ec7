-- `put_value` goes by the store's length, by how the edit ended, and by the room for the value.
use native.Mathlib.Omega.{arith}
use Rattle.rfc.proofs.Uint.{length_uint}
use Rattle.typed_options.proofs.put_value.Goals as goal

pub overflow_add-at : goal.overflow_add-at
overflow_add-at c =
    omega (arith, c.uint_length.ensures, length_uint 8 c.args.value)
