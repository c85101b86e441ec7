-- `OptionValue::try_from` meets its contract: what so many bytes of width read has room in a value of the type, so none of it is lost.
use mathlib.Core.Path.{◌≡◌, sym, ap, ◌∙◌}
use native.Mathlib.Nat.{mod-eq_of_lt}
use Rattle.option_value.specs.Uint.{ReadsUint, uint_of}
use Rattle.option_value.proofs.Uints.{read_narrow}
use Rattle.option_value.proofs.OptionValue.try_from.Goals as goal

pub returns : goal.returns
returns g c =
    let read : ReadsUint g.T.Width.BYTES c.args.value.now (uint_of c.option_to_uint.result) = rw c.BYTES.ensures at c.option_to_uint.ensures in
    let room = read_narrow g.T.Width.BYTES c.args.value.now c.type_inv.value read c.in_ok-read.was in
    rw (c.narrowed.ensures, mod-eq_of_lt room) (sym (ap uint_of c.in_ok-read.was) ∙ read)
