-- `OptionValue::into_bytes` meets its contract: 8 bytes of width and those of the type give the same shortest bytes.
use Rattle.option_value.proofs.Uints.{uint_narrow}
use Rattle.option_value.proofs.OptionValue.into_bytes.Goals as goal

pub returns : goal.returns
returns g c =
    let e = uint_narrow g.T.Width.BYTES c.widened.result g.met.T.Width.at_most_eight c.widened.ensures.fits in
    record {
      result_value = rw (e, c.widened.ensures.result_value) at c.option_from_uint.ensures.result_value;
      out_after = rw (e, c.widened.ensures.result_value) at c.option_from_uint.ensures.out_after;
    }
