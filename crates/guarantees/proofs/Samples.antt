-- The sample datagrams, computed by the definitions.
use mathlib.Core.Path.{refl}
use Rattle.class.specs.Class.{class_of}
use Rattle.header.specs.Header.{header_of, raw_in, type_of}
use Rattle.packet.specs.Packet.{bytes_in}
use Rattle.option_reading.specs.Option.{extended, value_at, length_at, option_at, place_at}
use Rattle.reading.specs.Options.{options}
use Rattle.reading.specs.Reading.{packet_of, finished, after_header, reading}
use Rattle.guarantees.specs.Samples.{table, Samples}

pub samples : Samples
unfolding table reading after_header finished packet_of options place_at option_at length_at value_at extended bytes_in header_of raw_in class_of type_of
samples = (refl, refl)
