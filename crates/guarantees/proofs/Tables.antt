-- Tables, from the agreement of the class table with the rule, and from the one computed test of each list of numbers.
use Rattle.class.proofs.Agreement.{agrees}
use Rattle.class.proofs.Class.{byte_back}
use Rattle.tables.proofs.Once.{counts, one_option, one_format}
use Rattle.guarantees.specs.Tables.{EntriesAgree, BytesComeBack, Named}

pub entries_agree : EntriesAgree
entries_agree = agrees

pub bytes_come_back : BytesComeBack
bytes_come_back = byte_back

pub named : Named
named = record { options = counts.0; formats = counts.1; option_once = one_option; format_once = one_format }
