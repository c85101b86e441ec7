-- What a packet means over two stores: the message of its header, and of the bytes that its ranges name.
use Rattle.std.specs.Prelude.{map}
use Rattle.rfc.specs.Message.{Message, Opt}
use Rattle.class.specs.Class.{byte_of}
use Rattle.header.specs.Header.{number_of_type}
use Rattle.packet.specs.Packet.{Stores, bytes_of, value_of, records_of}
use Rattle.packet.specs.declared.Packet.{Packet}
use Rattle.packet.specs.declared.OptionRecord.{OptionRecord}

-- The option of a record: its number and the bytes of its value.
abbrev pub option_of : Stores → OptionRecord → Opt
option_of s r = record { number = r.number; value = value_of s r }

-- The message of a packet: version, type, code byte, id, token bytes, list of (number, value bytes), payload bytes.
abbrev pub meaning : Stores → Packet → Message
meaning s p =
    record {
      version = p.header.version;
      type = number_of_type p.header.message_type;
      code = byte_of p.header.code;
      id = p.header.message_id;
      token = bytes_of s p.token;
      options = map (option_of s) (records_of p);
      payload = bytes_of s p.payload;
    }
