-- `put_target` meets its contract: counted, then put.
use Prim.Native.Nat.{◌+◌}
use mathlib.Core.Path.{◌≡◌, sym}
use native.Mathlib.Omega.{arith}
use lib.ListN.{length}
use Rattle.rfc.specs.Uri.{segment, query}
use Rattle.placing.proofs.Puts.{puts_puts}
use Rattle.packet.specs.Packet.{held}
use Rattle.target_writing.specs.ToText.{text_in}
use Rattle.target_writing.proofs.Texts.{packet_small, path_length_small, text_size, no_room_for, room_for}
use Rattle.target_writing.proofs.put_target.Goals.{After-path_length}
use Rattle.target_writing.proofs.put_target.Goals as goal

-- What was counted is the text's length.
size : (c : After-path_length) → c.path_length.result + c.text_length-query.result ≡ length (text_in (held c.args.stores) c.args.packet)
size c = rw (c.path_length.ensures, c.text_length-query.ensures, c.text_length-path.ensures) (sym (text_size (held c.args.stores) c.args.packet))

pub overflow_add-path_length : goal.overflow_add-path_length
overflow_add-path_length c =
    omega (
      arith,
      c.path_length.ensures,
      path_length_small c.text_length-path.result,
      c.text_length-path.ensures,
      c.text_length-query.ensures,
      packet_small (held c.args.stores) segment 11 c.args.packet c.requires,
      packet_small (held c.args.stores) query 15 c.args.packet c.requires,
    )

pub returns-then-out-path_length : goal.returns-then-out-path_length
returns-then-out-path_length c = no_room_for (held c.args.stores) c.args.packet _ _ _ (size (goal.at.returns-then-out-path_length c).After-path_length) c.if-out-path_length.true

pub returns : goal.returns
returns c = room_for (held c.args.stores) c.args.packet _ _ _ (puts_puts c.put_path-next.ensures c.put_values.ensures) (omega (arith, size (goal.at.returns c).After-path_length, c.if-out-path_length.false))
