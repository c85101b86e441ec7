-- `compact`: all is judged, the live bytes are gathered in the second buffer, and copied back.
use Prim.Native.Nat.{◌≤◌}
use mathlib.Core.Path.{◌≡◌, sym}
use native.Mathlib.Omega.{arith}
use lib.ListN.{length, length-take}
use Rattle.std.proofs.lemmas.Result.{err_from_is_err_and}
use Rattle.refusal.specs.Answer.{given}
use Rattle.packet.specs.Limits.{max_store}
use Rattle.packet.specs.Packet.{stores}
use Rattle.judging.specs.Judge.{lengths_of}
use Rattle.judging.proofs.Good.{Good}
use Rattle.compacting.specs.Compacting.{live_length, compacting}
use Rattle.compacting.proofs.Answers.{refuses, sound, within, end_inside, compacts}
use Rattle.compacting.proofs.compact.Goals as goal
use Rattle.compacting.proofs.compact.Goals.{In_ok-end}

end_at : (c : In_ok-end) → compacting (lengths_of (stores c.args.datagram.now c.args.edits.now)) (length c.args.second.now) c.args.packet ≡ given c.in_ok-end.end
end_at c = sym c.in_ok-end.ensures

sound_at : (c : In_ok-end) → Good (lengths_of (stores c.args.datagram.now c.args.edits.now)) c.args.packet
sound_at c = let a = c.args in sound a.packet (stores a.datagram.now a.edits.now) a.second.now _ (end_at c)

within_at : (c : In_ok-end) → live_length c.args.packet ≤ max_store
within_at c = let a = c.args in within a.packet (stores a.datagram.now a.edits.now) a.second.now _ (end_at c)

pub gather-requires : goal.gather-requires
gather-requires c = (sound_at (goal.at.gather-requires c).In_ok-end).count

pub slice_bounds-put_bytes-end : goal.slice_bounds-put_bytes-end
slice_bounds-put_bytes-end c = let a = c.args in omega (arith, end_inside a.packet (stores a.datagram.now a.edits.now) a.second.now _ (end_at (goal.at.slice_bounds-put_bytes-end c).In_ok-end) _ _ c.gather.ensures)

pub slice_bounds-put_bytes-end-2 : goal.slice_bounds-put_bytes-end-2
slice_bounds-put_bytes-end-2 c = let a = c.args in omega (arith, length-take c.in_ok-end.end c.gather.new.second, end_inside a.packet (stores a.datagram.now a.edits.now) a.second.now _ (end_at (goal.at.slice_bounds-put_bytes-end-2 c).In_ok-end) _ _ c.gather.ensures)

pub relocated-requires : goal.relocated-requires
relocated-requires c = ((sound_at (goal.at.relocated-requires c).In_ok-end).count, within_at (goal.at.relocated-requires c).In_ok-end)

pub returns : goal.returns
returns c = compacts _ _ _ _ (end_at (goal.at.returns c).In_ok-end) _ _ c.gather.ensures _ _ (c.put_bytes.ensures) _ c.relocated.ensures

pub returns-in_err-end : goal.returns-in_err-end
returns-in_err-end c =
    let p = err_from_is_err_and c.from_residual.result c.from_residual.ensures.1 in
    rw (p.1, p.2) (refuses _ _ _ _ (sym c.in_err-end.ensures))
