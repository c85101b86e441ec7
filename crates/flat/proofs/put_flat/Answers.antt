-- `put_flat`: head and records, where there is room for both.
use native.Mathlib.Omega.{arith}
use Rattle.flat.proofs.Flat.{no_room, puts}
use Rattle.flat.proofs.put_flat.Goals as goal

pub returns-then-out-count-clause-result_value : goal.returns-then-out-count-clause-result_value
returns-then-out-count-clause-result_value c = (no_room c.args.packet c.args.out.now (omega arith)).0

pub returns-then-out-count-clause-out_after : goal.returns-then-out-count-clause-out_after
returns-then-out-count-clause-out_after c = (no_room c.args.packet c.args.out.now (omega arith)).1

pub returns-clause-result_value : goal.returns-clause-result_value
returns-clause-result_value c =
    (puts c.args.packet c.args.out.now _ _ (omega arith) (rw c.option_count-count.ensures at c.put_head.ensures) c.put_records.ensures).0

pub returns-clause-out_after : goal.returns-clause-out_after
returns-clause-out_after c =
    (puts c.args.packet c.args.out.now _ _ (omega arith) (rw c.option_count-count.ensures at c.put_head.ensures) c.put_records.ensures).1
