-- `put_option_in`: loosely, or as it is.
use Prim.Native.Nat.{◌+◌, ◌-◌, ◌≤◌}
use mathlib.Core.Path.{◌≡◌, sym, ap, ◌∙◌}
use native.Mathlib.Nat.{add-sub_cancel_left}
use native.Mathlib.Omega.{arith}
use lib.ListN.{length, take, drop, length-drop}
use lib.Seq.{take_all}
use Rattle.refusal.specs.Answer.{written}
use Rattle.laying.proofs.Laid.{is_laid}
use Rattle.flat_writing.proofs.Loosely.{loosely_wider}
use Rattle.flat_writing.proofs.Pieces.{all_loose, option_given, option_exactly, option_size}
use Rattle.flat_writing.proofs.put_option_in.Goals as goal

pub returns-then-is_loose : goal.returns-then-is_loose
returns-then-is_loose c =
    let k : (c.args.len ≤ 32) × (32 ≤ length c.args.store.now - c.args.start) × (37 ≤ c.args.end - c.args.at) = all_loose _ _ _ (sym c.if-is_loose.ensures) in
    let rest : take (length c.args.store.now - c.args.start) (drop c.args.start c.args.store.now) ≡ drop c.args.start c.args.store.now = take_all (length c.args.store.now - c.args.start) (drop c.args.start c.args.store.now) (simp length-drop (omega arith)) in
    loosely_wider _ _ _ (c.args.at + 37) c.args.end _ _ (omega (arith, k.2)) (rw rest at c.put_loosely.ensures)

pub unwrap-requires : goal.unwrap-requires
unwrap-requires c =
    let a = c.args in
    is_laid _ _ ((rw add-sub_cancel_left at c.put_option.ensures).answer ∙ option_given a.delta a.len a.start a.at a.end a.store.now a.out.now c.requires.1 c.requires.2 c.requires.3 c.requires.4)

pub overflow_add-result : goal.overflow_add-result
overflow_add-result c =
    let a = c.args in
    let p = option_exactly a.delta a.len a.start a.at a.end a.store.now a.out.now c.requires.1 c.requires.2 c.requires.3 c.requires.4 _ _ _ (rw add-sub_cancel_left at c.put_option.ensures) (ap written c.unwrap.ensures) in
    omega (arith, p.next, option_size a.delta a.len a.start a.at a.end a.store.now a.out.now c.requires.1 c.requires.2 c.requires.3 c.requires.4, c.requires.3, c.requires.4)

pub returns : goal.returns
returns c =
    let a = c.args in
    option_exactly a.delta a.len a.start a.at a.end a.store.now a.out.now c.requires.1 c.requires.2 c.requires.3 c.requires.4 _ _ _ (rw add-sub_cancel_left at c.put_option.ensures) (ap written c.unwrap.ensures)
