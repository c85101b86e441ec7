-- `is_same`: type, time, id and peer in turn.
use Prim.Native.Nat.{ℕ, ◌+◌}
use mathlib.Core.Path.{◌≡◌, sym, ap, ◌∙◌}
use native.Mathlib.Omega.{arith}
use lib.ListN.{length}
use Rattle.ground.specs.Part.{part}
use Rattle.rfc.specs.Duplicates.{alike}
use Rattle.hearing.proofs.Places.{other, free_other, other_id, by_peer}
use Rattle.hearing.proofs.is_same.Goals as goal

pub returns-then-table-at : goal.returns-then-table-at
returns-then-table-at c = rw (← c.message.view_is) (sym (other _ _ _ c.if-table-at.true))

pub returns-then-is_free : goal.returns-then-is_free
returns-then-is_free c = rw (← c.message.view_is) (sym (free_other _ _ _ (sym c.is_free.ensures ∙ c.if-is_free.true)))

pub returns-then-two_at-message : goal.returns-then-two_at-message
returns-then-two_at-message c =
    rw (← c.message.view_is)
    (sym (other_id _ _ _ c.message.invariant c.if-table-at.false (sym c.is_free.ensures ∙ c.if-is_free.false)
    (λ e. c.if-two_at-message.true (c.two_at.ensures.is ∙ e))))

pub returns : goal.returns
returns c =
    let size : length c.message.inside.peer ≡ 18 = omega arith in
    let whole = ap (λ (n : ℕ). alike (part c.args.table.now (c.args.at + 1) n) c.message.inside.peer) size in
    rw (← c.message.view_is)
    (c.are_at.ensures
    ∙ (whole
    ∙ sym (by_peer _ _ _ c.message.invariant c.if-table-at.false (sym c.is_free.ensures ∙ c.if-is_free.false)
    (sym c.two_at.ensures.is ∙ c.if-two_at-message.false))))
