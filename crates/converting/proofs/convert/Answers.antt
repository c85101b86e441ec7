-- `convert`: judged, measured, put.
use Prim.Native.Nat.{◌<◌, ◌≤◌}
use mathlib.Core.Path.{refl, sym}
use borrow.Author.Tests.{leb-true, leb-false}
use lib.ListN.{length}
use Rattle.std.proofs.lemmas.Result.{err_from_is_err_and}
use Rattle.converting.specs.Converting.{size_in}
use Rattle.thawing.proofs.Thawed.{Counted, counted, uncounted}
use Rattle.converting.proofs.Converted.{converts_refused, converts_nothing, convertible, converts_all}
use Rattle.converting.proofs.convert.Goals as goal
use Rattle.converting.proofs.convert.Goals.{In_ok-strict, Then-has_room, Else-has_room}

found : (c : In_ok-strict) → Counted c.args.from c.other_form-to.result c.args.stream.now c.in_ok-strict.strict.count c.in_ok-strict.strict.bytes c.in_ok-strict.strict.chunks
found c = counted _ _ _ _ _ _ c.in_ok-strict.ensures

yes : (c : Then-has_room) → size_in c.other_form-to.result c.in_ok-strict.strict.count c.in_ok-strict.strict.bytes c.in_ok-strict.strict.chunks ≤ length c.args.out.now
yes c = leb-true (size_in c.other_form-to.result c.in_ok-strict.strict.count c.in_ok-strict.strict.bytes c.in_ok-strict.strict.chunks) (length c.args.out.now) (sym c.if-has_room.ensures)

no : (c : Else-has_room) → length c.args.out.now < size_in c.other_form-to.result c.in_ok-strict.strict.count c.in_ok-strict.strict.bytes c.in_ok-strict.strict.chunks
no c = leb-false (size_in c.other_form-to.result c.in_ok-strict.strict.count c.in_ok-strict.strict.bytes c.in_ok-strict.strict.chunks) (length c.args.out.now) (sym c.if-has_room.ensures)

pub put_stream-requires : goal.put_stream-requires
put_stream-requires c =
    convertible c.args.from c.args.stream.now c.args.out.now c.other_form-to.result c.other_form-to.ensures _ _ _ (found (goal.at.put_stream-requires c).In_ok-strict) (yes (goal.at.put_stream-requires c).Then-has_room)

pub returns-then-has_room : goal.returns-then-has_room
returns-then-has_room c =
    converts_all _ _ _ _ c.other_form-to.ensures _ _ _ (found (goal.at.returns-then-has_room c).In_ok-strict) _ _ (yes (goal.at.returns-then-has_room c).Then-has_room) c.put_stream.ensures

pub returns : goal.returns
returns c =
    converts_nothing _ _ _ _ c.other_form-to.ensures _ _ _ (found (goal.at.returns c).In_ok-strict) (no (goal.at.returns c).Else-has_room)

pub returns-in_err-strict : goal.returns-in_err-strict
returns-in_err-strict c =
    let p = err_from_is_err_and c.from_residual.result c.from_residual.ensures.1 in
    rw (p.1, p.2) (converts_refused _ _ _ _ _ (uncounted _ _ _ _ c.in_err-strict.ensures) refl)
