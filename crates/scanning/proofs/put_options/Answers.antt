-- `put_options`: once the options that are left are put, all are; each is read at the place that was noted for it.
use Prim.Native.Nat.{◌+◌}
use mathlib.Core.Path.{◌≡◌, sym, ap, ◌∙◌}
use native.Mathlib.Omega.{arith}
use lib.ListN.{get_or}
use Rattle.option_reading.specs.Answers.{value_of}
use Rattle.option_reading.specs.Option.{Value}
use Rattle.scanning.proofs.Plain.{Here, here, second_turn}
use Rattle.scanning.proofs.put_options.Goals as goal

pub byte_at-byte-requires : goal.byte_at-byte-requires
byte_at-byte-requires c =
    let at_place : Here c.args.strict c.args.buf.now c.loop-i.i c.loop-i.number (get_or c.args.places.now c.loop-i.i 0) = here _ _ _ _ _ _ _ _ c.loop-i.invariant c.loop-i-test.true in
    at_place.plain.here

pub unjudged-delta-requires : goal.unjudged-delta-requires
unjudged-delta-requires c =
    let at_place : Here c.args.strict c.args.buf.now c.loop-i.i c.loop-i.number (get_or c.args.places.now c.loop-i.i 0) = here _ _ _ _ _ _ _ _ c.loop-i.invariant c.loop-i-test.true in
    (rw c.byte_at-byte.ensures.is at_place.plain.delta_plain.reach, omega (arith, c.byte_at-byte.ensures.small))

pub unjudged-length-requires : goal.unjudged-length-requires
unjudged-length-requires c =
    let at_place : Here c.args.strict c.args.buf.now c.loop-i.i c.loop-i.number (get_or c.args.places.now c.loop-i.i 0) = here _ _ _ _ _ _ _ _ c.loop-i.invariant c.loop-i-test.true in
    let delta_is : value_of c.unjudged-delta.result ≡ at_place.plain.delta = c.unjudged-delta.ensures ∙ (rw c.byte_at-byte.ensures.is (sym at_place.plain.delta_plain.is)) in
    (rw (c.byte_at-byte.ensures.is, ap (λ (v : Value). v.next) delta_is) at_place.plain.size_plain.reach, omega (arith, c.byte_at-byte.ensures.small))

pub overflow_add-number : goal.overflow_add-number
overflow_add-number c =
    let at_place : Here c.args.strict c.args.buf.now c.loop-i.i c.loop-i.number (get_or c.args.places.now c.loop-i.i 0) = here _ _ _ _ _ _ _ _ c.loop-i.invariant c.loop-i-test.true in
    let delta_is : value_of c.unjudged-delta.result ≡ at_place.plain.delta = c.unjudged-delta.ensures ∙ (rw c.byte_at-byte.ensures.is (sym at_place.plain.delta_plain.is)) in
    omega (arith, ap (λ (v : Value). v.value) delta_is, at_place.plain.small)

pub overflow_cast-out : goal.overflow_cast-out
overflow_cast-out c =
    let at_place : Here c.args.strict c.args.buf.now c.loop-i.i c.loop-i.number (get_or c.args.places.now c.loop-i.i 0) = here _ _ _ _ _ _ _ _ c.loop-i.invariant c.loop-i-test.true in
    let delta_is : value_of c.unjudged-delta.result ≡ at_place.plain.delta = c.unjudged-delta.ensures ∙ (rw c.byte_at-byte.ensures.is (sym at_place.plain.delta_plain.is)) in
    omega (arith, ap (λ (v : Value). v.value) delta_is, at_place.plain.small)

pub overflow_cast-out-in-loop-i : goal.overflow_cast-out-in-loop-i
overflow_cast-out-in-loop-i c =
    let at_place : Here c.args.strict c.args.buf.now c.loop-i.i c.loop-i.number (get_or c.args.places.now c.loop-i.i 0) = here _ _ _ _ _ _ _ _ c.loop-i.invariant c.loop-i-test.true in
    let delta_is : value_of c.unjudged-delta.result ≡ at_place.plain.delta = c.unjudged-delta.ensures ∙ (rw c.byte_at-byte.ensures.is (sym at_place.plain.delta_plain.is)) in
    let size_is : value_of c.unjudged-length.result ≡ at_place.plain.size = c.unjudged-length.ensures ∙ (rw (c.byte_at-byte.ensures.is, ap (λ (v : Value). v.next) delta_is) (sym at_place.plain.size_plain.is)) in
    omega (arith, ap (λ (v : Value). v.next) size_is, at_place.plain.inside, c.loop-i.invariant.short)

pub overflow_cast-out-in-loop-i-2 : goal.overflow_cast-out-in-loop-i-2
overflow_cast-out-in-loop-i-2 c =
    let at_place : Here c.args.strict c.args.buf.now c.loop-i.i c.loop-i.number (get_or c.args.places.now c.loop-i.i 0) = here _ _ _ _ _ _ _ _ c.loop-i.invariant c.loop-i-test.true in
    let delta_is : value_of c.unjudged-delta.result ≡ at_place.plain.delta = c.unjudged-delta.ensures ∙ (rw c.byte_at-byte.ensures.is (sym at_place.plain.delta_plain.is)) in
    let size_is : value_of c.unjudged-length.result ≡ at_place.plain.size = c.unjudged-length.ensures ∙ (rw (c.byte_at-byte.ensures.is, ap (λ (v : Value). v.next) delta_is) (sym at_place.plain.size_plain.is)) in
    omega (arith, ap (λ (v : Value). v.value) size_is, at_place.plain.inside, c.loop-i.invariant.short)

pub loop-i-preserved : goal.loop-i-preserved
loop-i-preserved c =
    let at_place : Here c.args.strict c.args.buf.now c.loop-i.i c.loop-i.number (get_or c.args.places.now c.loop-i.i 0) = here _ _ _ _ _ _ _ _ c.loop-i.invariant c.loop-i-test.true in
    let delta_is : value_of c.unjudged-delta.result ≡ at_place.plain.delta = c.unjudged-delta.ensures ∙ (rw c.byte_at-byte.ensures.is (sym at_place.plain.delta_plain.is)) in
    let size_is : value_of c.unjudged-length.result ≡ at_place.plain.size = c.unjudged-length.ensures ∙ (rw (c.byte_at-byte.ensures.is, ap (λ (v : Value). v.next) delta_is) (sym at_place.plain.size_plain.is)) in
    let number = ap (λ (v : Value). c.loop-i.number + v.value) delta_is in
    second_turn _ _ _ _ _ _ _ _ c.loop-i.invariant c.loop-i-test.true at_place _ _ _ number (ap (λ (v : Value). v.next) size_is) (ap (λ (v : Value). v.value) size_is)
