-- `from_bytes_in`: a good header leaves the answer to the options, and the walk over them keeps it.
use Rattle.std.proofs.Common.{ℕ, ◌+◌, ◌<◌, ◌≡◌, Bool, List, get_or, sym, ap, subst, ◌∙◌, arith}
use Rattle.std.proofs.lemmas.Result.{err_from_is_err_and}
use Rattle.ground.proofs.Part.{bytes_of}
use Rattle.refusal.specs.Answer.{Answer, given, onward, beside}
use Rattle.header.specs.Header.{token_of}
use Rattle.header.specs.declared.HeaderRaw.{HeaderRaw}
use Rattle.packet.specs.declared.Packet.{Packet}
use Rattle.reading.specs.Headed.{headed}
use Rattle.reading.proofs.Headed.{Opened, headed_opens}
use Rattle.option_reading.specs.Option.{Place, place_at, placed}
use Rattle.reading.specs.Options.{Tail, options}
use Rattle.packet.specs.Packet.{new_packet}
use Rattle.reading.specs.Reading.{longest, reading, finished}
use Rattle.option_reading.proofs.Within.{Inside, here, inside_here}
use Rattle.reading.proofs.Walk as Walk
use Rattle.reading.proofs.from_bytes_in.Goals as goal

opened : (strict : Bool) (s : List ℕ) (a : Answer HeaderRaw) → a ≡ headed strict s → Opened strict s (reading strict s) a
opened strict s a h = subst (Opened strict s (reading strict s)) (sym h) (headed_opens strict s)

answer_is : (strict : Bool) (s : List ℕ) (raw : HeaderRaw) (most : ℕ) (a : Answer Tail)
    → most ≡ longest strict → given raw ≡ headed strict s → options most s 128 0 (4 + token_of raw) ≡ a
    → beside new_packet (onward a (finished strict s raw)) ≡ beside new_packet (reading strict s)
answer_is strict s raw most a m h e =
    ap (λ (t : Answer Tail). beside new_packet (onward t (finished strict s raw))) (sym e)
    ∙ (ap (λ (n : ℕ). beside new_packet (onward (options n s 128 0 (4 + token_of raw)) (finished strict s raw))) m
    ∙ ap (beside new_packet) (sym (opened strict s (given raw) h).is))

place : (strict : Bool) (s : List ℕ) (raw : HeaderRaw) (most number at : ℕ) (a : Answer Place)
    → given raw ≡ headed strict s → a ≡ placed most s number at → place_at most s number at ≡ a
place strict s raw most number at a h = here most s number at (opened strict s (given raw) h).roomy.1

inside : (strict : Bool) (s : List ℕ) (raw : HeaderRaw) (most number at : ℕ) (p : Place)
    → ((i : ℕ) → get_or s i 0 < 256) → given raw ≡ headed strict s → given p ≡ placed most s number at → Inside s p
inside strict s raw most number at p b h = inside_here most s number at (opened strict s (given raw) h).roomy.1 p (bytes_of s b)

pub returns-in_err-raw : goal.returns-in_err-raw
returns-in_err-raw c =
    let a = c.args in
    let p = err_from_is_err_and c.from_residual.result c.from_residual.ensures.1 in
    rw (p.1, p.2) (ap (beside new_packet) (sym (opened a.strict a.buf.now _ c.in_err-raw.ensures).is))

pub loop-marked-init : goal.loop-marked-init
loop-marked-init c = rw c.token_length-token_length.ensures (Walk.start _ _ _ (opened c.args.strict c.args.buf.now (given c.in_ok-raw.raw) c.in_ok-raw.ensures).roomy.0)

pub returns-in_err-marked : goal.returns-in_err-marked
returns-in_err-marked c =
    let a = c.args in
    let h = c.in_ok-raw.ensures in
    let p = err_from_is_err_and c.from_residual-in_err-marked.result c.from_residual-in_err-marked.ensures.1 in
    rw (p.1, p.2)
    (answer_is a.strict a.buf.now c.in_ok-raw.raw _ _ c.longest_value-most.ensures h
    (Walk.refuses _ _ _ _ _ _ _ c.loop-marked.invariant _ (place a.strict a.buf.now c.in_ok-raw.raw _ _ _ _ h c.in_err-marked.ensures)))

pub returns-then-marker_alone : goal.returns-then-marker_alone
returns-then-marker_alone c =
    let a = c.args in
    let h = c.in_ok-raw.ensures in
    ap (beside new_packet) (sym (Walk.finished_alone a.strict a.buf.now c.in_ok-raw.raw _ (sym c.if-marker_alone.ensures)))
    ∙ answer_is a.strict a.buf.now c.in_ok-raw.raw _ _ c.longest_value-most.ensures h
    (Walk.ends _ _ _ _ _ _ _ c.loop-marked.invariant _ _ (place a.strict a.buf.now c.in_ok-raw.raw _ _ _ _ h (rw c.in-End.is at c.in_ok-marked.ensures)))

pub packet_of-requires : goal.packet_of-requires
packet_of-requires c =
    let a = c.args in (
      inside a.strict a.buf.now c.in_ok-raw.raw _ _ _ _ (λ i. omega (arith, c.type_inv.buf i)) c.in_ok-raw.ensures (rw c.in-End.is at c.in_ok-marked.ensures),
      (opened a.strict a.buf.now (given c.in_ok-raw.raw) c.in_ok-raw.ensures).roomy.1,
    )

pub returns-in-End : goal.returns-in-End
returns-in-End c =
    let a = c.args in
    let h = c.in_ok-raw.ensures in
    ap (λ (q : Packet). beside new_packet (given q)) (c.packet_of.ensures ∙ Walk.packet_is _ _ _ _ _ _ _ c.loop-marked.invariant c.in_ok-raw.raw c.in-End.marked c.in-End.payload)
    ∙ (ap (beside new_packet) (sym (Walk.finished_well a.strict a.buf.now c.in_ok-raw.raw _ (sym c.if-marker_alone.ensures)))
    ∙ answer_is a.strict a.buf.now c.in_ok-raw.raw _ _ c.longest_value-most.ensures h
    (Walk.ends _ _ _ _ _ _ _ c.loop-marked.invariant _ _ (place a.strict a.buf.now c.in_ok-raw.raw _ _ _ _ h (rw c.in-End.is at c.in_ok-marked.ensures))))

pub returns-then-count-ge-MAX_OPTIONS : goal.returns-then-count-ge-MAX_OPTIONS
returns-then-count-ge-MAX_OPTIONS c =
    let a = c.args in
    let h = c.in_ok-raw.ensures in
    answer_is a.strict a.buf.now c.in_ok-raw.raw _ _ c.longest_value-most.ensures h
    (Walk.overflows _ _ _ _ _ _ _ c.loop-marked.invariant _ (place a.strict a.buf.now c.in_ok-raw.raw _ _ _ _ h (rw c.in-Option.is at c.in_ok-marked.ensures)) c.if-count-ge-MAX_OPTIONS.true)

pub loop-marked-preserved : goal.loop-marked-preserved
loop-marked-preserved c =
    let a = c.args in
    let h = c.in_ok-raw.ensures in
    Walk.turn _ _ _ _ _ _ _ c.loop-marked.invariant _ (place a.strict a.buf.now c.in_ok-raw.raw _ _ _ _ h (rw c.in-Option.is at c.in_ok-marked.ensures)) c.if-count-ge-MAX_OPTIONS.false
    (inside a.strict a.buf.now c.in_ok-raw.raw _ _ _ _ (λ i. omega (arith, c.type_inv.buf i)) h (rw c.in-Option.is at c.in_ok-marked.ensures))
