-- `walked`: the whole judgement is that of what is left, option by option.
use Prim.Native.Nat.{ℕ, ◌≤◌}
use mathlib.Core.Path.{◌≡◌, sym, ◌∙◌}
use mathlib.Core.Bool.{Bool}
use lib.ListN.{length}
use lib.Dec.{eqb}
use Rattle.std.proofs.lemmas.Result.{err_from_is_err_and}
use Rattle.ground.specs.Choice.{both}
use Rattle.framing.proofs.Judged.{walk_refused, walk_ended, end_alone, end_well, turn, overflows}
use Rattle.chunk_judging.specs.Walk.{bytes_of}
use Rattle.option_reading.proofs.Within.{here}
use Rattle.chunk_judging.specs.declared.datagram.Datagram.{Datagram}
use Rattle.chunk_judging.proofs.Places.{gathered_length}
use Rattle.chunk_judging.proofs.walked.Goals as goal

-- The datagram isn't too long to be read.
short : (d : Datagram) → length (bytes_of d) ≤ 70000
short d = rw gathered_length d.lies.0

-- The end of the datagram is that of its bytes.
ended : (d : Datagram) (marked : Bool) (payload : ℕ) (r : Bool) → r ≡ both marked (eqb payload d.len)
    → both marked (eqb payload (length (bytes_of d))) ≡ r
ended d marked payload r e = rw gathered_length (sym e)

pub returns-in_err-marked : goal.returns-in_err-marked
returns-in_err-marked c =
    let p = err_from_is_err_and c.from_residual.result c.from_residual.ensures.1 in
    rw (p.1, p.2) (sym (c.loop-marked.invariant ∙ walk_refused _ _ _ _ _ (here _ _ _ _ (short c.args.d) c.in_err-marked.ensures)))

pub returns-then-marker_alone : goal.returns-then-marker_alone
returns-then-marker_alone c =
    sym (c.loop-marked.invariant ∙ (walk_ended _ _ _ _ _ _ (here _ _ _ _ (short c.args.d) (rw c.in-End.is at c.in_ok-marked.ensures)) ∙ end_alone (bytes_of c.args.d) c.in-End.marked c.in-End.payload (ended c.args.d _ _ _ c.if-marker_alone.ensures)))

pub returns-in-End : goal.returns-in-End
returns-in-End c =
    sym (c.loop-marked.invariant ∙ (walk_ended _ _ _ _ _ _ (here _ _ _ _ (short c.args.d) (rw c.in-End.is at c.in_ok-marked.ensures)) ∙ end_well (bytes_of c.args.d) c.in-End.marked c.in-End.payload (ended c.args.d _ _ _ c.if-marker_alone.ensures)))

pub returns-then-count-ge-MAX_OPTIONS : goal.returns-then-count-ge-MAX_OPTIONS
returns-then-count-ge-MAX_OPTIONS c =
    sym (c.loop-marked.invariant ∙ overflows _ _ _ _ _ (here _ _ _ _ (short c.args.d) (rw c.in-Option.is at c.in_ok-marked.ensures)) c.if-count-ge-MAX_OPTIONS.true)

pub loop-marked-preserved : goal.loop-marked-preserved
loop-marked-preserved c =
    c.loop-marked.invariant ∙ turn _ _ _ _ _ (here _ _ _ _ (short c.args.d) (rw c.in-Option.is at c.in_ok-marked.ensures)) c.if-count-ge-MAX_OPTIONS.false
