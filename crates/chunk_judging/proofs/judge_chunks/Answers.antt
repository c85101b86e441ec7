-- `judge_chunks`: 19, 10 and 1 by the length, and then by the bytes.
use mathlib.Core.Path.{sym, ◌∙◌}
use native.Mathlib.Omega.{arith}
use Rattle.chunk_judging.proofs.Places.{gathered_length, past_not, judged_past, judged_bytes}
use Rattle.chunk_judging.proofs.Headed.{accepted_long, accepted_short}
use Rattle.chunk_judging.proofs.judge_chunks.Goals as goal

pub returns-then-past : goal.returns-then-past
returns-then-past c = judged_past _ _ _ _ (sym c.past.ensures ∙ c.if-past.true)

pub returns-then-len-gt-MAX_STORE : goal.returns-then-len-gt-MAX_STORE
returns-then-len-gt-MAX_STORE c = accepted_long _ (rw gathered_length c.if-len-gt-MAX_STORE.true) ∙ judged_bytes _ _ _ _ (sym c.past.ensures ∙ c.if-past.false)

pub returns-then-len-lt4 : goal.returns-then-len-lt4
returns-then-len-lt4 c = accepted_short _ (rw gathered_length c.if-len-lt4.true) ∙ judged_bytes _ _ _ _ (sym c.past.ensures ∙ c.if-past.false)

pub invariant_of-opened : goal.invariant_of-opened
invariant_of-opened c =
    record { lies = (c.if-len-gt-MAX_STORE.false, past_not _ _ _ _ (omega (arith, c.if-len-lt4.false)) (sym c.past.ensures ∙ c.if-past.false)) }

pub returns : goal.returns
returns c = c.opened.ensures ∙ judged_bytes _ _ _ _ (sym c.past.ensures ∙ c.if-past.false)
