-- `judge_end` meets its contract: the rules in turn.
use mathlib.Core.Path.{refl, sym, ◌∙◌}
use borrow.Author.Tests.{lt-ltb, le-ltb, ne_eqb, eq-eqb}
use Rattle.uri_text.specs.Judging.{ruled_by}
use Rattle.uri_text.proofs.judge_end.Goals.{then-len-gt-LONGEST-via-then-len-gt-LONGEST, then-len-gt-LONGEST-via-else-len-gt-LONGEST+then-is_dotted}
use Rattle.uri_text.proofs.judge_end.Goals as goal

pub returns-then-due-ne0 : goal.returns-then-due-ne0
unfolding ruled_by
returns-then-due-ne0 c = rw (ne_eqb _ 0 c.if-due-ne0.true) refl

pub returns-then-len-gt-LONGEST : goal.returns-then-len-gt-LONGEST
unfolding ruled_by
returns-then-len-gt-LONGEST c =
    elim c.then-len-gt-LONGEST.branch [
      | then-len-gt-LONGEST-via-then-len-gt-LONGEST w ↦ rw (eq-eqb _ 0 c.if-due-ne0.false, lt-ltb 255 _ w.if-len-gt-LONGEST.true) refl
      | then-len-gt-LONGEST-via-else-len-gt-LONGEST+then-is_dotted w ↦
          rw (eq-eqb _ 0 c.if-due-ne0.false, le-ltb 255 _ w.if-len-gt-LONGEST.false, sym w.is_dotted.ensures ∙ w.if-is_dotted.true) refl
    ]

pub returns : goal.returns
unfolding ruled_by
returns c = rw (eq-eqb _ 0 c.if-due-ne0.false, le-ltb 255 _ c.if-len-gt-LONGEST.false, sym c.is_dotted.ensures ∙ c.if-is_dotted.false) refl
