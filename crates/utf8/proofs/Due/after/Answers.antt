-- `Due::after` meets its contract: a byte of a character at a time.
use mathlib.Core.Path.{refl, sym, ◌∙◌}
use borrow.Author.Tests.{eq-eqb, ne_eqb, lt-ltb, le-ltb, lt-leb, le-leb}
use Rattle.utf8.specs.Walk.{text_from}
use Rattle.utf8.proofs.Utf8.{led, at_next}
use Rattle.utf8.proofs.Due.after.Goals.{then-b-self-via-then-b-self, then-b-self-via-else-b-self+then-self-b}
use Rattle.utf8.proofs.Due.after.Goals as goal

pub returns-then-self-eq0-clause-value : goal.returns-then-self-eq0-clause-value
returns-then-self-eq0-clause-value c = rw (eq-eqb _ _ c.if-self-eq0.true) c.lead_of.ensures

pub returns-then-self-eq0-clause-text : goal.returns-then-self-eq0-clause-text
unfolding text_from
returns-then-self-eq0-clause-text c = record { is = λ bs. rw (c.if-self-eq0.true, sym (led _ c.lead_of.ensures)) refl }

pub returns-then-b-self-clause-value : goal.returns-then-b-self-clause-value
returns-then-b-self-clause-value c =
    elim c.then-b-self.branch [
      | then-b-self-via-then-b-self w ↦ rw (ne_eqb _ _ c.if-self-eq0.false, lt-ltb _ _ w.if-b-self.true) refl
      | then-b-self-via-else-b-self+then-self-b w ↦
          rw (ne_eqb _ _ c.if-self-eq0.false, le-ltb _ _ w.if-b-self.false, lt-ltb _ _ w.if-self-b.true) refl
    ]

pub returns-then-b-self-clause-text : goal.returns-then-b-self-clause-text
returns-then-b-self-clause-text c =
    elim c.then-b-self.branch [
      | then-b-self-via-then-b-self w ↦ record { is = λ bs. at_next _ _ _ _ bs c.if-self-eq0.false ∙ rw (lt-leb _ _ w.if-b-self.true) refl }
      | then-b-self-via-else-b-self+then-self-b w ↦
          record { is = λ bs. at_next _ _ _ _ bs c.if-self-eq0.false ∙ rw (le-leb _ _ w.if-b-self.false, lt-leb _ _ w.if-self-b.true) refl }
    ]

pub returns-clause-value : goal.returns-clause-value
returns-clause-value c = rw (ne_eqb _ _ c.if-self-eq0.false, le-ltb _ _ c.if-b-self.false, le-ltb _ _ c.if-self-b.false, c.new.ensures) refl

pub returns-clause-text : goal.returns-clause-text
returns-clause-text c = record { is = λ bs. at_next _ _ _ _ bs c.if-self-eq0.false ∙ rw (le-leb _ _ c.if-b-self.false, le-leb _ _ c.if-self-b.false, c.new.ensures) refl }
