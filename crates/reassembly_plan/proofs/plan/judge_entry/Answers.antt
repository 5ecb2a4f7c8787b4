use borrow.Author.Tests.{eq-eqb, ne_eqb, le-leb, lt-leb}
use Rattle.reassembly_plan.specs.Plan.{judged}
use Rattle.reassembly_plan.proofs.plan.judge_entry.Goals as goal

pub returns-then-held-fragment : goal.returns-then-held-fragment
unfolding judged
returns-then-held-fragment c = rw (ne_eqb _ _ c.if-held-fragment.true)

pub returns-then-there : goal.returns-then-there
unfolding judged
returns-then-there c = rw (eq-eqb _ _ c.if-held-fragment.false, le-leb _ _ c.if-id-ge16.true, c.if-there.true)

pub returns-then-id-ge16 : goal.returns-then-id-ge16
unfolding judged
returns-then-id-ge16 c = rw (eq-eqb _ _ c.if-held-fragment.false, le-leb _ _ c.if-id-ge16.true, c.if-there.false)

pub returns-then-held-id-eq1 : goal.returns-then-held-id-eq1
unfolding judged
returns-then-held-id-eq1 c = rw (eq-eqb _ _ c.if-held-fragment.false, lt-leb _ _ c.if-id-ge16.false, eq-eqb _ _ c.if-held-id-eq1.true)

pub returns : goal.returns
unfolding judged
returns c = rw (eq-eqb _ _ c.if-held-fragment.false, lt-leb _ _ c.if-id-ge16.false, ne_eqb _ _ c.if-held-id-eq1.false, c.place_of.ensures, c.grow.ensures)
