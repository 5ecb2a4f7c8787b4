-- Each way out has the tests that led there.
use borrow.Author.Tests.{lt-ltb, le-ltb}
use Rattle.sending.specs.Plan.{is_long}
use Rattle.sending.proofs.plan.is_long.Goals as goal

pub returns-then-size-gt65535 : goal.returns-then-size-gt65535
unfolding is_long
returns-then-size-gt65535 c = rw (lt-ltb _ _ c.if-size-gt65535.true)

pub returns-then-size-f : goal.returns-then-size-f
unfolding is_long
returns-then-size-f c = rw (le-ltb _ _ c.if-size-gt65535.false, le-ltb _ _ c.if-size-f.true)

pub returns : goal.returns
unfolding is_long
returns c = rw (le-ltb _ _ c.if-size-gt65535.false, lt-ltb _ _ c.if-size-f.false, ← c.is_split.ensures)
