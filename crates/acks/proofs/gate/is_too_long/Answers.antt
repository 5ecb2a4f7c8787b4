-- Each way out has the tests that led there.
use borrow.Author.Tests.{lt-ltb, le-ltb}
use Rattle.acks.specs.Gate.{too_long}
use Rattle.acks.proofs.gate.is_too_long.Goals as goal

pub returns-then-count-gt65535 : goal.returns-then-count-gt65535
unfolding too_long
returns-then-count-gt65535 c = rw (lt-ltb _ _ c.if-count-gt65535.true)

pub returns-then-sizes-count : goal.returns-then-sizes-count
unfolding too_long
returns-then-sizes-count c = rw (le-ltb _ _ c.if-count-gt65535.false, lt-ltb _ _ c.if-sizes-count.true)

pub returns : goal.returns
unfolding too_long
returns c = rw (le-ltb _ _ c.if-count-gt65535.false, le-ltb _ _ c.if-sizes-count.false)
