-- The two ways of the `&&`.
use borrow.Author.Tests.{le-leb, lt-leb}
use Rattle.acks.specs.Gate.{flight_lent}
use Rattle.acks.proofs.gate.is_flight_lent.Goals as goal

pub returns-then-sizes-number : goal.returns-then-sizes-number
unfolding flight_lent
returns-then-sizes-number c = rw (le-leb _ _ c.if-sizes-number.true)

pub returns-else-sizes-number : goal.returns-else-sizes-number
unfolding flight_lent
returns-else-sizes-number c = rw (lt-leb _ _ c.if-sizes-number.false)
