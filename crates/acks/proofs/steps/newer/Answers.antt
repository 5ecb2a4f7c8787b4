-- The two ways of the test.
use mathlib.Core.Path.{◌≡◌}
use Rattle.serial.specs.Order.{greater}
use Rattle.acks.specs.State.{newer_of}
use Rattle.acks.proofs.steps.newer.Goals as goal
use Rattle.acks.proofs.steps.newer.Goals.{After-sequence_greater_than}

-- what is asked is whether the acknowledged number is the greater
asked : (c : After-sequence_greater_than) → c.sequence_greater_than.result ≡ greater c.args.acked.0 c.args.before.0
asked c = c.sequence_greater_than.ensures

pub returns-then-sequence_greater_than : goal.returns-then-sequence_greater_than
unfolding newer_of
returns-then-sequence_greater_than c = rw (← asked (goal.at.returns-then-sequence_greater_than c).After-sequence_greater_than, c.if-sequence_greater_than.true)

pub returns : goal.returns
unfolding newer_of
returns c = rw (← asked (goal.at.returns c).After-sequence_greater_than, c.if-sequence_greater_than.false)
