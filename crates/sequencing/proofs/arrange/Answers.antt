use borrow.Author.Tests.{le-leb, lt-leb}
use Rattle.sequencing.specs.Sequence.{sequence_of}
use Rattle.sequencing.proofs.arrange.Goals as goal

pub returns-then-distance-gt32768 : goal.returns-then-distance-gt32768
unfolding sequence_of
returns-then-distance-gt32768 c = rw (← c.distance.ensures, lt-leb c.distance.result 32768 c.if-distance-gt32768.true)

pub returns : goal.returns
unfolding sequence_of
returns c = rw (← c.distance.ensures, le-leb c.distance.result 32768 c.if-distance-gt32768.false)
