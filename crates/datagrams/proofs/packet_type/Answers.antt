use borrow.Author.Tests.{lt-ltb, le-ltb}
use Rattle.datagrams.specs.Datagrams.{type_for}
use Rattle.datagrams.proofs.packet_type.Goals as goal

pub returns-then-f-size : goal.returns-then-f-size
unfolding type_for
returns-then-f-size c = rw (lt-ltb _ _ c.if-f-size.true)

pub returns : goal.returns
unfolding type_for
returns c = rw (le-ltb _ _ c.if-f-size.false)
