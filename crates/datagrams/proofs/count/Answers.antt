use borrow.Author.Tests.{lt-ltb, le-ltb}
use Rattle.datagrams.specs.Datagrams.{count_of}
use Rattle.datagrams.proofs.count.Goals as goal

pub returns-then-size-f : goal.returns-then-size-f
unfolding count_of
returns-then-size-f c = rw (le-ltb _ _ c.if-size-f.true)

pub returns : goal.returns
unfolding count_of
returns c = rw (lt-ltb _ _ c.if-size-f.false) c.fragments_needed.ensures
