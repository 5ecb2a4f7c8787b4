use borrow.Author.Tests.{le-leb, lt-leb}
use Rattle.reassembly_plan.proofs.gate.sound_beside.Goals as goal

pub returns-then-slot-ge65536 : goal.returns-then-slot-ge65536
returns-then-slot-ge65536 c = rw (le-leb _ _ c.if-slot-ge65536.true)

pub returns : goal.returns
returns c = rw (lt-leb _ _ c.if-slot-ge65536.false, ← c.unpack.ensures) c.sound_entry.ensures
