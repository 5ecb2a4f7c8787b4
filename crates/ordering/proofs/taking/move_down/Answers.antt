use Rattle.ordering.proofs.Places.{paste_own}
use Rattle.ordering.proofs.taking.move_down.Goals as goal

pub returns-else-to-from : goal.returns-else-to-from
returns-else-to-from c = rw (← c.if-to-from.false) (paste_own c.args.bytes.now c.args.to c.args.n)
