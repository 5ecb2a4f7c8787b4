use Rattle.packet_table.specs.Table.{follows}
use Rattle.sending.proofs.plan.is_listed.Goals as goal

pub returns : goal.returns
unfolding follows
returns c = rw (c.is_listed.ensures, c.headers_after.ensures)
