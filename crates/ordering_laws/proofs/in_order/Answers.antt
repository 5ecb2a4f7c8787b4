use Rattle.ordering_laws.proofs.Run.{in_order}
use Rattle.ordering_laws.proofs.in_order.Goals as goal

pub returns : goal.returns
returns c = in_order
