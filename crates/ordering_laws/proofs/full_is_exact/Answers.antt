use Rattle.ordering_laws.proofs.Filled.{full_is_exact}
use Rattle.ordering_laws.proofs.full_is_exact.Goals as goal

pub returns : goal.returns
returns c = full_is_exact
