use Rattle.ordering_laws.proofs.Map.{held_is_a_map}
use Rattle.ordering_laws.proofs.held_is_a_map.Goals as goal

pub returns : goal.returns
returns c = held_is_a_map
