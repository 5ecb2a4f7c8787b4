-- The theorem is `leaves`.
use Rattle.link_laws.proofs.Refused.{leaves}
use Rattle.link_laws.proofs.refused_leaves.Goals as goal

pub returns : goal.returns
returns c = leaves
