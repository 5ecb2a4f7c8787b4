-- The theorem is `unbroken`.
use Rattle.link_laws.proofs.Unbroken.{unbroken}
use Rattle.link_laws.proofs.never_broken.Goals as goal

pub returns : goal.returns
returns c = unbroken
