-- The theorem is `unbroken`.
use Rattle.acknowledgment_laws.proofs.Unbroken.{unbroken}
use Rattle.acknowledgment_laws.proofs.never_broken.Goals as goal

pub returns : goal.returns
returns c = unbroken
