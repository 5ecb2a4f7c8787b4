-- The theorem is `gives_back`.
use Rattle.fragmenter.proofs.Presenting.{gives_back}
use Rattle.fragmenter.proofs.gives_back.Goals as goal

pub returns : goal.returns
returns c = gives_back
