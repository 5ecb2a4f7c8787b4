-- The run is `fills`.
use Rattle.agreement_filling.proofs.Computed.{fills}
use Rattle.agreement_filling.proofs.filling_agrees.Goals as goal

pub returns : goal.returns
returns c = fills
