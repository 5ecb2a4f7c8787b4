-- The runs are `runs`.
use Rattle.agreement_runs.proofs.Computed.{runs}
use Rattle.agreement_runs.proofs.runs_agree.Goals as goal

pub returns : goal.returns
returns c = runs
