-- The theorem is `splits`.
use Rattle.splitter.proofs.Pieces.{splits}
use Rattle.splitter.proofs.splits_whole.Goals as goal

pub returns : goal.returns
returns c = splits
