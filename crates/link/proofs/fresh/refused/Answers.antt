-- The counters are fresh all the same.
use Rattle.link.proofs.fresh.refused.Goals as goal

pub returns : goal.returns
returns c = rw c.fresh.ensures
