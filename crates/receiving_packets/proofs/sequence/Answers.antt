use mathlib.Core.Path.{ap}
use Rattle.std.specs.Prelude.{Ok}
use Rattle.receiving_packets.proofs.sequence.Goals as goal

pub arrange-after-requires : goal.arrange-after-requires
arrange-after-requires c = c.requires c.in-Sequenced.sequencing (ap Ok c.in-Sequenced.is)
