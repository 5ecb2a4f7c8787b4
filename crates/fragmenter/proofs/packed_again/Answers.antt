-- The theorem is `unpacked`.
use Rattle.fragmenter.proofs.Packed.{unpacked}
use Rattle.fragmenter.proofs.packed_again.Goals as goal

pub returns : goal.returns
returns c = unpacked
