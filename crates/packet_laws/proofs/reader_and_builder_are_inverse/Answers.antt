-- The theorem is `inverse`.
use Rattle.packet_laws.proofs.Theorems.{inverse}
use Rattle.packet_laws.proofs.reader_and_builder_are_inverse.Goals as goal

pub returns : goal.returns
returns c = inverse
