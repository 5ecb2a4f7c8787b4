-- The theorem is `accepts`.
use Rattle.packet_laws.proofs.Theorems.{accepts}
use Rattle.packet_laws.proofs.reader_accepts_listed_layouts.Goals as goal

pub returns : goal.returns
returns c = accepts
