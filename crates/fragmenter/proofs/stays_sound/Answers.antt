-- The theorem is `stays`.
use Rattle.fragmenter.proofs.Keeping.{stays}
use Rattle.fragmenter.proofs.stays_sound.Goals as goal

pub returns : goal.returns
returns c = stays
