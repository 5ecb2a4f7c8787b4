use Rattle.ordering_laws.proofs.Stays.{stays_sound}
use Rattle.ordering_laws.proofs.stays_sound.Goals as goal

pub returns : goal.returns
returns c = stays_sound
