use Rattle.arranging_laws.proofs.Theorems.{stays_sound}
use Rattle.arranging_laws.proofs.stays_sound.Goals as goal

pub returns : goal.returns
returns c = stays_sound
