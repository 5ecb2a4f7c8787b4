use Rattle.arranging_laws.proofs.Theorems.{others_untouched}
use Rattle.arranging_laws.proofs.others_untouched.Goals as goal

pub returns : goal.returns
returns c = others_untouched
