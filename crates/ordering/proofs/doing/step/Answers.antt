use Rattle.serial.proofs.Items.{named}
use Rattle.ordering.proofs.doing.step.Goals as goal

pub returns : goal.returns
returns c = rw (named c.successor-expected_index.result _ c.successor-expected_index.ensures)
