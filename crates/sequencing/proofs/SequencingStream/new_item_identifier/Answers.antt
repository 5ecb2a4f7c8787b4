use Rattle.serial.proofs.Items.{named}
use Rattle.sequencing.proofs.SequencingStream.new_item_identifier.Goals as goal

pub returns : goal.returns
returns c = rw (named c.successor-next_item.result _ c.successor-next_item.ensures)
