use Rattle.reassembly.proofs.effects.remove_entry.Goals as goal

pub returns-else-whole : goal.returns-else-whole
returns-else-whole c = rw c.if-whole.false
