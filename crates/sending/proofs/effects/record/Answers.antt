use Rattle.sending.proofs.effects.record.Goals as goal

pub returns : goal.returns
returns c = rw c.from.ensures
