use Rattle.datagrams.proofs.standard.Goals as goal

pub returns : goal.returns
returns c = rw c.packet_type.ensures
