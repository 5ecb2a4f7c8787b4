use Rattle.datagrams.proofs.further.headers.Goals as goal

pub returns : goal.returns
returns c = rw (c.acknowledge.ensures, c.standard.ensures, c.requires.0)
