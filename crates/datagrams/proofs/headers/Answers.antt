use Rattle.datagrams.proofs.headers.Goals as goal

pub returns : goal.returns
returns c = rw (c.acknowledge.ensures, c.count.ensures, c.standard.ensures, c.requires.0)
