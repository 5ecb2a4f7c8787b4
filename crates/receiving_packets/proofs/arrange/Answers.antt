use mathlib.Core.Path.{ap}
use Rattle.std.specs.Prelude.{Ok}
use Rattle.receiving_packets.proofs.arrange.Goals as goal

pub perform-requires : goal.perform-requires
perform-requires c =
    let s = c in
    let o = s.requires.2 c.in-Ordered.planned (ap Ok c.in-Ordered.is) in
    (s.requires.0, o.0, s.requires.1, o.1)
