use Rattle.std.proofs.Common.{◌≡◌}
use Rattle.laws.specs.Bits.{bits_below}
use Rattle.received.specs.Field.{heard}
use Rattle.received.proofs.bits.Given as goal

abbrev pub invariant-loop-k : goal.invariant-loop-k
invariant-loop-k l = l.field ≡ bits_below (heard l.newest l.slots) l.k
