use Rattle.std.proofs.Common.{◌≡◌, ◌-◌}
use Rattle.laws.specs.Bits.{bits_below}
use Rattle.received.specs.Recent.{recent_at}
use Rattle.received.proofs.Cleared.{from}
use Rattle.received.proofs.recent.recent_slots.Given as goal

abbrev pub invariant-loop-i : goal.invariant-loop-i
invariant-loop-i l = l.all ≡ bits_below (from (33 - l.i) (recent_at l.oldest l.slots)) 32
