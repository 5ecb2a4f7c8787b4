use mathlib.Core.Path.{◌≡◌}
use mathlib.Core.List.{map}
use Rattle.sequence_buffer.specs.Buffer.{emptied}
use Rattle.flight_home.proofs.Taken.{told_to}
use Rattle.flight_home.proofs.direct.remove_at_home.Given as goal

abbrev pub invariant-loop-i : goal.invariant-loop-i
invariant-loop-i l = l.number ≡ map (emptied (told_to l.acked.0 l.field l.i)) l.initial.number
