use Rattle.std.proofs.Common.{◌≡◌, ℕ, ◌<◌, length, get_or}
use Rattle.flight.specs.Entry.{number_in}
use Rattle.flight.proofs.places.has_twice.Given as goal

abbrev pub invariant-loop-i : goal.invariant-loop-i
invariant-loop-i l = (length l.keys ≡ 256) × ((j : ℕ) → j < l.i → get_or l.keys j 0 ≡ number_in (get_or l.number j 0))
