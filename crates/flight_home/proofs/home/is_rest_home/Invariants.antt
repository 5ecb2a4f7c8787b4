use Prim.Native.Nat.{ℕ, ◌≤◌, ◌<◌}
use Rattle.flight_home.specs.AtHome.{PlaceHome}
use Rattle.flight_home.proofs.home.is_rest_home.Given as goal

abbrev pub invariant-loop-i : goal.invariant-loop-i
invariant-loop-i l = (j : ℕ) → l.from ≤ j → j < l.i → PlaceHome l.room l.lap l.last l.number j
