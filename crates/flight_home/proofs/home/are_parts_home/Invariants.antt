use Prim.Native.Nat.{ℕ, ◌*◌, ◌<◌}
use Rattle.flight_home.specs.AtHome.{PlaceHome}
use Rattle.flight_home.proofs.home.are_parts_home.Given as goal

abbrev pub invariant-loop-part : goal.invariant-loop-part
invariant-loop-part l = (j : ℕ) → j < l.part * 64 → PlaceHome l.room l.lap l.last l.number j
