-- The two numbers are multiples of the number of places, and each place is at home.
use Rattle.flight_home.proofs.Homes.{lap_multiple, all_home}
use Rattle.flight_home.proofs.home.is_home.Goals as goal

pub returns : goal.returns
returns c =
    λ e.
    all_home _ _ _ _
    (lap_multiple _ _)
    (c.is_lap.ensures (c.if-not-is_lap.false))
    (c.are_parts_home.ensures e)
