-- Sizes in range, and the table cut from its column.
use native.Mathlib.Omega.{arith}
use lib.Seq.{length-take-le}
use mathlib.Core.Path.{◌≡◌}
use lib.ListN.{length, take}
use Rattle.terms.proofs.Ranges.{InRange, in_range_means}
use Rattle.acks.proofs.home.is_home.Goals as goal
use Rattle.acks.proofs.home.is_home.Goals.{Start}

sized : (c : Start) → InRange c.args.sizes
sized c = in_range_means c.args.sizes c.requires.0

whole : (c : Start) → length (take c.args.sizes.packets_in_flight c.args.number.now) ≡ c.args.sizes.packets_in_flight
whole c = length-take-le c.args.sizes.packets_in_flight c.args.number.now c.requires.1

pub slice_bounds-is_home-end : goal.slice_bounds-is_home-end
slice_bounds-is_home-end c = omega (arith, whole (goal.at.slice_bounds-is_home-end c).Start)

pub overflow_mul-sizes : goal.overflow_mul-sizes
overflow_mul-sizes c = omega (arith, (sized (goal.at.overflow_mul-sizes c).Start).f)

pub is_home-requires : goal.is_home-requires
is_home-requires c =
    let w = whole (goal.at.is_home-requires c).Start in
    let s = sized (goal.at.is_home-requires c).Start in
    (omega (arith, w, s.n), omega (arith, w, s.n), omega (arith, s.f))
