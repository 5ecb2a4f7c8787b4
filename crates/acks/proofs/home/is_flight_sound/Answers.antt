-- A table at home is sound.
use mathlib.Core.Path.{sym}
use native.Mathlib.Omega.{arith}
use lib.Seq.{length-take-le}
use Rattle.terms.proofs.Ranges.{in_range_means}
use Rattle.flight_home.proofs.Homes.{home_sound}
use Rattle.acks.proofs.home.is_flight_sound.Goals as goal

pub returns-then-at_home : goal.returns-then-at_home
returns-then-at_home c = sym (home_sound _ _ (c.requires.2 c.if-at_home.true))

pub slice_bounds-is_sound-end : goal.slice_bounds-is_sound-end
slice_bounds-is_sound-end c = sym (length-take-le c.args.sizes.packets_in_flight c.args.number.now c.requires.1)

pub overflow_mul-sizes : goal.overflow_mul-sizes
overflow_mul-sizes c = let h = in_range_means _ c.requires.0 in omega (arith, h.f)

pub is_sound-requires : goal.is_sound-requires
is_sound-requires c =
    let s = c.before.before.before.before in
    omega (arith, length-take-le s.args.sizes.packets_in_flight s.args.number.now s.requires.1, (in_range_means _ s.requires.0).n)
