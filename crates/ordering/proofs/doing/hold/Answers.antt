use native.Mathlib.Omega.{arith}
use Rattle.ordering.proofs.Places.{place_end}
use Rattle.ordering.proofs.doing.hold.Goals as goal

pub overflow_mul-at : goal.overflow_mul-at
overflow_mul-at c =
    let s = c.before.before.before.before in
    let h = place_end s.args.k s.args.f s.requires.2 in
    omega (arith, s.requires.0.small)

pub overflow_add-at : goal.overflow_add-at
overflow_add-at c =
    let s = c.before.before.before.before in
    let h = place_end s.args.k s.args.f s.requires.2 in
    omega (arith, s.requires.0.small, s.requires.1)
