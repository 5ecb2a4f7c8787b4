use native.Mathlib.Omega.{arith}
use lib.Seq.{length-take-le}
use Rattle.receiving_fragments.proofs.hear_whole.Goals as goal

pub slice_bounds-incoming-end : goal.slice_bounds-incoming-end
slice_bounds-incoming-end c =
    let s = c in
    omega (arith, length-take-le s.args.sizes.packets_in_flight s.args.number.now s.requires.1)
