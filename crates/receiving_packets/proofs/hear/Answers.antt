use native.Mathlib.Omega.{arith}
use lib.Seq.{length-take-le}
use Rattle.receiving_packets.proofs.hear.Goals as goal

pub slice_bounds-incoming-end-in-Reliable : goal.slice_bounds-incoming-end-in-Reliable
slice_bounds-incoming-end-in-Reliable c =
    let s = c in
    omega (arith, length-take-le s.args.sizes.packets_in_flight s.args.number.now s.requires.1)
