-- One store, and as many bytes as there are.
use Prim.Native.Nat.{◌+◌, ◌-◌}
use mathlib.Core.Path.{◌≡◌}
use lib.ListN.{length}
use lib.Seq.{drop-drop}
use native.Mathlib.Omega.{arith}
use Rattle.packet_table.specs.Numbers.{written}
use Rattle.packet_table.proofs.numbers.write.Goals as goal

pub returns : goal.returns
unfolding written
returns g c =
    let long : c.args.at + g.row.N - c.args.at ≡ length c.args.field = omega arith in
    rw (c.copy_from_slice.ensures.after, long, drop-drop)
