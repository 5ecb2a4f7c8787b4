-- Four bytes are two fields of two bytes, joined.
use Prim.Native.Nat.{◌+◌}
use native.Mathlib.Omega.{arith}
use native.Mathlib.Nat.{add_assoc}
use borrow.Author.Rules.{rules}
use Rattle.packet_table.proofs.Width.{joined, one}
use Rattle.packet_table.proofs.numbers.read_u32.Goals as goal

pub returns : goal.returns
returns c =
    let d = c.args.d.now in
    let at = c.args.at in
    rw (joined 2 2 d at (search rules), joined 1 1 d at (search rules), joined 1 1 d (at + 2) (search rules), add_assoc at 2 1, one d at (search rules), one d (at + 1) (search rules), one d (at + 2) (search rules), one d (at + 3) (search rules)) (omega arith)
