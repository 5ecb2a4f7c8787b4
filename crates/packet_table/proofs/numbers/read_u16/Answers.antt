-- Two bytes are two fields of one byte, joined.
use Prim.Native.Nat.{◌+◌}
use native.Mathlib.Omega.{arith}
use borrow.Author.Rules.{rules}
use Rattle.packet_table.proofs.Width.{joined, one}
use Rattle.packet_table.proofs.numbers.read_u16.Goals as goal

pub returns : goal.returns
returns c =
    let d = c.args.d.now in
    let at = c.args.at in
    rw (joined 1 1 d at (search rules), one d at (search rules), one d (at + 1) (search rules)) (omega arith)
