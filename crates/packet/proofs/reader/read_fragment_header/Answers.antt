-- Each field is the number that was read.
use Prim.Native.Nat.{◌+◌, ◌≤◌}
use lib.ListN.{length}
use native.Mathlib.Omega.{arith}
use Rattle.packet_table.proofs.Width.{one}
use Rattle.packet.proofs.reader.read_fragment_header.Goals as goal

pub returns : goal.returns
returns c =
    let d = c.args.datagram.now in
    let at = c.args.cursor.at in
    let room : at + 4 ≤ length d = rw (c.if-not-there.false) at c.requires in
    rw (c.if-not-there.false, c.read_u16.ensures, one d (at + 2) (omega arith), one d (at + 3) (omega arith))
