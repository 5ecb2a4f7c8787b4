-- Three runs, one onto the other.
use mathlib.Core.Path.{refl, sym}
use Prim.Native.Nat.{◌+◌, ◌≤◌}
use lib.ListN.{length}
use native.Mathlib.Omega.{arith}
use Rattle.std.specs.Int.{w16, w32, to_be_bytes}
use Rattle.packet_table.specs.Layout.{acked_bytes}
use Rattle.packet_table.proofs.Output.{none, three}
use Rattle.packet_table.proofs.Width.{two_bytes, four_bytes}
use Rattle.packet.proofs.builder.write_acknowledge_header.Goals as goal

pub returns-then-not-there : goal.returns-then-not-there
returns-then-not-there c = rw (c.if-not-there.true) (omega arith, sym (none c.args.output.now c.args.at))

pub returns : goal.returns
unfolding acked_bytes
returns c =
    let a = c.args in
    let h = a.acked in
    let room : a.at + 8 ≤ length a.output.now = rw (c.if-not-there.false) at c.requires in
    rw (
      c.if-not-there.false,
      c.write-3.ensures,
      c.write-2.ensures,
      c.write.ensures,
      c.to_be_bytes.ensures,
      c.to_be_bytes-2.ensures,
      c.to_be_bytes-3.ensures,
      ← two_bytes h.number.0,
      ← two_bytes h.acked.0,
      ← four_bytes h.field,
    )
    (refl, three a.output.now a.at (to_be_bytes w16 h.number.0) (to_be_bytes w16 h.acked.0) (to_be_bytes w32 h.field) 2 2 (a.at + 2) (a.at + 4) refl refl refl (omega arith) (omega arith))
