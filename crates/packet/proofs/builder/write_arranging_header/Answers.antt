-- Two runs, one onto the other.
use mathlib.Core.Path.{refl, sym}
use mathlib.Core.List.{[], ◌∷◌}
use Prim.Native.Nat.{◌+◌, ◌≤◌}
use lib.ListN.{length}
use native.Mathlib.Omega.{arith}
use Rattle.std.specs.Int.{w16, to_be_bytes}
use Rattle.packet_table.specs.Layout.{arranging_bytes}
use Rattle.packet_table.proofs.Output.{none, onto}
use Rattle.packet_table.proofs.Width.{one_byte, two_bytes}
use Rattle.packet.proofs.builder.write_arranging_header.Goals as goal

pub returns-then-not-there : goal.returns-then-not-there
returns-then-not-there c = rw (c.if-not-there.true) (omega arith, sym (none c.args.output.now c.args.at))

pub returns : goal.returns
unfolding arranging_bytes
returns c =
    let a = c.args in
    let h = a.arranging in
    let room : a.at + 3 ≤ length a.output.now = rw (c.if-not-there.false) at c.requires in
    rw (
      c.if-not-there.false,
      c.write-2.ensures,
      c.write.ensures,
      c.to_be_bytes.ensures,
      one_byte h.stream (omega arith),
      ← two_bytes h.index.0,
    )
    (refl, onto a.output.now a.at (to_be_bytes w16 h.index.0) 2 refl (omega arith) (a.at + 2) refl (h.stream ∷ []))
