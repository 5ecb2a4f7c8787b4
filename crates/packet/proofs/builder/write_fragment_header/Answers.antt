-- Three runs, one onto the other.
use mathlib.Core.Path.{refl, sym}
use mathlib.Core.List.{[], ◌∷◌}
use Prim.Native.Nat.{◌+◌, ◌≤◌}
use lib.ListN.{length}
use native.Mathlib.Omega.{arith}
use Rattle.std.specs.Int.{w16, to_be_bytes}
use Rattle.packet_table.specs.Layout.{fragment_bytes}
use Rattle.packet_table.proofs.Output.{none, three}
use Rattle.packet_table.proofs.Width.{one_byte, two_bytes}
use Rattle.packet.proofs.builder.write_fragment_header.Goals as goal

pub returns-then-not-there : goal.returns-then-not-there
returns-then-not-there c = rw (c.if-not-there.true) (omega arith, sym (none c.args.output.now c.args.at))

pub returns : goal.returns
unfolding fragment_bytes
returns c =
    let a = c.args in
    let f = a.fragment in
    let room : a.at + 4 ≤ length a.output.now = rw (c.if-not-there.false) at c.requires in
    rw (
      c.if-not-there.false,
      c.write-3.ensures,
      c.write-2.ensures,
      c.write.ensures,
      c.to_be_bytes.ensures,
      one_byte f.id (omega arith),
      one_byte f.count (omega arith),
      ← two_bytes f.number.0,
    )
    (refl, three a.output.now a.at (to_be_bytes w16 f.number.0) (f.id ∷ []) (f.count ∷ []) 2 1 (a.at + 2) (a.at + 3) refl refl refl (omega arith) (omega arith))
