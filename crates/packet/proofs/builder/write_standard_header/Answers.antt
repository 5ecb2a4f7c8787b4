-- Four runs, one onto the other.
use mathlib.Core.Path.{◌≡◌, refl, ◌∙◌}
use mathlib.Core.List.{List, [], ◌∷◌}
use Prim.Native.Nat.{ℕ}
use lib.ListN.{length}
use native.Mathlib.Omega.{arith}
use Rattle.std.specs.Int.{w16, to_be_bytes}
use Rattle.packet_table.specs.Numbers.{written}
use Rattle.packet_table.specs.Table.{type_number, delivery_number, ordering_number}
use Rattle.packet_table.specs.Layout.{standard_bytes}
use Rattle.packet_table.proofs.Output.{same_length as kept-length, onto, three}
use Rattle.packet_table.proofs.Rule.{type_below, delivery_below, ordering_below}
use Rattle.packet_table.proofs.Width.{one_byte, two_bytes}
use Rattle.packet.proofs.builder.write_standard_header.Goals as goal

pub returns : goal.returns
unfolding standard_bytes
returns c =
    let s = c.args.standard in
    let v : List ℕ = to_be_bytes w16 c.args.version in
    let t : ℕ = type_number s.packet_type in
    let d : ℕ = delivery_number s.delivery in
    let o : ℕ = ordering_number s.ordering in
    let out : List ℕ = c.args.output.now in
    let first : length (written 0 v out) ≡ length out = kept-length out 0 v 2 refl (omega arith) in
    rw (
      c.write-4.ensures,
      c.write-3.ensures,
      c.write-2.ensures,
      c.write.ensures,
      c.to_be_bytes.ensures,
      c.from.ensures,
      c.from-2.ensures,
      c.from-3.ensures,
      one_byte t (omega (arith, type_below s.packet_type)),
      one_byte d (omega (arith, delivery_below s.delivery)),
      one_byte o (omega (arith, ordering_below s.ordering)),
      ← two_bytes c.args.version,
    )
    (three (written 0 v out) 2 (t ∷ []) (d ∷ []) (o ∷ []) 1 1 3 4 refl refl refl refl (rw first (omega arith))
    ∙ onto out 0 v 2 refl (omega arith) 2 refl _)
