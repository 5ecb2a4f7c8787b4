-- Three runs, each at the place that the one before it answered.
use mathlib.Core.Path.{◌≡◌, refl}
use Prim.Native.Nat.{ℕ}
use mathlib.Core.List.{List}
use native.Mathlib.Omega.{arith}
use Rattle.packet_table.specs.Table.{has_fragment, has_acked, has_arranging}
use Rattle.packet_table.specs.Layout.{part, size_of, fragment_bytes, acked_bytes, arranging_bytes, following_bytes, acked_at, arranging_at}
use Rattle.packet_table.proofs.Lengths.{fragment_length, acked_length}
use Rattle.packet_table.proofs.Output.{three}
use Rattle.packet.proofs.builder.write_following.Goals as goal

pub returns : goal.returns
unfolding following_bytes
returns c =
    let f = c.args.following in
    let h = c.args.headers in
    let out : List ℕ = c.args.output.now in
    let id : ℕ = h.fragment.id in
    let first : c.write_fragment_header-acked_at.result ≡ acked_at f = rw c.has_fragment-has_fragment.ensures at c.write_fragment_header-acked_at.ensures.0 in
    let second : c.write_acknowledge_header-arranging_at.result ≡ arranging_at f id = rw (first, c.has_acked-has_acked.ensures) at c.write_acknowledge_header-arranging_at.ensures.0 in
    rw (
      c.write_arranging_header.ensures.1,
      c.write_acknowledge_header-arranging_at.ensures.1,
      c.write_fragment_header-acked_at.ensures.1,
      second,
      first,
      c.has_fragment-has_fragment.ensures,
      c.has_acked-has_acked.ensures,
      c.has_arranging-has_arranging.ensures,
    )
    (three out 5 (part (has_fragment f) (fragment_bytes h.fragment)) (part (has_acked f id) (acked_bytes h.acked)) (part (has_arranging f) (arranging_bytes h.arranging)) (size_of (has_fragment f) 4) (size_of (has_acked f id) 8) (acked_at f) (arranging_at f id) (fragment_length (has_fragment f) h.fragment) (acked_length (has_acked f id) h.acked) refl refl (omega (arith, c.requires)))
