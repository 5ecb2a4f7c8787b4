-- The ladder of tests, in the order of `build_of`; then what is written is the datagram.
use mathlib.Core.Path.{◌≡◌, ◌∙◌}
use Prim.Native.Nat.{◌+◌, ◌≤◌}
use lib.ListN.{length}
use native.Mathlib.Omega.{arith}
use borrow.Author.Tests.{le-ltb}
use Rattle.std.specs.Prelude.{Ok}
use Rattle.packet.specs.Build.{build_of}
use Rattle.packet_table.proofs.Lengths.{datagram_length}
use Rattle.packet.proofs.builder.build.Goals as goal

pub returns : goal.returns
unfolding build_of
returns c =
    let a = c.args in
    let place = c.payload_at-at in
    let w = c.write.ensures in
    let all = datagram_length a.version a.headers a.payload.now in
    let long : place.result + length a.payload.now ≤ length a.output.now = omega arith in
    let answer : Ok c.write.result ≡ build_of a.headers a.payload.now a.output.now = rw (
      w.length_is ∙ all,
      ← c.headers_after-following.ensures,
      ← c.is_misfit.ensures,
      c.if-is_misfit.false,
      ← place.ensures,
      le-ltb _ _ long,
    ) in
    record { answers = answer; leaves_output = rw (← answer, w.length_is) w.output_is }
