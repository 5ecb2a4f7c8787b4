-- The ladder of tests, in the order of `read_of`.
use Prim.Native.Nat.{◌<◌, ◌≤◌}
use lib.ListN.{length}
use native.Mathlib.Omega.{arith}
use borrow.Author.Tests.{lt-ltb, le-ltb}
use Rattle.std.proofs.lemmas.Result.{err_from_is_err_and}
use Rattle.packet_table.proofs.Known.{known, refused}
use Rattle.packet.specs.Read.{read_of}
use Rattle.packet.proofs.reader.read_headers.Goals as goal
use Rattle.packet.proofs.reader.read_headers.Goals.{Else-datagram-lt-STANDARD_HEADER_SIZE}

-- past the first test the standard header is whole
whole : (c : Else-datagram-lt-STANDARD_HEADER_SIZE) → 5 ≤ length c.args.datagram.now
whole c = omega arith

pub returns-then-datagram-lt-STANDARD_HEADER_SIZE : goal.returns-then-datagram-lt-STANDARD_HEADER_SIZE
unfolding read_of
returns-then-datagram-lt-STANDARD_HEADER_SIZE c =
    let short : length c.args.datagram.now < 5 = omega arith in
    rw (lt-ltb _ _ short)

pub returns-in_err-standard : goal.returns-in_err-standard
unfolding read_of
returns-in_err-standard c =
    let p = err_from_is_err_and c.from_residual.result c.from_residual.ensures.1 in
    let u = refused _ _ _ c.in_err-standard.ensures in
    rw (p.1, p.2, u.1, le-ltb _ _ (whole (goal.at.returns-in_err-standard c).Else-datagram-lt-STANDARD_HEADER_SIZE), u.0)

pub returns-then-is_misfit : goal.returns-then-is_misfit
unfolding read_of
returns-then-is_misfit c =
    let u = known _ _ _ c.in_ok-standard.ensures in
    let m = c.is_misfit in
    rw (
      le-ltb _ _ (whole (goal.at.returns-then-is_misfit c).Else-datagram-lt-STANDARD_HEADER_SIZE),
      u.0,
      ← u.1,
      ← c.headers_after-following.ensures,
      ← m.ensures,
      c.if-is_misfit.true,
    )

pub returns : goal.returns
unfolding read_of
returns c =
    let u = known _ _ _ c.in_ok-standard.ensures in
    let m = c.is_misfit in
    rw (
      le-ltb _ _ (whole (goal.at.returns c).Else-datagram-lt-STANDARD_HEADER_SIZE),
      u.0,
      ← u.1,
      ← c.headers_after-following.ensures,
      ← m.ensures,
      c.if-is_misfit.false,
    )
    c.read_following.ensures
