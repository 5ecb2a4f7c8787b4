-- Each way out has what was read before it.
use native.Mathlib.Omega.{arith}
use borrow.Author.Tests.{eq-eqb, ne_eqb}
use Rattle.std.proofs.lemmas.Result.{err_from_is_err_and}
use Rattle.packet_table.specs.Table.{type_read, delivery_read, ordering_read}
use Rattle.packet_table.proofs.Known.{known, refused}
use Rattle.packet_table.proofs.Width.{one}
use Rattle.packet.specs.Read.{unknown}
use Rattle.packet.proofs.reader.read_standard_header.Goals as goal

pub returns-then-read_u16-version : goal.returns-then-read_u16-version
unfolding unknown
returns-then-read_u16-version c = rw (← c.read_u16.ensures, ne_eqb _ _ c.if-read_u16-version.true)

pub returns-in_err-try_from : goal.returns-in_err-try_from
unfolding unknown type_read
returns-in_err-try_from c =
    let d = c.args.datagram.now in
    let p = err_from_is_err_and c.from_residual.result c.from_residual.ensures.1 in
    let t = refused _ _ _ (c.in_err-try_from.ensures) in
    rw (p.1, p.2, t.1, ← c.read_u16.ensures, eq-eqb _ _ c.if-read_u16-version.false, one d 2 (omega arith), t.0)

pub returns-in_err-try_from-2 : goal.returns-in_err-try_from-2
unfolding unknown type_read delivery_read
returns-in_err-try_from-2 c =
    let d = c.args.datagram.now in
    let p = err_from_is_err_and c.from_residual-in_err-try_from-2.result c.from_residual-in_err-try_from-2.ensures.1 in
    let t = known _ _ _ (c.in_ok-try_from.ensures) in
    let u = refused _ _ _ (c.in_err-try_from-2.ensures) in
    rw (p.1, p.2, u.1, ← c.read_u16.ensures, eq-eqb _ _ c.if-read_u16-version.false, one d 2 (omega arith), one d 3 (omega arith), t.0, u.0)

pub returns-in_err-try_from-3 : goal.returns-in_err-try_from-3
unfolding unknown type_read delivery_read ordering_read
returns-in_err-try_from-3 c =
    let d = c.args.datagram.now in
    let p = err_from_is_err_and c.from_residual-in_err-try_from-3.result c.from_residual-in_err-try_from-3.ensures.1 in
    let t = known _ _ _ (c.in_ok-try_from.ensures) in
    let u = known _ _ _ (c.in_ok-try_from-2.ensures) in
    let o = refused _ _ _ (c.in_err-try_from-3.ensures) in
    rw (p.1, p.2, o.1, ← c.read_u16.ensures, eq-eqb _ _ c.if-read_u16-version.false, one d 2 (omega arith), one d 3 (omega arith), one d 4 (omega arith), t.0, u.0, o.0)

pub returns : goal.returns
unfolding unknown type_read delivery_read ordering_read
returns c =
    let d = c.args.datagram.now in
    let t = known _ _ _ (c.in_ok-try_from.ensures) in
    let u = known _ _ _ (c.in_ok-try_from-2.ensures) in
    let o = known _ _ _ (c.in_ok-try_from-3.ensures) in
    rw (t.1, u.1, o.1, ← c.read_u16.ensures, eq-eqb _ _ c.if-read_u16-version.false, one d 2 (omega arith), one d 3 (omega arith), one d 4 (omega arith), t.0, u.0, o.0)
