-- A payload that is not over F is its own first F bytes.
use mathlib.Core.Path.{sym}
use native.Mathlib.Omega.{arith}
use lib.Seq.{take_all, length-take-le}
use Rattle.datagrams.proofs.first_piece.Goals as goal

pub slice_bounds-result-end : goal.slice_bounds-result-end
slice_bounds-result-end c = sym (length-take-le c.args.f c.args.payload.now (omega (arith, c.if-f-payload.true)))

pub returns : goal.returns
returns c = sym (take_all c.args.f c.args.payload.now c.if-f-payload.false)
