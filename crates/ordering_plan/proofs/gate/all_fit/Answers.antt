use Rattle.std.proofs.Common.{sym, ◌∙◌, leb, arith}
use mathlib.Core.Bool.{and-true}
use Prim.Native.Nat.{zero-le}
use borrow.Author.Tests.{le-leb}
use Rattle.ordering_plan.proofs.Fits.{fits_step, fits_end}
use Rattle.ordering_plan.proofs.gate.all_fit.Goals as goal

pub loop-length-init : goal.loop-length-init
loop-length-init c = rw (le-leb 0 c.args.f zero-le)

pub loop-length-preserved : goal.loop-length-preserved
loop-length-preserved c = rw c.max-longest.ensures (fits_step c.args.f c.args.lengths.now c.loop-length.length-index c.loop-length.longest c.loop-length.invariant c.loop-length-test.true)

pub returns : goal.returns
returns c =
    let l = c.loop-length in
    let a = c.args in
    sym (l.invariant ∙ rw (fits_end a.f a.lengths.now l.length-index (omega arith)) (and-true (leb l.longest a.f)))
