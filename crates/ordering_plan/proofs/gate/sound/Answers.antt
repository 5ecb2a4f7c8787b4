use mathlib.Core.Path.{sym, ap}
use mathlib.Core.Bool.{not}
use native.Mathlib.Omega.{arith}
use lib.Seq.{length-take-le}
use borrow.Author.Tests.{lt-leb, le-leb}
use Rattle.ordering_plan.specs.Gate.{sound}
use Rattle.ordering_plan.proofs.gate.sound.Goals as goal

pub returns-then-held-gt64 : goal.returns-then-held-gt64
unfolding sound
returns-then-held-gt64 c = rw (lt-leb c.args.stream.held 64 c.if-held-gt64.true)

pub slice_bounds-all_fit-end : goal.slice_bounds-all_fit-end
slice_bounds-all_fit-end c = sym (length-take-le c.args.stream.held c.args.lengths.now (omega (arith, c.requires)))

pub returns-then-not-all_fit : goal.returns-then-not-all_fit
unfolding sound
returns-then-not-all_fit c =
    let a = c.all_fit in
    rw (le-leb c.args.stream.held 64 c.if-held-gt64.false, ← a.ensures, c.if-not-all_fit.true)

pub slice_bounds-has_twice-end : goal.slice_bounds-has_twice-end
slice_bounds-has_twice-end c = sym (length-take-le c.args.stream.held c.args.index.now (omega (arith, c.requires)))

pub returns : goal.returns
unfolding sound
returns c =
    let a = c.all_fit in
    rw (le-leb c.args.stream.held 64 c.if-held-gt64.false, ← a.ensures, c.if-not-all_fit.false) (ap not c.has_twice.ensures)
