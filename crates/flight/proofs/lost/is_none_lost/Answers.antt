-- Where the bits left are no number, neither is what was kept of any entry passed.
use Rattle.std.proofs.Common.{arith, leb-true}
use Rattle.flight.proofs.Walks.{no_lost}
use Rattle.flight.proofs.Words.{no_number, numbers_at, numbers_length}
use Rattle.flight.proofs.lost.is_none_lost.Goals as goal

pub returns-then-none_below : goal.returns-then-none_below
returns-then-none_below c =
    λ e j h.
    let part = c.args.part.now in
    let long = numbers_length part in
    rw (numbers_at part j (omega arith)) (no_lost c.args.remote.0 _ (omega (arith, no_number _ (c.none_below.ensures c.if-none_below.true j (omega arith)))))

pub returns : goal.returns
returns c =
    λ e j h.
    let part = c.args.part.now in
    let long = numbers_length part in
    rw (numbers_at part j (omega arith)) (c.loop-word.invariant (leb-true 2147483648 c.loop-word.all e) j (omega arith))
