-- What is left of the bits is at most each entry passed.
use Rattle.std.proofs.Common.{ℕ, ◌≤◌, get_or, below_more, leb-true, arith}
use lib.Bits.{and_le_l, and_le_r}
use Rattle.keys.proofs.none_below.Goals as goal

pub loop-key-preserved : goal.loop-key-preserved
loop-key-preserved c =
    let l = c.loop-key in
    let keys = c.args.keys.now in
    let e = get_or keys l.key-index 0 in
    below_more (λ (j : ℕ). _ ≤ get_or keys j 0) l.key-index
    (λ j h. omega (arith, l.invariant j h, and_le_l l.all e))
    (and_le_r l.all e)

pub returns : goal.returns
returns c = λ e k h. omega (arith, c.loop-key.invariant k (omega arith), leb-true c.args.least c.loop-key.all e)
