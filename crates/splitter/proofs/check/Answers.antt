use mathlib.Core.Path.{◌≡◌}
use mathlib.Core.Bool.{true, false}
use Prim.Native.Nat.{◌≤◌, ◌<◌}
use native.Mathlib.Omega.{arith}
use lib.Dec.{ltb}
use borrow.Author.Tests.{lt-ltb, le-ltb}
use Rattle.terms.specs.Sizes.{in_range}
use Rattle.terms.proofs.Ranges.{in_range_means}
use Rattle.splitter.specs.Split.{split_of}
use Rattle.splitter.proofs.check.Goals as goal
use Rattle.splitter.proofs.check.Goals.{Else-length-gt65535, Else-not-in_range}

known : (c : Else-not-in_range) → in_range c.args.sizes ≡ true
known c = rw (← c.in_range.ensures) (c.if-not-in_range.false)

-- 5 is not told where the length is at most 65,535
not-too-long : (c : Else-length-gt65535) → ltb 65535 c.args.length ≡ false
not-too-long c =
    let within : c.args.length ≤ 65535 = omega arith in
    le-ltb _ _ within

pub returns-then-not-in_range : goal.returns-then-not-in_range
unfolding split_of
returns-then-not-in_range c = rw (← c.in_range.ensures, c.if-not-in_range.true)

pub returns-then-length-gt65535 : goal.returns-then-length-gt65535
unfolding split_of
returns-then-length-gt65535 c =
    let over : 65535 < c.args.length = omega arith in
    rw (known c.before, lt-ltb _ _ over)

pub fragments_needed-count-requires : goal.fragments_needed-count-requires
fragments_needed-count-requires c = (in_range_means c.args.sizes (known c.before)).f

pub returns-then-sizes-count : goal.returns-then-sizes-count
unfolding split_of
returns-then-sizes-count c = rw (known c.before.before.before.before, not-too-long c.before.before.before, ← c.fragments_needed-count.ensures, lt-ltb _ _ c.if-sizes-count.true)

pub returns : goal.returns
unfolding split_of
returns c = rw (known c.before.before.before.before, not-too-long c.before.before.before, ← c.fragments_needed-count.ensures, le-ltb _ _ c.if-sizes-count.false)
