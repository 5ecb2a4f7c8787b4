use Rattle.std.proofs.Common.{◌≡◌, length}
use Rattle.keys.proofs.KeySet.{Seen, Single}
use Rattle.keys.proofs.marks.has_twice.Given as goal

abbrev pub invariant-loop-key : goal.invariant-loop-key
invariant-loop-key l = (length l.seen ≡ 1024) × Seen l.seen l.keys l.key-index × Single l.keys l.key-index
