use Rattle.std.proofs.Common.{ℕ, ◌+◌, ◌<◌, ◌≤◌, get_or}
use Rattle.key_parts.specs.Words.{no_packet, Word}
use Rattle.key_parts.proofs.wide.follows.Given as goal

abbrev pub invariant-loop-k : goal.invariant-loop-k
invariant-loop-k l = (j : ℕ) → j < l.k → no_packet ≤ l.all → Word l.room (l.first + j) (l.first + j) (get_or l.words (l.at + j) 0)
