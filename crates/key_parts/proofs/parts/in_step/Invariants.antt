use Rattle.std.proofs.Common.{ℕ, ◌+◌, ◌<◌, ◌≤◌, get_or}
use Rattle.key_parts.specs.Words.{no_packet, Placed}
use Rattle.key_parts.proofs.parts.in_step.Given as goal

abbrev pub invariant-loop-k : goal.invariant-loop-k
invariant-loop-k l = (j : ℕ) → j < l.k → no_packet ≤ l.all → Placed l.room l.lap l.last (l.at + j) (get_or l.words (l.at + j) 0)
