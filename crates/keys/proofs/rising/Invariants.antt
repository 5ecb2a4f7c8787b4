use Rattle.std.proofs.Common.{ℕ, ◌<◌, get_or}
use Rattle.keys.proofs.rising.Given as goal

abbrev pub invariant-loop-i : goal.invariant-loop-i
invariant-loop-i l = (j : ℕ) → j < l.i → (k : ℕ) → k < j → get_or l.keys k 0 < get_or l.keys j 0
