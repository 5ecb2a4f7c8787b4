use Rattle.std.proofs.Common.{◌≡◌, ℕ, ◌%◌, ◌≤◌, ◌<◌, get_or}
use Rattle.keys.proofs.slots.at_home.Given as goal

abbrev pub invariant-loop-place : goal.invariant-loop-place
invariant-loop-place l = (j : ℕ) → j < l.place → 65536 ≤ l.all → get_or l.keys j 0 < 65536 → get_or l.keys j 0 % 33 ≡ j
