use Rattle.std.proofs.Common.{ℕ, ◌≡◌, ◌≤◌, ◌<◌, length, get_or}
use Rattle.reassembly_plan.proofs.gate.used.Given as goal

-- what is left is the front, and no slot behind it has a number
abbrev pub invariant-loop-front : goal.invariant-loop-front
invariant-loop-front l =
    (length l.rest ≤ length l.slots)
    × ((j : ℕ) → j < length l.rest → get_or l.rest j 0 ≡ get_or l.slots j 0)
    × ((j : ℕ) → length l.rest ≤ j → j < length l.slots → 65536 ≤ get_or l.slots j 0)

abbrev pub decreases-loop-front : goal.decreases-loop-front
decreases-loop-front l = length l.rest
