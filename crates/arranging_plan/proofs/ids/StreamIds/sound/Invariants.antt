use Rattle.std.proofs.Common.{ℕ, ◌≡◌, ◌<◌, get_or}
use Rattle.keys.specs.Keys.{first_place}
use Rattle.arranging_plan.proofs.ids.StreamIds.sound.Given as goal

-- each id so far stands at its first place
abbrev pub invariant-loop-i : goal.invariant-loop-i
invariant-loop-i l = (j : ℕ) → j < l.i → first_place (get_or l.id-items j 0) l.id-items ≡ j
