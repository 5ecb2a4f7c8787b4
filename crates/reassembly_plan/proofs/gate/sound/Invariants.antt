use Rattle.std.proofs.Common.{ℕ, ◌≡◌, true, ◌%◌, ◌≤◌, ◌<◌, length, get_or}
use Rattle.reassembly_plan.specs.Gate.{sound_at}
use Rattle.reassembly_plan.proofs.gate.sound.Given as goal

abbrev pub invariant-loop-i : goal.invariant-loop-i
invariant-loop-i l =
    ((j : ℕ) → l.i ≤ j → j < length l.slots → sound_at l.f l.slots l.entry j ≡ true)
    × (l.home ≡ true → (j : ℕ) → l.i ≤ j → j < length l.slots → get_or l.slots j 0 < 65536 → get_or l.slots j 0 % length l.slots ≡ j)
