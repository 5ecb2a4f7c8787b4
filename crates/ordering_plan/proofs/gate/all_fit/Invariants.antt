use Rattle.std.proofs.Common.{◌≡◌, ◌&&◌, leb, drop}
use Rattle.ordering_plan.specs.Gate.{all_fit}
use Rattle.ordering_plan.proofs.gate.all_fit.Given as goal

-- the longest of those passed stands for them all
abbrev pub invariant-loop-length : goal.invariant-loop-length
invariant-loop-length l = all_fit l.f l.lengths ≡ (leb l.longest l.f && all_fit l.f (drop l.length-index l.lengths))
