use Rattle.std.proofs.Common.{◌≡◌, true}
use Rattle.arranging_plan.specs.Ordered.{each_sound}
use Rattle.arranging_plan.proofs.ordered.sound.Given as goal

abbrev pub invariant-loop-j : goal.invariant-loop-j
invariant-loop-j l = each_sound l.f l.streams l.index l.lengths l.j ≡ true
