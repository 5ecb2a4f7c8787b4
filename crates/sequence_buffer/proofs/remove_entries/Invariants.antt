use Rattle.std.proofs.Common.{◌≡◌, ◌++◌, map, take, drop}
use Rattle.sequence_buffer.specs.Buffer.{goes, emptied}
use Rattle.sequence_buffer.proofs.remove_entries.Given as goal

abbrev pub invariant-loop-entry : goal.invariant-loop-entry
invariant-loop-entry l = l.slots ≡ map (emptied (goes l.whole l.from l.to)) (take l.entry-index l.initial.slots) ++ drop l.entry-index l.initial.slots
