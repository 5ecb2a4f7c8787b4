use Rattle.std.proofs.Common.{◌≡◌, ◌++◌, map, take, drop}
use Rattle.sequence_buffer.specs.Buffer.{emptied}
use Rattle.flight.specs.Acked.{is_told}
use Rattle.flight.proofs.acked.remove.Given as goal

abbrev pub invariant-loop-word : goal.invariant-loop-word
invariant-loop-word l = l.number ≡ map (emptied (is_told l.acked.0 l.field)) (take l.word-index l.initial.number) ++ drop l.word-index l.initial.number
