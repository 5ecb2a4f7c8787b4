use Rattle.std.proofs.Common.{◌≡◌, fold, take}
use Rattle.flight.specs.Entry.{numbers_in}
use Rattle.flight.specs.Lost.{lesser}
use Rattle.flight.proofs.lost.lesser.Given as goal

abbrev pub invariant-loop-word : goal.invariant-loop-word
invariant-loop-word l = l.least ≡ fold (lesser l.remote.0) l.fn.least (numbers_in (take l.word-index l.part))
