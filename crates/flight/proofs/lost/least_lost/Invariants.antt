use Rattle.std.proofs.Common.{◌≡◌, fold}
use Rattle.std.specs.Slice.Iter.{chunks_rest}
use Rattle.flight.specs.Entry.{numbers_in}
use Rattle.flight.specs.Lost.{lesser, least_lost}
use Rattle.flight.proofs.lost.least_lost.Given as goal

abbrev pub invariant-loop-part : goal.invariant-loop-part
invariant-loop-part l = least_lost l.remote.0 (numbers_in l.number) ≡ fold (lesser l.remote.0) l.least (numbers_in (chunks_rest l.part-iterator))
