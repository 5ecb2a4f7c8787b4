-- No streams of either kind, and the counters as they are written.
use Rattle.acks.specs.State.{fresh_counters}
use Rattle.ends.proofs.fresh.Goals as goal

pub returns : goal.returns
returns c = λ i. record { acks = fresh_counters; reassembly = record { 0 = 0 }; ordering = c.none.ensures i; sequencing = c.none-2.ensures i }
