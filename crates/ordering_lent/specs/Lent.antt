-- What a call answers and what it leaves in the counters that it is lent, as `ordering::arrange` returns both.
use Rattle.std.specs.Prelude.{Result}
use Rattle.ordering_plan.specs.declared.OrderingStream.{OrderingStream}
use Rattle.ordering_plan.specs.declared.Arranged.{Arranged}
use Rattle.ordering.specs.declared.AfterArrange.{AfterArrange}
use Rattle.terms.specs.declared.Refusal.{Refusal}

abbrev pub after : Result Arranged Refusal → OrderingStream → AfterArrange
after answer stream = record { answer = answer; stream = stream }
