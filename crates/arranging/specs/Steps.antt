-- What a take and a send do to the ordered streams of an end.
use Rattle.std.specs.Prelude.{ℕ, List, ◌≡◌, set}
use Rattle.ordering_plan.specs.State.{written, numbered}
use Rattle.ordering.specs.Take.{taken_out}
use Rattle.arranging_plan.specs.Ids.{place_of, made_at}
use Rattle.arranging_plan.specs.Ordered.{States, LeavesAll, stream_at, state_at, next_on, taken_on}
use Rattle.arranging_plan.specs.declared.ordered.OrderingStreams.{OrderingStreams}
use Rattle.arranging.specs.declared.ordered.AfterTake.{AfterTake}
use Rattle.arranging.specs.declared.ordered.NewItem.{NewItem}

pub record TakesOn (f : ℕ) (s : States) (id : ℕ) (output : List ℕ) (r : AfterTake) (index lengths bytes out : List ℕ) : Type 0 where
  pub answer_is : r.answer ≡ next_on f s id
  pub leaves : LeavesAll (taken_on (next_on f s id) f id s) r.streams index lengths bytes
  pub output_is : out ≡ written (taken_out (next_on f s id) f (state_at f s (place_of s.counters.known id))) output

-- an item is sent on the stream at place j: it is made, and its next identifier is taken
abbrev pub numbered_at : OrderingStreams → ℕ → ℕ → NewItem
numbered_at s j id =
    record {
      item = (numbered (stream_at s j)).item;
      streams = record { known = made_at s.known j id; streams = set s.streams j (numbered (stream_at s j)).stream };
    }
