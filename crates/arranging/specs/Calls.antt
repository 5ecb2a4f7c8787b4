-- The two calls of a user of the ordered streams, as a whole: by the stream's id, "1, 2, 13; then .. 5, .. 7, 6".
use Rattle.std.specs.Prelude.{ℕ, cond, List, ◌≡◌, ltb, length, Result, Err, Option}
use Rattle.terms.specs.declared.Sizes.{Sizes}
use Rattle.terms.specs.declared.Refusal.TheVariants.{TooLong}
use Rattle.ordering_plan.specs.State.{written}
use Rattle.ordering_plan.specs.Arrange.{handed_out, arranged}
use Rattle.ordering.specs.Take.{taken_out}
use Rattle.terms.specs.Gates.{through}
use Rattle.ordering_plan.specs.declared.Arranged.{Arranged}
use Rattle.arranging_plan.specs.Ids.{place_of}
use Rattle.arranging_plan.specs.Ordered.{States, LeavesAll, state_at, stored_at, plan_on, next_on, taken_on}
use Rattle.arranging_plan.specs.Gate.{gate_of, is_refused}
use Rattle.arranging.specs.declared.ordered.AfterTake.{AfterTake}
use Rattle.arranging.specs.declared.calls.AfterArrange.{AfterArrange}
use Rattle.terms.specs.declared.Refusal.{Refusal}

-- an item comes on the stream with an id: after 5, 7 and 6 as planned
unfoldable pub arrange_of : Sizes → States → ℕ → ℕ → List ℕ → List ℕ → Result Arranged Refusal
arrange_of z s id i payload output =
    through (gate_of z s output) Err
    (cond (ltb z.fragment_size (length payload)) (Err TooLong)
    (plan_on s.counters s.index id i).plan)

-- what each leaves: "a stream is made by its first accepted item", and a refused item makes none
abbrev pub arranged_on : Result Arranged Refusal → ℕ → ℕ → ℕ → List ℕ → States → States
arranged_on a f id i payload s =
    cond (is_refused a) s
    (stored_at f s (place_of s.counters.known id) id (arranged a f i payload (state_at f s (place_of s.counters.known id))))

pub record Arranges (z : Sizes) (s : States) (id i : ℕ) (payload output : List ℕ) (r : AfterArrange) (index lengths bytes out : List ℕ) : Type 0 where
  pub answer_is : r.answer ≡ arrange_of z s id i payload output
  pub leaves : LeavesAll (arranged_on (arrange_of z s id i payload output) z.fragment_size id i payload s) r.streams index lengths bytes
  pub output_is : out ≡ written (handed_out (arrange_of z s id i payload output) payload) output

-- the item that is expected on the stream with an id is taken
unfoldable pub take_of : Sizes → States → ℕ → List ℕ → Result (Option ℕ) Refusal
take_of z s id output = through (gate_of z s output) Err (next_on z.fragment_size s id)

pub record Takes (z : Sizes) (s : States) (id : ℕ) (output : List ℕ) (r : AfterTake) (index lengths bytes out : List ℕ) : Type 0 where
  pub answer_is : r.answer ≡ take_of z s id output
  pub leaves : LeavesAll (taken_on (take_of z s id output) z.fragment_size id s) r.streams index lengths bytes
  pub output_is : out ≡ written (taken_out (take_of z s id output) z.fragment_size (state_at z.fragment_size s (place_of s.counters.known id))) output
