-- The two calls of a user as a whole: document 01, "Order: 1, 2, 13", then the rest.
use Rattle.std.specs.Prelude.{ℕ, cond, List, ◌≡◌, ltb, length, Result, Err, Option}
use Rattle.terms.specs.Gates.{through}
use Rattle.terms.specs.declared.Sizes.{Sizes}
use Rattle.terms.specs.declared.Refusal.TheVariants.{TooLong}
use Rattle.ordering_plan.specs.State.{State, Leaves, written}
use Rattle.ordering_plan.specs.Arrange.{plan_of, handed_out, arranged}
use Rattle.ordering_plan.specs.Gate.{gate_of}
use Rattle.ordering_plan.specs.declared.Arranged.{Arranged}
use Rattle.ordering.specs.Take.{next_of, taken_out, taken}
use Rattle.ordering.specs.declared.AfterArrange.{AfterArrange}
use Rattle.ordering.specs.declared.AfterTake.{AfterTake}
use Rattle.terms.specs.declared.Refusal.{Refusal}

-- an item comes: "1, 2, 13; then .. 5, .. 6"
unfoldable pub arrange_of : Sizes → State → ℕ → List ℕ → List ℕ → Result Arranged Refusal
arrange_of z s i payload output =
    through (gate_of z s output) Err
    (cond (ltb z.fragment_size (length payload)) (Err TooLong)
    (plan_of s.stream s.index i))

pub record Arranges (z : Sizes) (s : State) (i : ℕ) (payload output : List ℕ) (r : AfterArrange) (index lengths bytes out : List ℕ) : Type 0 where
  pub answer_is : r.answer ≡ arrange_of z s i payload output
  pub leaves : Leaves (arranged (arrange_of z s i payload output) z.fragment_size i payload s) r.stream index lengths bytes
  pub output_is : out ≡ written (handed_out (arrange_of z s i payload output) payload) output

-- the expected item is taken: 1, 2, 13
unfoldable pub take_of : Sizes → State → List ℕ → Result (Option ℕ) Refusal
take_of z s output = through (gate_of z s output) Err (next_of s)

pub record Takes (z : Sizes) (s : State) (output : List ℕ) (r : AfterTake) (index lengths bytes out : List ℕ) : Type 0 where
  pub answer_is : r.answer ≡ take_of z s output
  pub leaves : Leaves (taken (take_of z s output) z.fragment_size s) r.stream index lengths bytes
  pub output_is : out ≡ written (taken_out (take_of z s output) z.fragment_size s) output
