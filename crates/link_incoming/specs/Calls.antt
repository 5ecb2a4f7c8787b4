-- What a datagram that has come, and a take, answer and leave, for every input: "1, 2, 13" by one gate, then what the modules say.
-- A call that the gate refuses leaves everything as it was.
use Rattle.std.specs.Prelude.{ℕ, ◌≡◌, List, Result, Err, Option}
use Rattle.terms.specs.Gates.{through}
use Rattle.terms.specs.declared.Sizes.{Sizes}
use Rattle.terms.specs.declared.Refusal.{Refusal}
use Rattle.ordering_plan.specs.State.{written}
use Rattle.ordering.specs.Take.{taken_out}
use Rattle.arranging_plan.specs.Ids.{place_of}
use Rattle.arranging_plan.specs.Ordered.{state_at, next_on, taken_on}
use Rattle.ends.specs.State.{State, Leaves}
use Rattle.ends.specs.Gate.{gate_of}
use Rattle.receiving.specs.Receive.{Step as Received, refused as receive_refused, received_of}
use Rattle.link_incoming.specs.declared.taking.Took.{Took}

-- a datagram has come
unfoldable pub receive_of : Sizes → State → List ℕ → List ℕ → Received
receive_of z s d output = through (gate_of z s output) (λ (why : Refusal). receive_refused why s output) (received_of z s d output)

-- the item that is expected on an ordered stream is taken
pub record Taking : Type 0 where
  pub answer : Result (Option ℕ) Refusal
  pub end : State
  pub output : List ℕ

abbrev pub ordered_as : State → Result (Option ℕ) Refusal → ℕ → ℕ → State
ordered_as s t f id = record { acks = s.acks; parts = s.parts; ordered = taken_on t f id s.ordered; sequenced = s.sequenced }

abbrev pub taken_by : Result (Option ℕ) Refusal → ℕ → State → ℕ → List ℕ → Taking
taken_by t f s id output =
    record {
      answer = t;
      end = ordered_as s t f id;
      output = written (taken_out t f (state_at f s.ordered (place_of s.ordered.counters.known id))) output;
    }

unfoldable pub take_of : Sizes → State → ℕ → List ℕ → Taking
take_of z s id output =
    through (gate_of z s output) (λ (why : Refusal). record { answer = Err why; end = s; output = output })
    (taken_by (next_on z.fragment_size s.ordered id) z.fragment_size s id output)

pub record Takes (t : Taking) (r : Took) (received number records payloads slots entry header joined index lengths held output : List ℕ) : Type 0 where
  pub answer_is : r.answer ≡ t.answer
  pub leaves : Leaves t.end r.end received number records payloads slots entry header joined index lengths held
  pub output_is : output ≡ t.output
