-- Document 01, module 4: "Taking: the held item at expected, if any; then expected + 1." One a call.
use Rattle.std.specs.Prelude.{ℕ, ◌-◌, ◌*◌, cond, List, ◌≡◌, ltb, get_or, take, drop, set, Result, Ok, Err, Some, None, Option}
use Rattle.std.proofs.Math.Seq.{paste}
use Rattle.terms.specs.Refusals.{number_of}
use Rattle.ordering_plan.specs.State.{State, Leaves, written, following, place_of}
use Rattle.ordering_plan.specs.declared.OrderingStream.{OrderingStream}
use Rattle.ordering.specs.declared.AfterTake.{AfterTake}
use Rattle.terms.specs.declared.Refusal.{Refusal}

-- the place of the item that is expected
abbrev pub next_place : State → ℕ
next_place s = place_of s.stream s.index s.stream.expected_index.0

-- it is given with its length, if it is held
unfoldable pub next_of : State → Result (Option ℕ) Refusal
next_of s = cond (ltb (next_place s) s.stream.held) (Ok (Some (get_or s.lengths (next_place s) 0))) (Ok None)

-- 01's number for each answer, 0 where nothing is refused
abbrev pub number_of_taken : Result (Option ℕ) Refusal → ℕ
number_of_taken (Ok (Some n)) = 0
number_of_taken (Ok None) = 0
number_of_taken (Err why) = number_of why

-- what each hands out; f is F
abbrev pub taken_out : Result (Option ℕ) Refusal → ℕ → State → Option (List ℕ)
taken_out (Ok (Some n)) f s = Some (take n (drop (next_place s * f) s.bytes))
taken_out (Ok None) f s = None
taken_out (Err why) f s = None

-- "then expected + 1"
abbrev pub shrunk : OrderingStream → OrderingStream
shrunk s = record { expected_index = following s.expected_index; held = s.held - 1; next_item = s.next_item }

-- the last place that is held
abbrev pub last_place : State → ℕ
last_place s = s.stream.held - 1

-- what each leaves of a stream: the last held item moves to the place that is free now
abbrev pub taken : Result (Option ℕ) Refusal → ℕ → State → State
taken (Ok (Some n)) f s =
    record {
      stream = shrunk s.stream;
      index = set s.index (next_place s) (get_or s.index (last_place s) 0);
      lengths = set s.lengths (next_place s) (get_or s.lengths (last_place s) 0);
      bytes = paste s.bytes (next_place s * f) (drop (last_place s * f) s.bytes) (get_or s.lengths (last_place s) 0);
    }
taken (Ok None) f s = s
taken (Err why) f s = s

pub record TakesNext (f : ℕ) (s : State) (output : List ℕ) (r : AfterTake) (index lengths bytes out : List ℕ) : Type 0 where
  pub answer_is : r.answer ≡ next_of s
  pub leaves : Leaves (taken (next_of s) f s) r.stream index lengths bytes
  pub output_is : out ≡ written (taken_out (next_of s) f s) output
