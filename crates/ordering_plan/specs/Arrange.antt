-- Document 01, module 4: what becomes of an item that has come, and what that leaves.
use Rattle.std.specs.Prelude.{ℕ, ◌+◌, ◌*◌, cond, List, ltb, eqb, length, set, Result, Ok, Err, Option, Some, None}
use Rattle.std.proofs.Math.Seq.{paste}
use Rattle.serial.specs.Order.{back}
use Rattle.terms.specs.Refusals.{number_of}
use Rattle.terms.specs.declared.Refusal.TheVariants.{Full}
use Rattle.ordering_plan.specs.State.{State, following, place_of}
use Rattle.ordering_plan.specs.declared.OrderingStream.{OrderingStream}
use Rattle.ordering_plan.specs.declared.Arranged.{Arranged}
use Rattle.ordering_plan.specs.declared.Arranged.TheVariants.{Out, Held, Old}
use Rattle.terms.specs.declared.Refusal.{Refusal}

-- "Distance d = index - expected, wrapping. d = 0: out. d 1..32,768: held, replacing an equal index. Else old."
-- 6: "an ordered item with d 1..32,768 finds 64 other indices held": its place would be the 65th.
unfoldable pub plan_of : OrderingStream → List ℕ → ℕ → Result Arranged Refusal
plan_of s index i =
    cond (eqb (back i s.expected_index.0) 0) (Ok Out)
    (cond (ltb 32768 (back i s.expected_index.0)) (Ok Old)
    (cond (eqb (place_of s index i) 64) (Err Full)
    (Ok (Held (place_of s index i)))))

-- 01's number for each answer, 0 where nothing is refused
abbrev pub number_of_arranged : Result Arranged Refusal → ℕ
number_of_arranged (Ok Out) = 0
number_of_arranged (Ok (Held k)) = 0
number_of_arranged (Ok Old) = 0
number_of_arranged (Err why) = number_of why

-- what each hands out
abbrev pub handed_out : Result Arranged Refusal → List ℕ → Option (List ℕ)
handed_out (Ok Out) payload = Some payload
handed_out (Ok (Held k)) payload = None
handed_out (Ok Old) payload = None
handed_out (Err why) payload = None

-- "expected + 1"
abbrev pub stepped : OrderingStream → OrderingStream
stepped s = record { expected_index = following s.expected_index; held = s.held; next_item = s.next_item }

-- one more is held where the place is a free one
abbrev pub grown : OrderingStream → ℕ → OrderingStream
grown s k =
    record {
      expected_index = s.expected_index;
      held = cond (eqb k s.held) (s.held + 1) s.held;
      next_item = s.next_item;
    }

-- what each leaves of a stream, for an item with index i and these bytes; f is F
abbrev pub arranged : Result Arranged Refusal → ℕ → ℕ → List ℕ → State → State
arranged (Ok Out) f i payload s = record { stream = stepped s.stream; index = s.index; lengths = s.lengths; bytes = s.bytes }
arranged (Ok (Held k)) f i payload s =
    record {
      stream = grown s.stream k;
      index = set s.index k i;
      lengths = set s.lengths k (length payload);
      bytes = paste s.bytes (k * f) payload (length payload);
    }
arranged (Ok Old) f i payload s = s
arranged (Err why) f i payload s = s
