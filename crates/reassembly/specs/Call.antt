-- Document 01, module 3: 5, "received payload over F", and a fragment's call as a whole.
use Rattle.std.specs.Prelude.{ℕ, cond, List, ◌++◌, ◌≡◌, ltb, length, take, drop, Result, Ok, Err, Option, ⊤}
use Rattle.terms.specs.declared.Sizes.{Sizes}
use Rattle.terms.specs.declared.Refusal.TheVariants.{TooLong}
use Rattle.reassembly_plan.specs.Plan.{slot_of, plan_of}
use Rattle.reassembly_plan.specs.Gate.{gate_of}
use Rattle.reassembly_plan.specs.declared.plan.Fragment.{Fragment}
use Rattle.reassembly_plan.specs.declared.plan.Plan.{Plan}
use Rattle.reassembly.specs.Effects.{State, room_of, performed, answer_of, output_after}
use Rattle.reassembly.specs.declared.effects.Handled.{Handled}
use Rattle.terms.specs.declared.Refusal.{Refusal}
use Rattle.reassembly.specs.declared.effects.Message.{Message}

-- the state as the call finds it, of which C slots are the table's
abbrev pub stated : ℕ → State → State
stated c s = record { num = s.num; slots = take c s.slots; entry = s.entry; header = s.header; bytes = s.bytes }

-- what is lent, with the table's slots as they are left; "bytes after .. stay"
abbrev pub restored : ℕ → State → State → State
restored c s t = record { num = t.num; slots = t.slots ++ drop c s.slots; entry = t.entry; header = t.header; bytes = t.bytes }

-- 5: "received payload over F"
abbrev pub plan_at : Result ⊤ Refusal → Sizes → State → Fragment → ℕ → Result Plan Refusal
plan_at (Err why) z s g len = Err why
plan_at (Ok tt) z s g len = cond (ltb z.fragment_size len) (Err TooLong) (plan_of s.num (take z.reassembly_slots s.slots) s.entry g len)

unfoldable pub decided : Sizes → State → List ℕ → Fragment → ℕ → Result Plan Refusal
decided z s output g len = plan_at (gate_of z s.slots s.entry s.header s.bytes output) z s g len

-- what a call leaves of the table and what is lent
unfoldable pub handled : Sizes → State → List ℕ → Fragment → List ℕ → State
handled z s output g payload =
    restored z.reassembly_slots s
    (performed (decided z s output g (length payload)) z.fragment_size g payload (stated z.reassembly_slots s))

-- what it answers, and what stands in the output
abbrev pub told : Sizes → State → List ℕ → Fragment → List ℕ → Result (Option Message) Refusal
told z s output g payload =
    answer_of (decided z s output g (length payload)) (slot_of (take z.reassembly_slots s.slots) g) (handled z s output g payload).header

abbrev pub output_of : Sizes → State → List ℕ → Fragment → List ℕ → List ℕ
output_of z s output g payload =
    output_after (decided z s output g (length payload)) (room_of z.fragment_size (slot_of (take z.reassembly_slots s.slots) g))
    (handled z s output g payload).bytes output

-- a call of a user, for any input
pub record Handles (z : Sizes) (s : State) (g : Fragment) (payload output : List ℕ) (r : Handled) (slots entry header bytes out : List ℕ) : Type 0 where
  pub number : r.sequence_num.0 ≡ (handled z s output g payload).num
  pub answer : r.answer ≡ told z s output g payload
  pub slots_are : slots ≡ (handled z s output g payload).slots
  pub entry_is : entry ≡ (handled z s output g payload).entry
  pub header_is : header ≡ (handled z s output g payload).header
  pub bytes_are : bytes ≡ (handled z s output g payload).bytes
  pub output_is : out ≡ output_of z s output g payload
