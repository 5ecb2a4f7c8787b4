-- Document 01, module 3: what each plan leaves and answers. "at the count the message and fragment 0's header come back and
-- the entry goes"; 12 "count reached without fragment 0": "entry removed".
use Rattle.std.specs.Prelude.{ℕ, ◌+◌, ◌*◌, Bool, cond, ◌&&◌, List, ◌++◌, ◌≡◌, eqb, length, get_or, set, take, drop, Result, Ok, Err, Option, Some, None}
use Rattle.std.proofs.Math.Seq.{paste}
use Rattle.laws.specs.Bits.{bit}
use Rattle.sequence_buffer.specs.Buffer.{inserted_num, inserted_slots, removed_slots}
use Rattle.terms.specs.Refusals.{number_of}
use Rattle.terms.specs.declared.Refusal.TheVariants.{ExceededMaxFragments, MissingAckHeader}
use Rattle.reassembly_plan.specs.Words.{entry_word, header_of, header_word}
use Rattle.reassembly_plan.specs.Plan.{slot_of, opened}
use Rattle.reassembly_plan.specs.declared.words.Entry.{Entry}
use Rattle.reassembly_plan.specs.declared.plan.Fragment.{Fragment}
use Rattle.reassembly_plan.specs.declared.plan.Plan.{Plan}
use Rattle.reassembly_plan.specs.declared.plan.Plan.TheVariants.{Make, Join}
use Rattle.reassembly.specs.declared.effects.Handled.{Handled}
use Rattle.terms.specs.declared.Refusal.{Refusal}
use Rattle.reassembly.specs.declared.effects.Message.{Message}

-- the reassembly table: C slots, and what is lent beside them
pub record State : Type 0 where
  pub num : ℕ
  pub slots : List ℕ
  pub entry : List ℕ
  pub header : List ℕ
  pub bytes : List ℕ

-- the count is reached
abbrev pub complete : Entry → Bool
complete e = eqb e.received e.total

-- and fragment 0 was received
abbrev pub hands_out : Entry → Bool
hands_out e = complete e && bit e.ids 0

-- how many bytes its message has
abbrev pub length_of : Entry → ℕ
length_of e = e.joined

-- where the room of a slot begins: 16 x F bytes each
abbrev pub room_of : ℕ → ℕ → ℕ
room_of f k = k * (16 * f)

-- these bytes stand from `at` on, all others stay
abbrev pub put : ℕ → List ℕ → List ℕ → List ℕ
put at given l = paste l at given (length given)

-- a message stands at the start of the output; "bytes after an item stay"
abbrev pub written : List ℕ → List ℕ → List ℕ
written message output = message ++ drop (length message) output

-- the numbers: an entry is made "as module 1 inserts", and goes where the count is reached
unfoldable pub num_after : Result Plan Refusal → ℕ → List ℕ → ℕ → ℕ
num_after (Err why) num slots n = num
num_after (Ok Make) num slots n = inserted_num num slots n
num_after (Ok (Join j)) num slots n = cond j.made (inserted_num num slots n) num

unfoldable pub slots_after : Result Plan Refusal → ℕ → List ℕ → ℕ → List ℕ
slots_after (Err why) num slots n = slots
slots_after (Ok Make) num slots n = inserted_slots num slots n
slots_after (Ok (Join j)) num slots n =
    cond (complete j.entry)
    (removed_slots (cond j.made (inserted_slots num slots n) slots) n)
    (cond j.made (inserted_slots num slots n) slots)

-- the entry at slot k
unfoldable pub entry_after : Result Plan Refusal → ℕ → ℕ → List ℕ → List ℕ
entry_after (Err why) count k entry = entry
entry_after (Ok Make) count k entry = set entry k (entry_word (opened count))
entry_after (Ok (Join j)) count k entry = set entry k (entry_word j.entry)

-- the acknowledgment header is kept where it comes with fragment 0
unfoldable pub header_after : Result Plan Refusal → Fragment → ℕ → List ℕ → List ℕ
header_after (Err why) g k header = header
header_after (Ok Make) g k header = header
header_after (Ok (Join j)) g k header = cond (eqb g.id 0) (set header k (header_word g.header)) header

-- the payload joins, from the start of its slot's room on
unfoldable pub bytes_after : Result Plan Refusal → ℕ → List ℕ → List ℕ → List ℕ
bytes_after (Err why) room payload bytes = bytes
bytes_after (Ok Make) room payload bytes = bytes
bytes_after (Ok (Join j)) room payload bytes = put (room + j.at) payload bytes

-- what stands in the output: the message, or what stood there
unfoldable pub output_after : Result Plan Refusal → ℕ → List ℕ → List ℕ → List ℕ
output_after (Err why) room bytes output = output
output_after (Ok Make) room bytes output = output
output_after (Ok (Join j)) room bytes output = cond (hands_out j.entry) (written (take (length_of j.entry) (drop room bytes)) output) output

-- all of the table
unfoldable pub performed : Result Plan Refusal → ℕ → Fragment → List ℕ → State → State
performed plan f g payload s = record {
  num = num_after plan s.num s.slots g.number.0;
  slots = slots_after plan s.num s.slots g.number.0;
  entry = entry_after plan g.count (slot_of s.slots g) s.entry;
  header = header_after plan g (slot_of s.slots g) s.header;
  bytes = bytes_after plan (room_of f (slot_of s.slots g)) payload s.bytes;
}

-- what is answered once a fragment has joined; `header` is the word of fragment 0's
unfoldable pub joined_answer : Entry → ℕ → Result (Option Message) Refusal
joined_answer e header =
    cond (complete e)
    (cond (bit e.ids 0) (Ok (Some (record { length = length_of e; header = header_of header }))) (Err MissingAckHeader))
    (Ok None)

-- what is answered; `header` is the column once the fragment's own was kept
unfoldable pub answer_of : Result Plan Refusal → ℕ → List ℕ → Result (Option Message) Refusal
answer_of (Err why) k header = Err why
answer_of (Ok Make) k header = Err ExceededMaxFragments
answer_of (Ok (Join j)) k header = joined_answer j.entry (get_or header k 0)

-- 01's number for each answer, 0 where nothing is refused
abbrev pub number_of_answer : Result (Option Message) Refusal → ℕ
number_of_answer (Ok None) = 0
number_of_answer (Ok (Some message)) = 0
number_of_answer (Err why) = number_of why

-- a call that carries out a plan
pub record Performs (plan : Result Plan Refusal) (f : ℕ) (g : Fragment) (payload : List ℕ) (s : State) (output : List ℕ) (r : Handled) (slots entry header bytes out : List ℕ) : Type 0 where
  pub number : r.sequence_num.0 ≡ (performed plan f g payload s).num
  pub answer : r.answer ≡ answer_of plan (slot_of s.slots g) (performed plan f g payload s).header
  pub slots_are : slots ≡ (performed plan f g payload s).slots
  pub entry_is : entry ≡ (performed plan f g payload s).entry
  pub header_is : header ≡ (performed plan f g payload s).header
  pub bytes_are : bytes ≡ (performed plan f g payload s).bytes
  pub output_is : out ≡ output_after plan (room_of f (slot_of s.slots g)) (performed plan f g payload s).bytes output
