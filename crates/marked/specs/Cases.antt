-- Document 01, "Marked cases": "Proved together, as a single statement over a list of cases".
use Rattle.std.specs.Prelude.{ℕ, zero, suc, ◌+◌, Bool, true, false, cond, ◌&&◌, List, [], ◌∷◌, ◌++◌, map, ltb, eqb, length, take, replicate, Result, Ok, Err, Option, Some, None}
use Rattle.std.specs.Bool.{beq}
use Rattle.terms.specs.declared.Sizes.{Sizes}
use Rattle.terms.specs.Refusals.{number_of}
use Rattle.serial.specs.Order.{greater}
use Rattle.sequence_buffer.specs.Buffer.{fresh, emptied, inserted}
use Rattle.sequence_buffer.specs.Facts.{Buffer, insert, called, new}
use Rattle.received.specs.Record.{slot_count}
use Rattle.received.specs.Field.{field_of}
use Rattle.flight.specs.Entry.{word_of, numbers_in}
use Rattle.flight.specs.Acked.{is_told}
use Rattle.flight.specs.Lost.{drop_of, number_left}
use Rattle.splitter.specs.Split.{pieces, split_of}
use Rattle.reassembly.specs.Effects.{State, answer_of, output_after}
use Rattle.reassembly.specs.Call.{decided, handled}
use Rattle.reassembly_plan.specs.declared.plan.Fragment.{Fragment}
use Rattle.ordering_plan.specs.State.{fresh as fresh_stream}
use Rattle.ordering_plan.specs.Arrange.{plan_of}
use Rattle.ordering_plan.specs.declared.Arranged.{Arranged}
use Rattle.ordering_plan.specs.declared.Arranged.TheVariants.{Out, Held, Old}
use Rattle.sequencing.specs.Sequence.{fresh as fresh_sequence, sequence_of, topped}
use Rattle.sequencing.specs.declared.SequencingStream.{SequencingStream}
use Rattle.sequencing.specs.declared.Sequenced.{Sequenced}
use Rattle.sequencing.specs.declared.Sequenced.TheVariants.{Out as SequencedOut, Dropped}
use Rattle.terms.specs.declared.Refusal.{Refusal}
use Rattle.reassembly.specs.declared.effects.Message.{Message}
use Rattle.flight.specs.declared.lost.Dropped.{Dropped as Given}

pub data Case : Type 0 where
  -- a comes after b: yes or no
  order : ℕ → ℕ → Bool → Case
  -- a fresh buffer of so many slots accepts a number: yes or no
  accepts : ℕ → ℕ → Bool → Case
  -- the field that is told once a fresh record has had these numbers, in this order
  tells : List ℕ → ℕ → Case
  -- an acknowledged number and field leave of these in flight those
  leaves : ℕ → ℕ → List ℕ → List ℕ → Case
  -- at a remote acknowledged number these in flight are dropped, one a call, in this order
  drops : ℕ → List ℕ → List ℕ → Case
  -- so many bytes are cut by F into pieces of these lengths
  cuts : ℕ → ℕ → List ℕ → Case
  -- with F and M a payload of so many bytes is split, or refused by this number (0: it is not refused)
  splits : ℕ → ℕ → ℕ → ℕ → Case
  -- on a fresh ordered stream the item is held, or is old
  waits : ℕ → Case
  is_old : ℕ → Case
  -- on a fresh sequenced stream all of these go out
  all_out : List ℕ → Case
  -- at F 1, fragments of a message of so many, each with its id, come to a fresh buffer: the last one makes it this message
  joins : ℕ → ℕ × List ℕ → List (ℕ × List ℕ) → List ℕ → Case
  -- or is refused by this number
  joins_not : ℕ → ℕ × List ℕ → List (ℕ × List ℕ) → ℕ → Case

unfoldable pub accepted : Option ℕ → Bool
accepted None = false
accepted (Some slot) = true

-- the n numbers from m on
unfoldable pub from : ℕ → ℕ → List ℕ
from zero m = []
from (suc n) m = m ∷ from n (suc m)

-- a buffer that has had these numbers
unfoldable pub having : Buffer → List ℕ → Buffer
having b [] = b
having b (n ∷ ns) = having (called b (insert n)) ns

unfoldable pub field_after : List ℕ → ℕ
field_after ns = field_of (having (new slot_count) ns).num (having (new slot_count) ns).slots

unfoldable pub same : List ℕ → List ℕ → Bool
same [] [] = true
same [] (y ∷ ys) = false
same (x ∷ xs) [] = false
same (x ∷ xs) (y ∷ ys) = eqb x y && same xs ys

-- the numbers of a column
unfoldable pub numbers : List ℕ → List ℕ
numbers [] = []
numbers (x ∷ xs) = cond (ltb x 65536) (x ∷ numbers xs) (numbers xs)

-- packets of these numbers in flight, without a byte
abbrev pub flying : List ℕ → List ℕ
flying ns = map (λ n. word_of n 0) ns

-- what is dropped, one a call, in so many calls
unfoldable pub dropped_first : Option Given → List ℕ → (List ℕ → List ℕ) → List ℕ
dropped_first None number later = []
dropped_first (Some d) number later = d.number.0 ∷ later (number_left (Some d) number)

unfoldable pub dropped : ℕ → ℕ → List ℕ → List ℕ
dropped zero remote number = []
dropped (suc calls) remote number = dropped_first (drop_of remote number []) number (dropped calls remote)

-- sizes with this F and M
abbrev pub sizes : ℕ → ℕ → Sizes
sizes f m = record { fragment_size = f; reassembly_slots = 1; max_fragments = m; packets_in_flight = 1; version = 0 }

unfoldable pub split_number : Result ℕ Refusal → ℕ
split_number (Ok n) = 0
split_number (Err why) = number_of why

unfoldable pub is_held : Result Arranged Refusal → Bool
is_held (Ok Out) = false
is_held (Ok (Held k)) = true
is_held (Ok Old) = false
is_held (Err why) = false

unfoldable pub is_past : Result Arranged Refusal → Bool
is_past (Ok Out) = false
is_past (Ok (Held k)) = false
is_past (Ok Old) = true
is_past (Err why) = false

unfoldable pub goes_out : Sequenced → Bool
goes_out SequencedOut = true
goes_out Dropped = false

unfoldable pub all_go_out : SequencingStream → List ℕ → Bool
all_go_out s [] = true
all_go_out s (i ∷ is) = goes_out (sequence_of s i) && all_go_out (topped (sequence_of s i) s (record { 0 = i })) is

-- fragment `id` of `count`, of packet 0
abbrev pub piece : ℕ → ℕ → Fragment
piece count id = record {
  number = record { 0 = 0 };
  id = id;
  count = count;
  header = record { number = record { 0 = 0 }; acked = record { 0 = 0 }; field = 0 };
}

-- a fresh buffer of one slot, and an output
abbrev pub fresh_table : State
fresh_table = record { num = 0; slots = fresh 1; entry = replicate 1 0; header = replicate 1 0; bytes = replicate 16 0 }

abbrev pub output : List ℕ
output = replicate 33 0

-- an answer as the message or the number of the refusal
unfoldable pub told : Result (Option Message) Refusal → List ℕ → List ℕ
told (Ok None) out = []
told (Ok (Some m)) out = take m.length out
told (Err why) out = number_of why ∷ []

-- what the last of these fragments is answered
unfoldable pub joined : ℕ → State → ℕ × List ℕ → List (ℕ × List ℕ) → List ℕ
joined count s g [] =
    told (answer_of (decided (sizes 1 2) s output (piece count g.0) (length g.1)) 0 (handled (sizes 1 2) s output (piece count g.0) g.1).header)
    (output_after (decided (sizes 1 2) s output (piece count g.0) (length g.1)) 0 (handled (sizes 1 2) s output (piece count g.0) g.1).bytes output)
joined count s g (h ∷ gs) = joined count (handled (sizes 1 2) s output (piece count g.0) g.1) h gs

unfoldable pub holds : Case → Bool
holds (order a b answer) = beq (greater a b) answer
holds (accepts size n answer) = beq (accepted (inserted 0 (fresh size) n).insertion) answer
holds (tells ns field) = eqb (field_after ns) field
holds (leaves acked field ns left) = same (numbers (numbers_in (map (emptied (is_told acked field)) (flying ns)))) left
holds (drops remote ns list) = same (dropped (length ns + 1) remote (flying ns)) list
holds (cuts f n lengths) = same (map length (pieces f (replicate n 0))) lengths
holds (splits f m n answer) = eqb (split_number (split_of (sizes f m) n)) answer
holds (waits i) = is_held (plan_of fresh_stream (replicate 64 0) i)
holds (is_old i) = is_past (plan_of fresh_stream (replicate 64 0) i)
holds (all_out is) = all_go_out fresh_sequence is
holds (joins count g gs message) = same (joined count fresh_table g gs) message
holds (joins_not count g gs answer) = same (joined count fresh_table g gs) (answer ∷ [])

unfoldable pub hold : List Case → Bool
hold [] = true
hold (c ∷ cs) = holds c && hold cs

unfoldable pub cases : List Case
cases =
    -- 1. greater(32768, 0) yes; (0, 32768) no
    order 32768 0 true
    ∷ order 0 32768 false
    -- 2. (0, 65535) yes; (32769, 0) no
    ∷ order 0 65535 true
    ∷ order 32769 0 false
    -- 3. Fresh 33-slot buffer: 32734 and 65503 accepted; 32735 and 65502 too old
    ∷ accepts 33 32734 true
    ∷ accepts 33 65503 true
    ∷ accepts 33 32735 false
    ∷ accepts 33 65502 false
    -- 4. After 65504..65535, then 0: field 0xBFFFFFFF, since 0 took 65505's slot; then 1: 0x3FFFFFFF
    ∷ tells (from 32 65504 ++ (0 ∷ [])) 0xBFFFFFFF
    ∷ tells (from 32 65504 ++ (0 ∷ 1 ∷ [])) 0x3FFFFFFF
    -- 5. In flight 65534, 65535, 0, 1; acknowledged 0, field 1: 65534 and 1 stay
    ∷ leaves 0 1 (65534 ∷ 65535 ∷ 0 ∷ 1 ∷ []) (65534 ∷ 1 ∷ [])
    -- 6. Remote 100: 67 drops, 68 stays
    ∷ drops 100 (67 ∷ 68 ∷ []) (67 ∷ [])
    -- 7. Remote 40, in flight 65530 and 5: list 5, 65530
    ∷ drops 40 (65530 ∷ 5 ∷ []) (5 ∷ 65530 ∷ [])
    -- 8. 4,000 bytes by 1,024: 1,024, 1,024, 1,024, 928
    ∷ cuts 1024 4000 (1024 ∷ 1024 ∷ 1024 ∷ 928 ∷ [])
    -- 9. F 128, M 16: 2,048 bytes pass, 2,049 refused 8
    ∷ splits 128 16 2048 0
    ∷ splits 128 16 2049 8
    -- 10. Fresh ordering: 32768 held, 32769 old
    ∷ waits 32768
    ∷ is_old 32769
    -- 11. Sequencing 0, 0, 32768, 0: all four out
    ∷ all_out (0 ∷ 0 ∷ 32768 ∷ 0 ∷ [])
    -- 12. F 1, count 2, id 1 "B" then id 0 "A": "BA"
    ∷ joins 2 (1, 66 ∷ []) ((0, 65 ∷ []) ∷ []) (66 ∷ 65 ∷ [])
    -- 13. Count 1, id 3: 12
    ∷ joins_not 1 (3, 67 ∷ []) [] 12
    ∷ []
