-- What `new`, `dropped` and `report` answer and leave, for every input: "1, 2" for a fresh end, "1, 2, 13" by one gate for the
-- others, then what the modules say. A call that is refused leaves everything as it was.
use Rattle.std.specs.Prelude.{ℕ, cond, not, List, length, Result, Ok, Err, Option, ⊤}
use Rattle.terms.specs.Gates.{through}
use Rattle.terms.specs.Sizes.{in_range}
use Rattle.terms.specs.Refusals.{number_of}
use Rattle.terms.specs.declared.Sizes.{Sizes}
use Rattle.terms.specs.declared.Refusal.TheVariants.{BadSizes, BadStorage}
use Rattle.sequence_buffer.specs.Buffer.{fresh}
use Rattle.received.specs.Record.{slots_of}
use Rattle.received.specs.Field.{newest_of, field_of}
use Rattle.flight.specs.Entry.{numbers_in}
use Rattle.flight.specs.Places.{count_of}
use Rattle.flight.specs.Lost.{drop_of as lost_of}
use Rattle.acks.specs.State.{table_of}
use Rattle.acknowledgment.specs.Calls.{answered_by, number_kept, output_kept}
use Rattle.ends.specs.State.{State, lending, fresh_end}
use Rattle.ends.specs.Gate.{is_lent, gate_of}
use Rattle.link.specs.declared.status.Status.{Status}
use Rattle.terms.specs.declared.Refusal.{Refusal}
use Rattle.flight.specs.declared.lost.Dropped.{Dropped}

-- a fresh end: 1 and 2 alone can refuse it
unfoldable pub new_of : Sizes → List ℕ → List ℕ → List ℕ → List ℕ → List ℕ → List ℕ → List ℕ → List ℕ → List ℕ → List ℕ → List ℕ → List ℕ → Result ⊤ Refusal
new_of z received number records payloads slots entry header joined index lengths held output =
    cond (not (in_range z)) (Err BadSizes)
    (cond (not (is_lent z (lending fresh_end received number records payloads slots entry header joined index lengths held) output)) (Err BadStorage)
    (Ok tt))

-- a table of a fresh end has no number
abbrev pub filled : Result ⊤ Refusal → List ℕ → List ℕ
filled (Ok tt) table = fresh (length table)
filled (Err why) table = table

-- a packet is given up
unfoldable pub drop_of : Sizes → State → List ℕ → Result (Option Dropped) Refusal
drop_of z s output =
    through (gate_of z s output) Err
    (answered_by (lost_of s.acks.counters.remote_ack_sequence_num.0 (table_of z s.acks.number) s.acks.records))

abbrev pub drop_number : Sizes → State → List ℕ → List ℕ
drop_number z s output = number_kept z (drop_of z s output) s.acks.number

abbrev pub drop_output : Sizes → State → List ℕ → List ℕ
drop_output z s output = output_kept z (drop_of z s output) s.acks output

-- what an end is asked
abbrev pub status_of : Sizes → State → Status
status_of z s =
    record {
      packets_in_flight = count_of (numbers_in (table_of z s.acks.number));
      local_sequence_num = s.acks.counters.sequence_number;
      remote_sequence_num = record { 0 = newest_of s.acks.counters.received.0 };
      ack_bitfield = field_of s.acks.counters.received.0 (slots_of s.acks.received);
    }

unfoldable pub report_of : Sizes → State → List ℕ → Result Status Refusal
report_of z s output = through (gate_of z s output) Err (Ok (status_of z s))

-- 01's number for each answer, 0 where nothing is refused
abbrev pub number_of_fresh : Result ⊤ Refusal → ℕ
number_of_fresh (Ok tt) = 0
number_of_fresh (Err why) = number_of why

abbrev pub number_of_asked : Result Status Refusal → ℕ
number_of_asked (Ok report) = 0
number_of_asked (Err why) = number_of why
