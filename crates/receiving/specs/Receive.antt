-- Document 01, module 7: a datagram has come, once 1, 2 and 13 are answered. "3 for the standard header, 4, 3 for the others, 5, 7,
-- 6; for a fragment after 5: 9, 10, 8, 11, 12."
use Rattle.std.specs.Prelude.{ℕ, ◌-◌, ◌≡◌, cond, List, ltb, length, drop, Result, Ok, Err}
use Rattle.terms.specs.declared.Sizes.{Sizes}
use Rattle.terms.specs.declared.Refusal.{Refusal}
use Rattle.terms.specs.declared.Refusal.TheVariants.{TooLong}
use Rattle.packet.specs.Read.{read_of}
use Rattle.packet_table.specs.declared.Headers.{Headers}
use Rattle.packet_table.specs.declared.PacketType.{PacketType}
use Rattle.packet_table.specs.declared.PacketType.TheVariants.{Packet, Fragment, Heartbeat as IsHeartbeat}
use Rattle.acks.specs.State.{State as Acks}
use Rattle.ends.specs.State.{State, Leaves}
use Rattle.ends.specs.declared.End.{End}
use Rattle.receiving_plan.specs.Plan.{plan_of, told, item_of}
use Rattle.receiving_plan.specs.Heard.{Heard}
use Rattle.receiving_packets.specs.Packets.{acks_after, sequenced_by, ordered_by, handed}
use Rattle.receiving_fragments.specs.Fragments.{parts_after, part_answer, part_output, acks_at_whole, told_part}
use Rattle.receiving_plan.specs.declared.Plan.{Plan}
use Rattle.receiving_packets.specs.declared.Received.{Received}
use Rattle.receiving_fragments.specs.declared.Joined.{Joined}
use Rattle.receiving_plan.specs.declared.Answer.{Answer}
use Rattle.receiving_plan.specs.declared.Answer.TheVariants.{Heartbeat}
use Rattle.packet.specs.declared.Found.{Found}

-- what a call answers, and what it leaves of the end and of the output
pub record Step : Type 0 where
  pub answer : Result Answer Refusal
  pub end : State
  pub output : List ℕ

-- "all unchanged"
abbrev pub refused : Refusal → State → List ℕ → Step
refused why s output = record { answer = Err why; end = s; output = output }

-- what was heard, in the end's state
abbrev pub hearing : Heard → Acks → Acks
hearing t a = record { counters = t.counters; received = t.received; number = t.number; records = a.records; bytes = a.bytes }

-- a packet: everything is judged, then it is heard and arranged
abbrev pub packet_as : Result Plan Refusal → Sizes → Headers → List ℕ → State → List ℕ → Step
packet_as plan z h payload s output =
    record {
      answer = told plan (item_of h (length payload));
      end = record {
        acks = hearing (acks_after plan z h s.acks.counters s.acks.received s.acks.number) s.acks;
        parts = s.parts;
        ordered = ordered_by plan z.fragment_size h.arranging payload s.ordered;
        sequenced = sequenced_by plan h.arranging s.sequenced;
      };
      output = handed (told plan (item_of h (length payload))) payload output;
    }

abbrev pub packet_of : Sizes → Headers → List ℕ → State → List ℕ → Step
packet_of z h payload s output = packet_as (plan_of h s.ordered.counters s.ordered.index s.sequenced) z h payload s output

-- a fragment: module 3, and where the message is whole fragment 0's header is heard
abbrev pub fragment_of : Sizes → Headers → List ℕ → State → List ℕ → Step
fragment_of z h payload s output =
    record {
      answer = told_part (part_answer z h payload s.parts);
      end = record {
        acks = hearing (acks_at_whole (part_answer z h payload s.parts) z s.acks.counters s.acks.received s.acks.number) s.acks;
        parts = parts_after z h payload s.parts;
        ordered = s.ordered;
        sequenced = s.sequenced;
      };
      output = part_output z h payload s.parts output;
    }

-- the end with what a fragment has changed of it
abbrev pub with_part : End → Joined → Received
with_part end p =
    record {
      end = record { acks = p.acks; reassembly = p.reassembly; ordering = end.ordering; sequencing = end.sequencing };
      answer = p.answer;
    }

-- "A heartbeat changes nothing."
abbrev pub by_type : PacketType → Sizes → Headers → List ℕ → State → List ℕ → Step
by_type Packet z h payload s output = packet_of z h payload s output
by_type Fragment z h payload s output = fragment_of z h payload s output
by_type IsHeartbeat z h payload s output = record { answer = Ok Heartbeat; end = s; output = output }

-- 3 and 4 as they were read; 5: "received payload over F"
abbrev pub read_as : Result Found Refusal → Sizes → State → List ℕ → List ℕ → Step
read_as (Err why) z s d output = refused why s output
read_as (Ok r) z s d output =
    cond (ltb z.fragment_size (length d - r.at)) (refused TooLong s output)
    (by_type r.headers.standard.packet_type z r.headers (drop r.at d) s output)

unfoldable pub received_of : Sizes → State → List ℕ → List ℕ → Step
received_of z s d output = read_as (read_of z.version d) z s d output

-- a call answers and leaves that
pub record Receives (t : Step) (r : Received) (received number records payloads slots entry header joined index lengths held output : List ℕ) : Type 0 where
  pub answer_is : r.answer ≡ t.answer
  pub leaves : Leaves t.end r.end received number records payloads slots entry header joined index lengths held
  pub output_is : output ≡ t.output
