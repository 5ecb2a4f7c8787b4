-- Document 01, module 7: "Fragments acknowledge at completion." What becomes of a fragment is module 3's: 9, 10, 8, 11, 12.
use Rattle.std.specs.Prelude.{ℕ, ◌≤◌, ◌≡◌, List, length, take, Result, Ok, Err, Option, Some, None}
use Rattle.terms.specs.declared.Sizes.{Sizes}
use Rattle.received.specs.Record.{slot_count}
use Rattle.acks.specs.declared.Acknowledgment.{Acknowledgment}
use Rattle.serial.specs.declared.PacketNumber.{PacketNumber}
use Rattle.packet_table.specs.declared.Headers.{Headers}
use Rattle.packet_table.specs.declared.DeliveryGuarantee.TheVariants.{Reliable}
use Rattle.packet_table.specs.declared.OrderingGuarantee.TheVariants.{None as NoOrder}
use Rattle.reassembly_plan.specs.Plan.{slot_of, plan_of}
use Rattle.reassembly.specs.Effects.{State as Parts, room_of, performed, answer_of, output_after}
use Rattle.reassembly.specs.Call.{stated, restored}
use Rattle.reassembly.specs.Room.{Room, lending}
use Rattle.reassembly_plan.specs.declared.plan.Fragment.{Fragment}
use Rattle.reassembly_plan.specs.declared.plan.Plan.{Plan}
use Rattle.receiving_plan.specs.Heard.{Heard, unheard, heard_of}
use Rattle.receiving_fragments.specs.declared.Joined.{Joined}
use Rattle.receiving_plan.specs.declared.Answer.{Answer}
use Rattle.receiving_plan.specs.declared.Answer.TheVariants.{Out, Waiting}
use Rattle.terms.specs.declared.Refusal.{Refusal}
use Rattle.reassembly.specs.declared.effects.Message.{Message}

-- the fragment of a datagram's headers
abbrev pub part_of : Headers → Fragment
part_of h =
    record {
      number = h.fragment.number;
      id = h.fragment.id;
      count = h.fragment.count;
      header = record { number = h.acked.number; acked = h.acked.acked; field = h.acked.field };
    }

-- what is to become of it, of the C slots that the table has
abbrev pub part_plan : Sizes → Parts → Headers → ℕ → Result Plan Refusal
part_plan z p h len = plan_of p.num (take z.reassembly_slots p.slots) p.entry (part_of h) len

-- its slot among them
abbrev pub part_slot : Sizes → Parts → Headers → ℕ
part_slot z p h = slot_of (take z.reassembly_slots p.slots) (part_of h)

-- what the plan leaves of the table, answers and hands out
abbrev pub parts_after : Sizes → Headers → List ℕ → Parts → Parts
parts_after z h payload p =
    restored z.reassembly_slots p
    (performed (part_plan z p h (length payload)) z.fragment_size (part_of h) payload (stated z.reassembly_slots p))

abbrev pub part_answer : Sizes → Headers → List ℕ → Parts → Result (Option Message) Refusal
part_answer z h payload p = answer_of (part_plan z p h (length payload)) (part_slot z p h) (parts_after z h payload p).header

abbrev pub part_output : Sizes → Headers → List ℕ → Parts → List ℕ → List ℕ
part_output z h payload p output =
    output_after (part_plan z p h (length payload)) (room_of z.fragment_size (part_slot z p h)) (parts_after z h payload p).bytes output

-- "at the count the message and fragment 0's header come back": that header is heard
abbrev pub acks_at_whole : Result (Option Message) Refusal → Sizes → Acknowledgment → List ℕ → List ℕ → Heard
acks_at_whole (Ok None) z c received number = unheard c received number
acks_at_whole (Ok (Some m)) z c received number = heard_of z m.header.number.0 m.header.acked.0 m.header.field c received number
acks_at_whole (Err why) z c received number = unheard c received number

-- a message was sent reliable and unordered
abbrev pub told_part : Result (Option Message) Refusal → Result Answer Refusal
told_part (Ok None) = Ok Waiting
told_part (Ok (Some m)) = Ok (Out (record { delivery = Reliable; ordering = NoOrder; stream = 0; length = m.length }))
told_part (Err why) = Err why

-- a fragment has come
pub record Joins (z : Sizes) (h : Headers) (payload : List ℕ) (acks : Acknowledgment) (num : PacketNumber) (received number slots entry header joined output : List ℕ)
    (r : Joined) (received' number' slots' entry' header' joined' output' : List ℕ) : Type 0 where
  pub answer_is : r.answer ≡ told_part (part_answer z h payload (lending num.0 slots entry header joined))
  pub acks_are : r.acks ≡ (acks_at_whole (part_answer z h payload (lending num.0 slots entry header joined)) z acks received number).counters
  pub received_is : received' ≡ (acks_at_whole (part_answer z h payload (lending num.0 slots entry header joined)) z acks received number).received
  pub number_is : number' ≡ (acks_at_whole (part_answer z h payload (lending num.0 slots entry header joined)) z acks received number).number
  pub reassembly_is : r.reassembly.0 ≡ (parts_after z h payload (lending num.0 slots entry header joined)).num
  pub slots_are : slots' ≡ (parts_after z h payload (lending num.0 slots entry header joined)).slots
  pub entry_is : entry' ≡ (parts_after z h payload (lending num.0 slots entry header joined)).entry
  pub header_is : header' ≡ (parts_after z h payload (lending num.0 slots entry header joined)).header
  pub joined_are : joined' ≡ (parts_after z h payload (lending num.0 slots entry header joined)).bytes
  pub output_is : output' ≡ part_output z h payload (lending num.0 slots entry header joined) output

-- what a fragment requires: enough storage, a sound table, a payload to F
pub record FragmentReady (z : Sizes) (num : PacketNumber) (received number slots entry header joined payload output : List ℕ) : Type 0 where
  pub record_slots : slot_count ≤ length received
  pub flying : z.packets_in_flight ≤ length number
  pub table_slots : z.reassembly_slots ≤ length slots
  pub table : Room z.fragment_size (stated z.reassembly_slots (lending num.0 slots entry header joined)) output
  pub short : length payload ≤ z.fragment_size
