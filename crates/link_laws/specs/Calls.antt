-- The calls of a user on one end, one after the other: what each answers and leaves, by its contract.
use Rattle.std.specs.Prelude.{ℕ, ◌<◌, List, [], ◌∷◌}
use Rattle.terms.specs.declared.Sizes.{Sizes}
use Rattle.flight.specs.declared.SentPacket.{SentPacket}
use Rattle.acknowledgment.specs.Calls.{number_of_dropped}
use Rattle.acknowledgment_laws.specs.Runs.{Typed}
use Rattle.packet_table.specs.Numbers.{Bytes}
use Rattle.packet_table.specs.declared.DeliveryGuarantee.{DeliveryGuarantee}
use Rattle.packet_table.specs.declared.OrderingGuarantee.{OrderingGuarantee}
use Rattle.ordering.specs.Take.{number_of_taken}
use Rattle.ends.specs.State.{State}
use Rattle.receiving_plan.specs.Plan.{number_of_answer}
use Rattle.sending.specs.Send.{number_of_sent}
use Rattle.datagrams.specs.Further.{number_of_further}
use Rattle.link_incoming.specs.Calls.{receive_of, take_of}
use Rattle.link_outgoing.specs.Calls.{send_of, resend_of, fragment_of}
use Rattle.link.specs.Calls.{drop_of, drop_number, report_of, number_of_asked}

-- a call of a user, with what it is given; the last is the output that it is lent, of any length
pub data Call : Type 0 where
  -- a datagram comes
  receives : List ℕ → List ℕ → Call
  -- the item that is expected on an ordered stream is taken
  takes : ℕ → List ℕ → Call
  -- an item is sent: its delivery, its ordering, its stream and its payload
  sends : DeliveryGuarantee → OrderingGuarantee → ℕ → List ℕ → List ℕ → Call
  -- an item is sent again: the record and the payload that `dropped_packets` gave back, or any other
  resends : SentPacket → List ℕ → List ℕ → Call
  -- fragment j of a packet in flight is written: its number, and j
  writes : ℕ → ℕ → List ℕ → Call
  -- a packet is given up
  drops : List ℕ → Call
  -- the end is asked for its numbers
  asks : List ℕ → Call

abbrev pub lent_to : Call → List ℕ
lent_to (receives datagram output) = output
lent_to (takes stream output) = output
lent_to (sends delivery ordering stream payload output) = output
lent_to (resends sent payload output) = output
lent_to (writes n j output) = output
lent_to (drops output) = output
lent_to (asks output) = output

-- 01's number of what a call answers, 0 where nothing is refused
unfoldable pub number_of_call : Sizes → State → Call → ℕ
number_of_call z s (receives datagram output) = number_of_answer (receive_of z s datagram output).answer
number_of_call z s (takes stream output) = number_of_taken (take_of z s stream output).answer
number_of_call z s (sends delivery ordering stream payload output) = number_of_sent (send_of z s delivery ordering stream payload output).answer
number_of_call z s (resends sent payload output) = number_of_sent (resend_of z s sent payload output).answer
number_of_call z s (writes n j output) = number_of_further (fragment_of z s n j output)
number_of_call z s (drops output) = number_of_dropped (drop_of z s output)
number_of_call z s (asks output) = number_of_asked (report_of z s output)

-- the end without a packet that was given up
abbrev pub dropped : Sizes → State → List ℕ → State
dropped z s output =
    record {
      acks = record {
        counters = s.acks.counters;
        received = s.acks.received;
        number = drop_number z s output;
        records = s.acks.records;
        bytes = s.acks.bytes;
      };
      parts = s.parts;
      ordered = s.ordered;
      sequenced = s.sequenced;
    }

-- what a call leaves of the end, refused or not, as its contract says
unfoldable pub called : Sizes → State → Call → State
called z s (receives datagram output) = (receive_of z s datagram output).end
called z s (takes stream output) = (take_of z s stream output).end
called z s (sends delivery ordering stream payload output) = (send_of z s delivery ordering stream payload output).end
called z s (resends sent payload output) = (resend_of z s sent payload output).end
called z s (writes n j output) = s
called z s (drops output) = dropped z s output
called z s (asks output) = s

-- "go from call to call unaltered"
unfoldable pub after : Sizes → State → List Call → State
after z s [] = s
after z s (c ∷ cs) = after z (called z s c) cs

-- what the types of the arguments say, where it matters: a datagram is bytes, a stream's id is a byte, and a record has the widths
-- of its fields
pub data AllTyped : List Call → Type 0 where
  none : AllTyped []
  with_receives : {datagram output : List ℕ} {cs : List Call} → Bytes datagram → AllTyped cs → AllTyped (receives datagram output ∷ cs)
  with_takes : {stream : ℕ} {output : List ℕ} {cs : List Call} → AllTyped cs → AllTyped (takes stream output ∷ cs)
  with_sends : {delivery : DeliveryGuarantee} {ordering : OrderingGuarantee} {stream : ℕ} {payload output : List ℕ} {cs : List Call}
      → stream < 256
      → AllTyped cs
      → AllTyped (sends delivery ordering stream payload output ∷ cs)
  with_resends : {sent : SentPacket} {payload output : List ℕ} {cs : List Call} → Typed sent → AllTyped cs → AllTyped (resends sent payload output ∷ cs)
  with_writes : {n j : ℕ} {output : List ℕ} {cs : List Call} → AllTyped cs → AllTyped (writes n j output ∷ cs)
  with_drops : {output : List ℕ} {cs : List Call} → AllTyped cs → AllTyped (drops output ∷ cs)
  with_asks : {output : List ℕ} {cs : List Call} → AllTyped cs → AllTyped (asks output ∷ cs)
