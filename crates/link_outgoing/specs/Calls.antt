-- What a send, a resend and a further fragment answer and leave, for every input: "1, 2, 13" by one gate, then what the modules
-- say. A call that the gate refuses leaves everything as it was.
use Rattle.std.specs.Prelude.{ℕ, cond, List, leb, Result, Err, Option}
use Rattle.terms.specs.Gates.{through}
use Rattle.terms.specs.declared.Sizes.{Sizes}
use Rattle.terms.specs.declared.Refusal.{Refusal}
use Rattle.terms.specs.declared.Refusal.TheVariants.{BadHeader}
use Rattle.flight.specs.declared.SentPacket.{SentPacket}
use Rattle.packet_table.specs.Table.{ordering_of}
use Rattle.packet_table.specs.declared.DeliveryGuarantee.{DeliveryGuarantee}
use Rattle.packet_table.specs.declared.DeliveryGuarantee.TheVariants.{Reliable}
use Rattle.packet_table.specs.declared.OrderingGuarantee.{OrderingGuarantee}
use Rattle.ends.specs.State.{State}
use Rattle.ends.specs.Gate.{gate_of}
use Rattle.sending.specs.Send.{Step as Sent, transmitted_of}
use Rattle.datagrams.specs.Further.{further_of, further_output}
use Rattle.datagrams.specs.declared.Item.{Item}
use Rattle.datagrams.specs.declared.Identifier.TheVariants.{Next, Again}

-- an item is sent, or sent again
abbrev pub send_refused : Refusal → State → List ℕ → Sent
send_refused why s output = record { answer = Err why; end = s; output = output }

abbrev pub item_next : DeliveryGuarantee → OrderingGuarantee → ℕ → Item
item_next delivery ordering stream = record { delivery = delivery; ordering = ordering; stream = stream; identifier = Next }

unfoldable pub send_of : Sizes → State → DeliveryGuarantee → OrderingGuarantee → ℕ → List ℕ → List ℕ → Sent
send_of z s delivery ordering stream payload output =
    through (gate_of z s output) (λ (why : Refusal). send_refused why s output)
    (transmitted_of z s (item_next delivery ordering stream) payload output)

-- "is given the record .. that `dropped_packets` gave back, .. keeps its item identifier"
abbrev pub item_again : SentPacket → Item
item_again sent =
    record { delivery = Reliable; ordering = ordering_of sent.ordering; stream = sent.stream; identifier = Again sent.item }

-- 4 where the record's ordering byte is unknown
unfoldable pub resend_of : Sizes → State → SentPacket → List ℕ → List ℕ → Sent
resend_of z s sent payload output =
    through (gate_of z s output) (λ (why : Refusal). send_refused why s output)
    (cond (leb 3 sent.ordering) (send_refused BadHeader s output) (transmitted_of z s (item_again sent) payload output))

-- a further fragment of a packet in flight
unfoldable pub fragment_of : Sizes → State → ℕ → ℕ → List ℕ → Result (Option ℕ) Refusal
fragment_of z s n j output =
    through (gate_of z s output) Err
    (further_of z s.acks.counters s.acks.received s.acks.number s.acks.bytes n j)

unfoldable pub fragment_output : Sizes → State → ℕ → ℕ → List ℕ → List ℕ
fragment_output z s n j output =
    through (gate_of z s output) (λ (why : Refusal). output)
    (further_output z s.acks.counters s.acks.received s.acks.number s.acks.bytes n j output)
