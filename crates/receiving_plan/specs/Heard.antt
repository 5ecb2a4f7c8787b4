-- Document 01, module 7, `process_incoming`: what hearing of a packet changes.
use Rattle.std.specs.Prelude.{ℕ, ◌≡◌, List}
use Rattle.terms.specs.declared.Sizes.{Sizes}
use Rattle.received.specs.Record.{recorded}
use Rattle.acks.specs.State.{heard, unacked}
use Rattle.acks.specs.declared.Acknowledgment.{Acknowledgment}
use Rattle.packet_table.specs.declared.AckedPacketHeader.{AckedPacketHeader}
use Rattle.packet_table.specs.declared.DeliveryGuarantee.{DeliveryGuarantee}
use Rattle.packet_table.specs.declared.DeliveryGuarantee.TheVariants.{Unreliable, Reliable}

-- the counters, the received record, which packets are in flight
pub record Heard : Type 0 where
  pub counters : Acknowledgment
  pub received : List ℕ
  pub number : List ℕ

abbrev pub unheard : Acknowledgment → List ℕ → List ℕ → Heard
unheard c received number = record { counters = c; received = received; number = number }

-- `process_incoming`
abbrev pub heard_of : Sizes → ℕ → ℕ → ℕ → Acknowledgment → List ℕ → List ℕ → Heard
heard_of z n acked field c received number =
    record { counters = heard c received n acked; received = recorded c.received.0 received n; number = unacked z number acked field }

abbrev pub acks_by : DeliveryGuarantee → Sizes → AckedPacketHeader → Acknowledgment → List ℕ → List ℕ → Heard
acks_by Unreliable z h c received number = unheard c received number
acks_by Reliable z h c received number = heard_of z h.number.0 h.acked.0 h.field c received number

pub record Hearing (t : Heard) (counters : Acknowledgment) (received number : List ℕ) : Type 0 where
  pub counters_are : counters ≡ t.counters
  pub received_is : received ≡ t.received
  pub number_is : number ≡ t.number
