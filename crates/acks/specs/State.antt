-- Document 01, module 2: what an end keeps of packets received and in flight.
use Rattle.std.specs.Prelude.{ℕ, ◌*◌, cond, List, map, ◌++◌, take, drop}
use Rattle.terms.specs.declared.Sizes.{Sizes}
use Rattle.serial.specs.Order.{greater, next}
use Rattle.serial.specs.declared.PacketNumber.{PacketNumber}
use Rattle.sequence_buffer.specs.Buffer.{inserted_num, emptied}
use Rattle.received.specs.Record.{slots_of}
use Rattle.flight.specs.Acked.{is_told}
use Rattle.acks.specs.declared.Acknowledgment.{Acknowledgment}

-- the counters, and what is lent
pub record State : Type 0 where
  pub counters : Acknowledgment
  pub received : List ℕ
  pub number : List ℕ
  pub records : List ℕ
  pub bytes : List ℕ

abbrev pub lending : Acknowledgment → List ℕ → List ℕ → List ℕ → List ℕ → State
lending counters received number records bytes =
    record { counters = counters; received = received; number = number; records = records; bytes = bytes }

-- the packets in flight are the first N of what is lent
abbrev pub table_of : Sizes → List ℕ → List ℕ
table_of z number = take z.packets_in_flight number

-- a payload's slot has 16 x F bytes
abbrev pub slot_of : Sizes → ℕ
slot_of z = 16 * z.fragment_size

abbrev pub fresh_counters : Acknowledgment
fresh_counters =
    record { sequence_number = record { 0 = 0 }; remote_ack_sequence_num = record { 0 = 65535 }; received = record { 0 = 0 } }

-- "moves the remote acknowledged number (fresh: 65,535) only if the new one is greater"
unfoldable pub newer_of : PacketNumber → PacketNumber → PacketNumber
newer_of acked before = cond (greater acked.0 before.0) acked before

-- the counters after a packet has come
abbrev pub heard : Acknowledgment → List ℕ → ℕ → ℕ → Acknowledgment
heard c received n acked =
    record {
      sequence_number = c.sequence_number;
      remote_ack_sequence_num = newer_of (record { 0 = acked }) c.remote_ack_sequence_num;
      received = record { 0 = inserted_num c.received.0 (slots_of received) n };
    }

-- "removes from flight exactly the acknowledged number and each number i before it whose bit is set"
abbrev pub unacked : Sizes → List ℕ → ℕ → ℕ → List ℕ
unacked z number acked field = map (emptied (is_told acked field)) (table_of z number) ++ drop z.packets_in_flight number

-- the counters after a packet was sent: "then adds one with wrap-around"
abbrev pub sent_one : Acknowledgment → Acknowledgment
sent_one c =
    record {
      sequence_number = record { 0 = next c.sequence_number.0 };
      remote_ack_sequence_num = c.remote_ack_sequence_num;
      received = c.received;
    }
