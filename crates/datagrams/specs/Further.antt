-- Document 01, module 7: "a further call, given packet number and j, writes fragment j of a payload in flight over F, or answers none
-- where there is none."
use Rattle.std.specs.Prelude.{ℕ, Bool, cond, ◌&&◌, List, [], ltb, length, get_or, Result, Ok, Err, Option, Some, None}
use Rattle.keys.specs.Keys.{first_place}
use Rattle.serial.specs.declared.PacketNumber.{PacketNumber}
use Rattle.terms.specs.Refusals.{number_of}
use Rattle.terms.specs.declared.Sizes.{Sizes}
use Rattle.flight.specs.Entry.{numbers_in, length_of, bytes_at}
use Rattle.acks.specs.State.{table_of, slot_of}
use Rattle.acks.specs.declared.Acknowledgment.{Acknowledgment}
use Rattle.splitter.specs.Split.{needed, pieces}
use Rattle.packet_table.specs.Table.{follows}
use Rattle.packet_table.specs.Layout.{datagram}
use Rattle.packet.specs.Build.{over}
use Rattle.packet.specs.Read.{no_arranging}
use Rattle.packet_table.specs.declared.Headers.{Headers}
use Rattle.packet_table.specs.declared.StandardHeader.{StandardHeader}
use Rattle.packet_table.specs.declared.PacketType.TheVariants.{Fragment}
use Rattle.packet_table.specs.declared.DeliveryGuarantee.TheVariants.{Reliable}
use Rattle.packet_table.specs.declared.OrderingGuarantee.TheVariants.{None as NoOrder}
use Rattle.datagrams.specs.Datagrams.{acked_for}
use Rattle.terms.specs.declared.Refusal.{Refusal}

-- the standard header of a fragment
abbrev pub fragment_standard : StandardHeader
fragment_standard = record { packet_type = Fragment; delivery = Reliable; ordering = NoOrder }

-- fragment j of a packet; by the table only fragment 0 has the acknowledgment header
abbrev pub further_headers : Acknowledgment → List ℕ → PacketNumber → ℕ → ℕ → Headers
further_headers c received number j total =
    record {
      standard = fragment_standard;
      fragment = record { number = number; id = j; count = total };
      acked = acked_for (follows fragment_standard) j number c received;
      arranging = no_arranging;
    }

-- where a packet is in flight, and its payload
abbrev pub place_for : Sizes → List ℕ → ℕ → ℕ
place_for z number n = first_place n (numbers_in (table_of z number))

abbrev pub payload_for : Sizes → List ℕ → List ℕ → ℕ → List ℕ
payload_for z number bytes n = bytes_at (slot_of z) bytes (place_for z number n) (length_of (get_or number (place_for z number n) 0))

abbrev pub further_datagram : Sizes → Acknowledgment → List ℕ → List ℕ → List ℕ → ℕ → ℕ → List ℕ
further_datagram z c received number bytes n j =
    datagram z.version (further_headers c received (record { 0 = n }) j (needed (length_of (get_or number (place_for z number n) 0)) z.fragment_size))
    (get_or (pieces z.fragment_size (payload_for z number bytes n)) j [])

-- the packet is in flight, its payload is over F, and it has a fragment j
unfoldable pub has_further : Sizes → List ℕ → ℕ → ℕ → Bool
has_further z number n j =
    ltb (place_for z number n) z.packets_in_flight
    && (ltb z.fragment_size (length_of (get_or number (place_for z number n) 0))
    && ltb j (needed (length_of (get_or number (place_for z number n) 0)) z.fragment_size))

unfoldable pub further_of : Sizes → Acknowledgment → List ℕ → List ℕ → List ℕ → ℕ → ℕ → Result (Option ℕ) Refusal
further_of z c received number bytes n j =
    cond (has_further z number n j) (Ok (Some (length (further_datagram z c received number bytes n j)))) (Ok None)

unfoldable pub further_output : Sizes → Acknowledgment → List ℕ → List ℕ → List ℕ → ℕ → ℕ → List ℕ → List ℕ
further_output z c received number bytes n j output =
    cond (has_further z number n j) (over (further_datagram z c received number bytes n j) output) output

-- 01's number for each answer, 0 where nothing is refused
abbrev pub number_of_further : Result (Option ℕ) Refusal → ℕ
number_of_further (Ok (Some d)) = 0
number_of_further (Ok None) = 0
number_of_further (Err why) = number_of why
