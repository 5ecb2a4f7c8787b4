-- Document 01, module 7: "as fragments, which it does exactly when it is over F; an empty one goes as an ordinary packet"; "a
-- send writes its only one or fragment 0".
use Rattle.std.specs.Prelude.{ℕ, ◌+◌, ◌≤◌, cond, List, ltb, length, take}
use Rattle.serial.specs.declared.ItemId.{ItemId}
use Rattle.serial.specs.declared.PacketNumber.{PacketNumber}
use Rattle.received.specs.Record.{slots_of}
use Rattle.received.specs.Field.{newest_of, field_of}
use Rattle.acks.specs.declared.Acknowledgment.{Acknowledgment}
use Rattle.splitter.specs.Split.{needed}
use Rattle.packet_table.specs.Table.{follows, has_acked}
use Rattle.packet_table.specs.Layout.{payload_at, datagram}
use Rattle.packet.specs.Read.{no_acked}
use Rattle.packet_table.specs.declared.Headers.{Headers}
use Rattle.packet_table.specs.declared.StandardHeader.{StandardHeader}
use Rattle.packet_table.specs.declared.AckedPacketHeader.{AckedPacketHeader}
use Rattle.packet_table.specs.declared.PacketType.{PacketType}
use Rattle.packet_table.specs.declared.table.Following.{Following}
use Rattle.packet_table.specs.declared.PacketType.TheVariants.{Packet, Fragment}
use Rattle.datagrams.specs.declared.Item.{Item}

unfoldable pub type_for : ℕ → ℕ → PacketType
type_for f n = cond (ltb f n) Fragment Packet

-- how many datagrams an item is
unfoldable pub count_of : ℕ → ℕ → ℕ
count_of f n = cond (ltb f n) (needed n f) 1

-- the acknowledgment header of a packet that is sent now: the newest number received, and the field of those before it
abbrev pub acked_now : PacketNumber → Acknowledgment → List ℕ → AckedPacketHeader
acked_now number c received =
    record { number = number; acked = record { 0 = newest_of c.received.0 }; field = field_of c.received.0 (slots_of received) }

-- a datagram has it where the table says that it follows; a header that does not has 0 in every field, and is not written
abbrev pub acked_for : Following → ℕ → PacketNumber → Acknowledgment → List ℕ → AckedPacketHeader
acked_for f id number c received = cond (has_acked f id) (acked_now number c received) no_acked

-- the standard header of an item's first datagram
abbrev pub standard_for : ℕ → Item → ℕ → StandardHeader
standard_for f i n = record { packet_type = type_for f n; delivery = i.delivery; ordering = i.ordering }

-- the headers of an item's first datagram; which of them are written is the table's
abbrev pub headers_for : ℕ → Item → ItemId → Acknowledgment → List ℕ → ℕ → Headers
headers_for f i id c received n =
    record {
      standard = standard_for f i n;
      fragment = record { number = c.sequence_number; id = 0; count = count_of f n };
      acked = acked_for (follows (standard_for f i n)) 0 c.sequence_number c received;
      arranging = record { index = id; stream = i.stream };
    }

-- the datagram that an item is, or its first
abbrev pub datagram_for : ℕ → ℕ → Item → ItemId → Acknowledgment → List ℕ → List ℕ → List ℕ
datagram_for v f i id c received payload = datagram v (headers_for f i id c received (length payload)) (take f payload)

-- a datagram with these headers has room in the output
abbrev pub Room : Headers → List ℕ → List ℕ → Type 0
Room h payload output = payload_at (follows h.standard) h.fragment.id + length payload ≤ length output
