-- Document 01, "Headers on the wire": what a datagram is.
use Rattle.std.specs.Prelude.{ℕ, ◌+◌, Bool, true, false, List, [], ◌++◌}
use Rattle.packet_table.specs.declared.StandardHeader.{StandardHeader}
use Rattle.packet_table.specs.declared.FragmentHeader.{FragmentHeader}
use Rattle.packet_table.specs.declared.AckedPacketHeader.{AckedPacketHeader}
use Rattle.packet_table.specs.declared.ArrangingHeader.{ArrangingHeader}
use Rattle.packet_table.specs.declared.Headers.{Headers}
use Rattle.packet_table.specs.declared.table.Following.{Following}
use Rattle.packet_table.specs.Numbers.{bytes}
use Rattle.packet_table.specs.Table.{type_number, delivery_number, ordering_number, follows, has_fragment, has_acked, has_arranging}

-- "Standard, 5 bytes: V (2), type, delivery, ordering"
unfoldable pub standard_bytes : ℕ → StandardHeader → List ℕ
standard_bytes v s =
    bytes 2 v ++ (bytes 1 (type_number s.packet_type) ++ (bytes 1 (delivery_number s.delivery) ++ bytes 1 (ordering_number s.ordering)))

-- "Fragment, 4: number, id, count"
unfoldable pub fragment_bytes : FragmentHeader → List ℕ
fragment_bytes f = bytes 2 f.number.0 ++ (bytes 1 f.id ++ bytes 1 f.count)

-- "Acknowledgment, 8: packet number, acknowledged number, 32-bit field"
unfoldable pub acked_bytes : AckedPacketHeader → List ℕ
acked_bytes a = bytes 2 a.number.0 ++ (bytes 2 a.acked.0 ++ bytes 4 a.field)

-- "Arranging, 3: index, stream"
unfoldable pub arranging_bytes : ArrangingHeader → List ℕ
arranging_bytes a = bytes 2 a.index.0 ++ bytes 1 a.stream

-- what a header that is there, or is not, takes up
abbrev pub part : Bool → List ℕ → List ℕ
part true b = b
part false b = []

abbrev pub size_of : Bool → ℕ → ℕ
size_of true n = n
size_of false n = 0

-- where the acknowledgment header, the arranging header and the payload start; `id` is the fragment's
abbrev pub acked_at : Following → ℕ
acked_at f = 5 + size_of (has_fragment f) 4

abbrev pub arranging_at : Following → ℕ → ℕ
arranging_at f id = acked_at f + size_of (has_acked f id) 8

abbrev pub payload_at : Following → ℕ → ℕ
payload_at f id = arranging_at f id + size_of (has_arranging f) 3

-- each header that follows, one after the other
unfoldable pub following_bytes : Following → Headers → List ℕ
following_bytes f h =
    part (has_fragment f) (fragment_bytes h.fragment)
    ++ (part (has_acked f h.fragment.id) (acked_bytes h.acked) ++ part (has_arranging f) (arranging_bytes h.arranging))

-- "The payload is the rest"
unfoldable pub datagram : ℕ → Headers → List ℕ → List ℕ
datagram v h payload = standard_bytes v h.standard ++ (following_bytes (follows h.standard) h ++ payload)
