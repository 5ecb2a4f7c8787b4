-- Document 01, "Headers on the wire": the numbers of a type, a delivery and an ordering, and which headers follow them.
use Rattle.std.specs.Prelude.{ℕ, Bool, true, false, not, cond, ◌&&◌, ◌||◌, ltb, leb, eqb, Result, Ok, Err}
use Rattle.terms.specs.declared.Refusal.{Refusal}
use Rattle.terms.specs.declared.Refusal.TheVariants.{BadHeader}
use Rattle.packet_table.specs.declared.StandardHeader.{StandardHeader}
use Rattle.packet_table.specs.declared.PacketType.{PacketType}
use Rattle.packet_table.specs.declared.PacketType.TheVariants.{Packet, Fragment, Heartbeat}
use Rattle.packet_table.specs.declared.DeliveryGuarantee.{DeliveryGuarantee}
use Rattle.packet_table.specs.declared.DeliveryGuarantee.TheVariants.{Unreliable, Reliable}
use Rattle.packet_table.specs.declared.OrderingGuarantee.{OrderingGuarantee}
use Rattle.packet_table.specs.declared.OrderingGuarantee.TheVariants.{None, Sequenced, Ordered}
use Rattle.packet_table.specs.declared.table.Following.{Following}
use Rattle.packet_table.specs.declared.table.Following.TheVariants.{Unlisted, Nothing, Arranging, Acknowledgment, AcknowledgmentArranging, Fragment as FragmentFirst}

-- "Type 0 packet, 1 fragment, 2 heartbeat"
abbrev pub type_number : PacketType → ℕ
type_number Packet = 0
type_number Fragment = 1
type_number Heartbeat = 2

unfoldable pub type_of : ℕ → PacketType
type_of n = cond (eqb n 0) Packet (cond (eqb n 1) Fragment Heartbeat)

-- 4 where the number is none: "a type, delivery or ordering byte is unknown"
unfoldable pub type_read : ℕ → Result PacketType Refusal
type_read n = cond (leb 3 n) (Err BadHeader) (Ok (type_of n))

-- "delivery 0 unreliable, 1 reliable"
abbrev pub delivery_number : DeliveryGuarantee → ℕ
delivery_number Unreliable = 0
delivery_number Reliable = 1

unfoldable pub delivery_of : ℕ → DeliveryGuarantee
delivery_of n = cond (eqb n 0) Unreliable Reliable

unfoldable pub delivery_read : ℕ → Result DeliveryGuarantee Refusal
delivery_read n = cond (leb 2 n) (Err BadHeader) (Ok (delivery_of n))

-- "ordering 0 none, 1 sequenced, 2 ordered"
abbrev pub ordering_number : OrderingGuarantee → ℕ
ordering_number None = 0
ordering_number Sequenced = 1
ordering_number Ordered = 2

unfoldable pub ordering_of : ℕ → OrderingGuarantee
ordering_of n = cond (eqb n 0) None (cond (eqb n 1) Sequenced Ordered)

unfoldable pub ordering_read : ℕ → Result OrderingGuarantee Refusal
ordering_read n = cond (leb 3 n) (Err BadHeader) (Ok (ordering_of n))

-- "(0,0,0) none; (0,0,1) arranging; (0,1,0) acknowledgment; (0,1,1) and (0,1,2) acknowledgment, arranging;
-- (1,1,0) fragment, and acknowledgment when id is 0; (2,0,0) none"
abbrev pub rule : PacketType → DeliveryGuarantee → OrderingGuarantee → Following
rule Packet Unreliable None = Nothing
rule Packet Unreliable Sequenced = Arranging
rule Packet Unreliable Ordered = Unlisted
rule Packet Reliable None = Acknowledgment
rule Packet Reliable Sequenced = AcknowledgmentArranging
rule Packet Reliable Ordered = AcknowledgmentArranging
rule Fragment Unreliable o = Unlisted
rule Fragment Reliable None = FragmentFirst
rule Fragment Reliable Sequenced = Unlisted
rule Fragment Reliable Ordered = Unlisted
rule Heartbeat Unreliable None = Nothing
rule Heartbeat Unreliable Sequenced = Unlisted
rule Heartbeat Unreliable Ordered = Unlisted
rule Heartbeat Reliable o = Unlisted

unfoldable pub follows : StandardHeader → Following
follows s = rule s.packet_type s.delivery s.ordering

abbrev pub listed : Following → Bool
listed Unlisted = false
listed Nothing = true
listed Arranging = true
listed Acknowledgment = true
listed AcknowledgmentArranging = true
listed FragmentFirst = true

-- which of the three headers are there
abbrev pub has_fragment : Following → Bool
has_fragment Unlisted = false
has_fragment Nothing = false
has_fragment Arranging = false
has_fragment Acknowledgment = false
has_fragment AcknowledgmentArranging = false
has_fragment FragmentFirst = true

-- `id` is the fragment's
abbrev pub has_acked : Following → ℕ → Bool
has_acked Unlisted id = false
has_acked Nothing id = false
has_acked Arranging id = false
has_acked Acknowledgment id = true
has_acked AcknowledgmentArranging id = true
has_acked FragmentFirst id = eqb id 0

abbrev pub has_arranging : Following → Bool
has_arranging Unlisted = false
has_arranging Nothing = false
has_arranging Arranging = true
has_arranging Acknowledgment = false
has_arranging AcknowledgmentArranging = true
has_arranging FragmentFirst = false

abbrev pub is_heartbeat : PacketType → Bool
is_heartbeat Packet = false
is_heartbeat Fragment = false
is_heartbeat Heartbeat = true

-- "the combination isn't listed, or a heartbeat isn't 5 bytes"; `more` is how many bytes come after the standard header
unfoldable pub misfit : StandardHeader → Following → ℕ → Bool
misfit s f more = not (listed f) || (is_heartbeat s.packet_type && ltb 0 more)
