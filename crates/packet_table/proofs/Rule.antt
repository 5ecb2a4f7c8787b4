-- The rule of the table at each of its eighteen places, and the numbers of a standard header.
-- Assumes nothing.
use mathlib.Core.Path.{◌≡◌, refl}
use Prim.Native.Nat.{ℕ, zero, suc, ◌+◌, ◌*◌, ◌/◌, ◌%◌, ◌<◌}
use native.Mathlib.Omega.{arith}
use Rattle.packet_table.specs.declared.PacketType.{PacketType}
use Rattle.packet_table.specs.declared.PacketType.TheVariants.{Packet, Fragment, Heartbeat}
use Rattle.packet_table.specs.declared.DeliveryGuarantee.{DeliveryGuarantee}
use Rattle.packet_table.specs.declared.DeliveryGuarantee.TheVariants.{Unreliable, Reliable}
use Rattle.packet_table.specs.declared.OrderingGuarantee.{OrderingGuarantee}
use Rattle.packet_table.specs.declared.OrderingGuarantee.TheVariants.{None, Sequenced, Ordered}
use Rattle.packet_table.specs.declared.table.Following.{Following}
use Rattle.packet_table.specs.Table.{type_number, type_of, delivery_number, delivery_of, ordering_number, ordering_of, rule}

pub type_below : (t : PacketType) → type_number t < 3
type_below Packet = omega arith
type_below Fragment = omega arith
type_below Heartbeat = omega arith

pub delivery_below : (d : DeliveryGuarantee) → delivery_number d < 2
delivery_below Unreliable = omega arith
delivery_below Reliable = omega arith

pub ordering_below : (o : OrderingGuarantee) → ordering_number o < 3
ordering_below None = omega arith
ordering_below Sequenced = omega arith
ordering_below Ordered = omega arith

-- each is told by its number
pub type_told : (t : PacketType) → type_of (type_number t) ≡ t
unfolding type_of
type_told Packet = refl
type_told Fragment = refl
type_told Heartbeat = refl

pub delivery_told : (d : DeliveryGuarantee) → delivery_of (delivery_number d) ≡ d
unfolding delivery_of
delivery_told Unreliable = refl
delivery_told Reliable = refl

pub ordering_told : (o : OrderingGuarantee) → ordering_of (ordering_number o) ≡ o
unfolding ordering_of
ordering_told None = refl
ordering_told Sequenced = refl
ordering_told Ordered = refl

-- and a known number is that of what it tells
pub type_number_lem : (n : ℕ) → n < 3 → type_number (type_of n) ≡ n
unfolding type_of
type_number_lem zero h = refl
type_number_lem (suc zero) h = refl
type_number_lem (suc (suc zero)) h = refl
type_number_lem (suc (suc (suc n))) h = absurd (omega arith)

pub delivery_number_lem : (n : ℕ) → n < 2 → delivery_number (delivery_of n) ≡ n
unfolding delivery_of
delivery_number_lem zero h = refl
delivery_number_lem (suc zero) h = refl
delivery_number_lem (suc (suc n)) h = absurd (omega arith)

pub ordering_number_lem : (n : ℕ) → n < 3 → ordering_number (ordering_of n) ≡ n
unfolding ordering_of
ordering_number_lem zero h = refl
ordering_number_lem (suc zero) h = refl
ordering_number_lem (suc (suc zero)) h = refl
ordering_number_lem (suc (suc (suc n))) h = absurd (omega arith)

-- the place of a standard header, and the rule at a place
abbrev pub place : PacketType → DeliveryGuarantee → OrderingGuarantee → ℕ
place t d o = type_number t * 6 + delivery_number d * 3 + ordering_number o

unfoldable pub entry : ℕ → Following
entry k = rule (type_of (k / 6)) (delivery_of (k / 3 % 2)) (ordering_of (k % 3))

module _ (t : PacketType) (d : DeliveryGuarantee) (o : OrderingGuarantee) where
  pub place_below : place t d o < 18
  place_below = omega (arith, type_below t, delivery_below d, ordering_below o)

  pub entry_is : entry (place t d o) ≡ rule t d o
  unfolding entry
  entry_is =
      let first : place t d o / 6 ≡ type_number t = omega (arith, delivery_below d, ordering_below o) in
      let second : place t d o / 3 % 2 ≡ delivery_number d = omega (arith, delivery_below d, ordering_below o) in
      let third : place t d o % 3 ≡ ordering_number o = omega (arith, ordering_below o) in
      rw (first, second, third, type_told t, delivery_told d, ordering_told o)
