-- What the computed runs share: two ends, and rows of items.
use Rattle.std.specs.Prelude.{ℕ, zero, suc, List, [], ◌∷◌, replicate}
use Rattle.terms.specs.declared.Sizes.{Sizes}
use Rattle.sequence_buffer.specs.Buffer.{fresh}
use Rattle.packet_table.specs.declared.DeliveryGuarantee.TheVariants.{Reliable}
use Rattle.packet_table.specs.declared.OrderingGuarantee.TheVariants.{Ordered}
use Rattle.ends.specs.State.{State, lending}
use Rattle.ends.specs.declared.End.{End}
use Rattle.agreement.specs.World.{Pair}
use Rattle.agreement.specs.Events.{Event, sends}

abbrev pub sizes : Sizes
sizes = record { fragment_size = 1; reassembly_slots = 1; max_fragments = 1; packets_in_flight = 70; version = 7 }

abbrev pub pair : Pair
pair = record { sending = sizes; receiving = sizes; stream = 3 }

abbrev pub lent : End → State
lent end =
    lending end (fresh 64) (fresh 70) (replicate 70 0) (replicate 1120 0) (fresh 1) (replicate 1 0) (replicate 1 0) (replicate 16 0) (replicate 256 0)
    (replicate 256 0) (replicate 256 0)

abbrev pub out : List ℕ
out = replicate 33 0

-- n items are sent, with payloads k, k + 1, ..
abbrev pub sending : ℕ → ℕ → List Event
sending zero k = []
sending (suc n) k = sends Reliable Ordered 3 (k ∷ []) out ∷ sending n (suc k)

abbrev pub payloads : ℕ → ℕ → List (List ℕ)
payloads zero k = []
payloads (suc n) k = (k ∷ []) ∷ payloads n (suc k)
