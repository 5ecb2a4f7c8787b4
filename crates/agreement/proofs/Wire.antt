-- What a datagram is to the stream. Assumes nothing.
use Prim.Native.Nat.{ℕ}
use mathlib.Core.Path.{◌≡◌}
use mathlib.Core.List.{List}
use lib.ListN.{drop}
use Rattle.std.specs.Prelude.{Ok}
use Rattle.packet.specs.Read.{read_of, found}
use Rattle.packet_table.specs.declared.Headers.{Headers}
use Rattle.packet_table.specs.declared.PacketType.TheVariants.{Packet}
use Rattle.packet_table.specs.declared.OrderingGuarantee.TheVariants.{Ordered}

-- it reads as an item of the stream, with this index and this payload; v is V
pub record Saying (v id : ℕ) (d : List ℕ) (i : ℕ) (b : List ℕ) : Type 0 where
  pub h : Headers
  pub at : ℕ
  pub reads : read_of v d ≡ found h at
  pub kind : h.standard.packet_type ≡ Packet
  pub ordered : h.standard.ordering ≡ Ordered
  pub stream_is : h.arranging.stream ≡ id
  pub index_is : h.arranging.index.0 ≡ i
  pub payload : drop at d ≡ b

-- it does not read as an item of the stream
abbrev pub Beyond : ℕ → ℕ → List ℕ → Type 0
Beyond v id d =
    (h : Headers) (at : ℕ) → read_of v d ≡ found h at → h.standard.packet_type ≡ Packet → h.standard.ordering ≡ Ordered
    → h.arranging.stream ≡ id → ⊥
