-- "Reader and builder are inverse on listed combinations", and what the reader accepts.
use Rattle.std.specs.Prelude.{ℕ, ◌≤◌, ◌<◌, ◌≡◌, false, cond, List, length, take, drop, Ok}
use Rattle.packet_table.specs.declared.Headers.{Headers}
use Rattle.packet_table.specs.declared.table.Following.{Following}
use Rattle.packet_table.specs.Numbers.{Bytes}
use Rattle.packet_table.specs.Table.{follows, has_fragment, has_acked, has_arranging, misfit}
use Rattle.packet_table.specs.Layout.{payload_at, datagram}
use Rattle.packet.specs.Read.{no_fragment, no_acked, no_arranging, read_of, found}
use Rattle.packet.specs.Build.{build_of, leaves}

-- every field is a number that its bytes can hold, as in code it is by its type
pub record Fits (v : ℕ) (h : Headers) : Type 0 where
  pub version : v < 65536
  pub fragment_number : h.fragment.number.0 < 65536
  pub id : h.fragment.id < 256
  pub count : h.fragment.count < 256
  pub number : h.acked.number.0 < 65536
  pub acked : h.acked.acked.0 < 65536
  pub field : h.acked.field < 4294967296
  pub index : h.arranging.index.0 < 65536
  pub stream : h.arranging.stream < 256

-- the headers with those alone that the table says follow
unfoldable pub carried : Headers → Headers
carried h =
    let f : Following = follows h.standard in
    record {
      standard = h.standard;
      fragment = cond (has_fragment f) h.fragment no_fragment;
      acked = cond (has_acked f h.fragment.id) h.acked no_acked;
      arranging = cond (has_arranging f) h.arranging no_arranging;
    }

-- where the payload starts
abbrev pub start : Headers → ℕ
start h = payload_at (follows h.standard) h.fragment.id

-- the datagram that a builder leaves: the first bytes of the output
abbrev pub sent : ℕ → Headers → List ℕ → List ℕ → ℕ → List ℕ
sent v h payload output end = take end (leaves (build_of h payload output) (datagram v h payload) output)

pub record Inverse : Type 0 where
  -- what is built reads back as the same headers and the same payload
  pub read_back :
      (v : ℕ) (h : Headers) (payload output : List ℕ) (end : ℕ) → Fits v h → build_of h payload output ≡ Ok end
      → (read_of v (sent v h payload output end) ≡ found (carried h) (start h)) × (drop (start h) (sent v h payload output end) ≡ payload)
  -- what reads as these headers, built again with its payload, is the same datagram
  pub built_again :
      (v : ℕ) (d : List ℕ) (h : Headers) (at : ℕ) (output : List ℕ) → Bytes d → read_of v d ≡ found h at → length d ≤ length output
      → (build_of h (drop at d) output ≡ Ok (length d)) × (sent v h (drop at d) output (length d) ≡ d)

-- d is a listed layout: these headers, none but those that follow, and this payload
pub record Layout (v : ℕ) (h : Headers) (at : ℕ) (payload d : List ℕ) : Type 0 where
  pub fits : Fits v h
  pub listed : misfit h.standard (follows h.standard) (length payload) ≡ false
  pub no_other : carried h ≡ h
  pub starts : at ≡ start h
  pub is : d ≡ datagram v h payload

-- what the reader accepts is exactly the listed layouts
pub record AcceptsLayouts : Type 0 where
  pub only : (v : ℕ) (d : List ℕ) (h : Headers) (at : ℕ) → Bytes d → read_of v d ≡ found h at → Layout v h at (drop at d) d
  pub all : (v : ℕ) (h : Headers) (at : ℕ) (payload d : List ℕ) → Layout v h at payload d → (read_of v d ≡ found h at) × (drop at d ≡ payload)
