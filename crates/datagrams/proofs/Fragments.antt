-- Which fragments a further call writes. Assumes nothing.
use mathlib.Core.Path.{◌≡◌, sym, ap, ◌∙◌}
use mathlib.Core.Bool.{true, false}
use mathlib.Core.List.{List, []}
use Prim.Native.Nat.{ℕ, ◌+◌, ◌*◌, ◌≤◌, ◌<◌}
use native.Mathlib.Nat.{mul-le-mul}
use native.Mathlib.Omega.{arith}
use lib.ListN.{length, get_or}
use lib.Seq.{length-take-le, get_or-take}
use borrow.Author.Tests.{lt-ltb, le-ltb}
use Rattle.std.specs.Prelude.{Ok, Some, None}
use Rattle.laws.proofs.Slots.{slot_end, part_length}
use Rattle.terms.specs.declared.Sizes.{Sizes}
use Rattle.ends.specs.State.{State}
use Rattle.ends.proofs.Opened.{Opened}
use Rattle.serial.specs.declared.PacketNumber.{PacketNumber}
use Rattle.acks.specs.State.{table_of, slot_of}
use Rattle.acks.specs.declared.Acknowledgment.{Acknowledgment}
use Rattle.flight.specs.Entry.{number_in, length_of, bytes_at}
use Rattle.flight.proofs.Found.{fits_at}
use Rattle.flight.proofs.Viewed.{word_at}
use Rattle.flight.proofs.Words.{is_number}
use Rattle.splitter.specs.Split.{needed, pieces}
use Rattle.splitter.proofs.Pieces.{piece_at}
use Rattle.packet_table.specs.Table.{follows}
use Rattle.packet_table.specs.Layout.{datagram}
use Rattle.packet.specs.Build.{Writes}
use Rattle.packet_table.specs.declared.Headers.{Headers}
use Rattle.datagrams.specs.Datagrams.{Room}
use Rattle.datagrams.specs.Further.{place_for, fragment_standard, further_headers, further_datagram, has_further, further_of, further_output}
use Rattle.datagrams.proofs.Fits.{at_most, payload_at_most, take_most}

module _ (z : Sizes) (c : Acknowledgment) (received number bytes : List ℕ) (n j : ℕ) where
  abbrev F : ℕ
  F = z.fragment_size

  abbrev N : ℕ
  N = z.packets_in_flight

  abbrev Place : ℕ
  Place = place_for z number n

  abbrev Length : ℕ
  Length = length_of (get_or number Place 0)

  not_there : N ≤ Place → has_further z number n j ≡ false
  unfolding has_further
  not_there h = rw (le-ltb _ _ h)

  not_over : Place < N → Length ≤ F → has_further z number n j ≡ false
  unfolding has_further
  not_over p h = rw (lt-ltb _ _ p, le-ltb _ _ h)

  not_one : Place < N → F < Length → needed Length F ≤ j → has_further z number n j ≡ false
  unfolding has_further
  not_one p o h = rw (lt-ltb _ _ p, lt-ltb _ _ o, le-ltb _ _ h)

  is_one : Place < N → F < Length → j < needed Length F → has_further z number n j ≡ true
  unfolding has_further
  is_one p o h = rw (lt-ltb _ _ p, lt-ltb _ _ o, lt-ltb _ _ h)

  nothing : has_further z number n j ≡ false → (output : List ℕ)
      → ((Ok None) ≡ further_of z c received number bytes n j) × (output ≡ further_output z c received number bytes n j output)
  unfolding further_of further_output
  nothing e output = (rw e, rw e)

  pub none_there : N ≤ Place → (output : List ℕ)
      → ((Ok None) ≡ further_of z c received number bytes n j) × (output ≡ further_output z c received number bytes n j output)
  none_there h = nothing (not_there h)

  pub none_over : Place < N → Length ≤ F → (output : List ℕ)
      → ((Ok None) ≡ further_of z c received number bytes n j) × (output ≡ further_output z c received number bytes n j output)
  none_over p h = nothing (not_over p h)

  pub none_left : Place < N → F < Length → needed Length F ≤ j → (output : List ℕ)
      → ((Ok None) ≡ further_of z c received number bytes n j) × (output ≡ further_output z c received number bytes n j output)
  none_left p o h = nothing (not_one p o h)

  -- place, length and number of fragments as the code has them
  pub written : (at count total : ℕ) (h : Headers) (piece output : List ℕ) (long : ℕ) (after : List ℕ)
      → at ≡ Place
      → count ≡ length_of (get_or number at 0)
      → total ≡ needed count F
      → h ≡ further_headers c received (record { 0 = n }) j total
      → piece ≡ get_or (pieces F (bytes_at (slot_of z) bytes at count)) j []
      → at < N
      → F < count
      → j < total
      → Writes (datagram z.version h piece) output long after
      → (Ok (Some long) ≡ further_of z c received number bytes n j) × (after ≡ further_output z c received number bytes n j output)
  unfolding further_of further_output
  written at count total h piece output long after ea ec et eh ep p o l w =
      let length_is : count ≡ Length = ec ∙ ap (λ (k : ℕ). length_of (get_or number k 0)) ea in
      let total-is : total ≡ needed Length F = et ∙ ap (λ (k : ℕ). needed k F) length_is in
      let same : datagram z.version h piece ≡ further_datagram z c received number bytes n j = rw (eh, ep, total-is, length_is, ea) in
      let there = is_one (omega (arith, ea, p)) (omega (arith, length_is, o)) (omega (arith, total-is, l)) in
      (rw (there, ← same, w.length_is), rw (there, ← same) w.output_is)

-- the table has N places
pub whole : (z : Sizes) (s : State) (output : List ℕ) → Opened z s output → length (table_of z s.acks.number) ≡ z.packets_in_flight
whole z s output g = length-take-le z.packets_in_flight s.acks.number g.number_room

-- a packet in flight has a slot, which is among the bytes and holds its payload of `count` bytes
pub record Slot (z : Sizes) (bytes : List ℕ) (at count : ℕ) : Type 0 where
  pub low : at * slot_of z ≤ 256 * 16384
  pub fits : count ≤ 16384
  pub ends : at * slot_of z + count ≤ length bytes
  pub part : length (bytes_at (slot_of z) bytes at count) ≡ count
  pub few : needed count z.fragment_size ≤ 16

module _ (z : Sizes) (s : State) (output : List ℕ) (g : Opened z s output) (n at count : ℕ) (small : n < 65536)
    (ea : at ≡ place_for z s.acks.number n) (there : at < z.packets_in_flight) (ec : count ≡ length_of (get_or s.acks.number at 0)) where
  holds : count ≤ slot_of z
  holds =
      let table = table_of z s.acks.number in
      let within : at < length table = omega (arith, whole z s output g, there) in
      let number : number_in (get_or table at 0) ≡ n = rw ea (word_at n table (omega (arith, ea, within))) in
      let in-flight = is_number (get_or table at 0) (omega (arith, small, number)) in
      let word : get_or table at 0 ≡ get_or s.acks.number at 0 = get_or-take z.packets_in_flight s.acks.number at 0 there in
      rw (ec, sym word) (fits_at (slot_of z) table at g.flight.fits within in-flight)

  pub in_slot : Slot z s.acks.bytes at count
  in_slot =
      let f = g.within_range.f in
      let ends : at * slot_of z + slot_of z ≤ length s.acks.bytes = omega (arith, slot_end at z.packets_in_flight (slot_of z) there, g.payloads_room) in
      record {
        low = mul-le-mul {n₁ = at} {m₁ = slot_of z} {n₂ = 256} {m₂ = 16384} (omega (arith, there, g.within_range.n.1)) (omega (arith, f.1));
        fits = omega (arith, holds, f.1);
        ends = omega (arith, ends, holds);
        part = part_length s.acks.bytes (at * slot_of z) count (omega (arith, ends, holds));
        few = at_most count z.fragment_size 16 f.0 holds;
      }

pub piece_most : (f : ℕ) (l : List ℕ) (j : ℕ) → 1 ≤ f → length (get_or (pieces f l) j []) ≤ f
piece_most f l j some = rw (piece_at f l some j) (take_most f _)

pub fragment_room : (c : Acknowledgment) (received : List ℕ) (number : PacketNumber) (f j total : ℕ) (piece output : List ℕ)
    → 1 ≤ f
    → length piece ≤ f
    → 16 * f + 17 ≤ length output
    → Room (further_headers c received number j total) piece output
fragment_room c received number f j total piece output some p wide = omega (arith, payload_at_most (follows fragment_standard) j)
