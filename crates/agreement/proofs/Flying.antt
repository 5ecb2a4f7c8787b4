-- What each call makes of the packets in flight, under the numbers that the sender has. Assumes nothing.
use Prim.Native.Nat.{ℕ, ◌*◌, ◌≤◌, ◌<◌}
use mathlib.Core.Path.{◌≡◌, sym, ap, ◌∙◌}
use mathlib.Core.Bool.{Bool, true, false, cond}
use mathlib.Core.List.{List, map, ◌++◌}
use native.Mathlib.Nat.{mul-le-mul_right}
use native.Mathlib.Omega.{arith}
use borrow.Author.Tests.{ltb-true}
use lib.Dec.{ltb, eqb}
use lib.ListN.{length, get_or, set, drop, length-map, length-set}
use lib.Seq.{length-take-le, take_at, take-set-lt, paste}
use Rattle.std.specs.Prelude.{Option, Some, None}
use Rattle.laws.proofs.Cases.{each}
use Rattle.laws.proofs.Slots.{slot_end, part_length}
use Rattle.keys.specs.Keys.{first_place}
use Rattle.terms.specs.Sizes.{in_range}
use Rattle.terms.specs.declared.Sizes.{Sizes}
use Rattle.terms.proofs.Ranges.{in_range_means}
use Rattle.sequence_buffer.specs.Buffer.{none as no_number, emptied}
use Rattle.flight.specs.Entry.{word_of, numbers_in, packed, length_of, bytes_at}
use Rattle.flight.specs.Places.{place_of, full}
use Rattle.flight.specs.Acked.{is_acked, is_told}
use Rattle.flight.specs.Lost.{is_lost, least_lost, number_left, drop_of as lost_of}
use Rattle.flight.specs.View.{Flight, Sent as Entry, view, Fits}
use Rattle.flight.specs.declared.SentPacket.{SentPacket}
use Rattle.flight.specs.declared.lost.Dropped.{Dropped}
use Rattle.flight.proofs.Given.{drop_means, facts}
use Rattle.flight.proofs.Found.{least_found, fits_at}
use Rattle.flight.proofs.Viewed.{word_at}
use Rattle.flight.proofs.Words.{is_number, numbers_length}
use Rattle.flight.proofs.Stays.{place-within, sound_fits}
use Rattle.acks.specs.State.{State as Acks, table_of, slot_of, unacked}
use Rattle.acknowledgment_laws.specs.Runs.{Typed}
use Rattle.acknowledgment_laws.proofs.Unbroken.{Good, flight_of}

cond_some : (b : Bool) (x : Option Entry) (e : Entry) → cond b None x ≡ Some e → x ≡ Some e
cond_some true x e h = absurd (let z : ◌≡◌ {A = ℕ} 0 1 = cc in omega arith)
cond_some false x e h = h

module _ (z : Sizes) (s : Acks) (range : in_range z ≡ true) (g : Good z s) where
  abbrev N : ℕ
  N = z.packets_in_flight

  abbrev room : ℕ
  room = slot_of z

  abbrev fl : Flight
  fl = flight_of z s

  abbrev local : ℕ
  local = s.counters.sequence_number.0

  table_length : length (table_of z s.number) ≡ N
  table_length = length-take-le N s.number g.lengths.numbers

  -- a packet has come
  heard_table : (acked field : ℕ) → table_of z (unacked z s.number acked field) ≡ map (emptied (is_told acked field)) (table_of z s.number)
  heard_table acked field =
      take_at (map (emptied (is_told acked field)) (table_of z s.number)) (drop N s.number) N
      (length-map (table_of z s.number) (emptied (is_told acked field)) ∙ table_length)

  pub heard_keeps : (acked field m : ℕ) (e : Entry) → m < 65536
      → view (slot_of z) (record { number = table_of z (unacked z s.number acked field); records = s.records; bytes = s.bytes }) m ≡ Some e
      → view (slot_of z) (flight_of z s) m ≡ Some e
  heard_keeps acked field m e h q =
      cond_some (is_acked acked field m) (view room fl m) e
      (sym (facts.acked_view room fl acked field m h)
      ∙ ap (λ (t : List ℕ). view room (record { number = t; records = s.records; bytes = s.bytes }) m) (sym (heard_table acked field))
      ∙ q)

  -- a packet is sent
  module _ (sent : SentPacket) (payload : List ℕ) (t : Typed sent) (roomy : full s.counters.sequence_number.0 (numbers_in (table_of z s.number)) ≡ false)
      (few : length payload ≤ z.max_fragments * z.fragment_size) where
    fits : Fits (slot_of z) sent payload
    fits =
        let means = in_range_means z range in
        let m = mul-le-mul_right {m = z.max_fragments} {n = 16} z.fragment_size means.m.1 in
        record {
          ordering_byte = t.ordering_byte;
          stream_byte = t.stream_byte;
          item_word = t.item_word;
          slot = omega (arith, few, m);
          word = omega (arith, few, m, means.f);
        }

    abbrev at : ℕ
    at = place_of local (numbers_in (table_of z s.number))

    pub sent-view : (m : ℕ) → m < 65536
        → view (slot_of z) (record { number = table_of z (set s.number (place_of s.counters.sequence_number.0 (numbers_in (table_of z s.number))) (word_of s.counters.sequence_number.0 (length payload))); records = set s.records (place_of s.counters.sequence_number.0 (numbers_in (table_of z s.number))) (packed sent); bytes = paste s.bytes (place_of s.counters.sequence_number.0 (numbers_in (table_of z s.number)) * slot_of z) payload (length payload) }) m
        ≡ cond (eqb m s.counters.sequence_number.0) (Some (record { packet = sent; payload = payload })) (view (slot_of z) (flight_of z s) m)
    sent-view m h =
        let within = place-within room fl g.flying local sent payload g.next fits roomy in
        ap (λ (x : List ℕ). view room (record { number = x; records = set s.records at (packed sent); bytes = paste s.bytes (at * room) payload (length payload) }) m)
        (take-set-lt N s.number at (word_of local (length payload)) (let y = table_length in omega arith))
        ∙ facts.stored_view room fl local sent payload g.flying g.next fits roomy m h

  -- one is given up
  module _ (d : Dropped) (remote : ℕ) (e : lost_of remote (table_of z s.number) s.records ≡ Some d) where
    pub lost-word : d.number.0 < 65536
    unfolding is_lost
    lost-word = ltb-true d.number.0 65536 (each (ltb d.number.0 65536) _ (facts.lost fl remote d e)).0

    left-table : table_of z (number_left (Some d) (table_of z s.number) ++ drop N s.number) ≡ number_left (Some d) (table_of z s.number)
    left-table =
        take_at (number_left (Some d) (table_of z s.number)) (drop N s.number) N
        (length-set (table_of z s.number) (first_place d.number.0 (numbers_in (table_of z s.number))) no_number ∙ table_length)

    pub dropped_keeps : (m : ℕ) (x : Entry) → m < 65536
        → view (slot_of z) (record { number = table_of z (number_left (Some d) (table_of z s.number) ++ drop z.packets_in_flight s.number); records = s.records; bytes = s.bytes }) m ≡ Some x
        → view (slot_of z) (flight_of z s) m ≡ Some x
    dropped_keeps m x h q =
        cond_some (eqb m d.number.0) (view room fl m) x
        (sym (facts.dropped_view room fl remote d g.flying e m h)
        ∙ ap (λ (t : List ℕ). view room (record { number = t; records = s.records; bytes = s.bytes }) m) (sym left-table)
        ∙ q)

    pub given : view (slot_of z) (flight_of z s) d.number.0
        ≡ Some (record { packet = d.sent; payload = bytes_at (slot_of z) s.bytes (first_place d.number.0 (numbers_in (table_of z s.number))) d.count })
    given = facts.given_back room fl remote d e

    -- the payload that is given back has the length that is told
    pub given-size : length (bytes_at (slot_of z) s.bytes (first_place d.number.0 (numbers_in (table_of z s.number))) d.count) ≡ d.count
    given-size =
        let table = table_of z s.number in
        let least = least_lost remote (numbers_in table) in
        let place = first_place least (numbers_in table) in
        let m = drop_means remote table s.records d e in
        let same : d.number.0 ≡ least_lost remote (numbers_in (table_of z s.number)) = sym (ap (λ (x : Dropped). x.number.0) m.1) in
        let within : first_place (least_lost remote (numbers_in (table_of z s.number))) (numbers_in (table_of z s.number)) < length (table_of z s.number) =
        rw (sym (numbers_length table)) (least_found remote (numbers_in table) m.0) in
        let count-is : d.count ≡ length_of (get_or (table_of z s.number) (first_place (least_lost remote (numbers_in (table_of z s.number))) (numbers_in (table_of z s.number))) 0) = sym (ap (λ (x : Dropped). x.count) m.1) in
        let in-flight = is_number (get_or table place 0) (rw (word_at least table within) m.0) in
        let small = fits_at room table place (sound_fits room table g.flying.not_13) within in-flight in
        let ends = slot_end place (length table) (slot_of z) within in
        rw same (part_length s.bytes (place * slot_of z) d.count (let y = g.flying.slots in omega arith))
