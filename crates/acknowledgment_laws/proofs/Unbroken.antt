-- From a fresh end, whatever is called: what is lent stays long enough, every received number stands in its own slot, and the
-- packets in flight stay sound. Assumes nothing.
use mathlib.Core.Path.{◌≡◌, refl, ◌∙◌}
use mathlib.Core.Bool.{true, false}
use mathlib.Core.List.{List, [], ◌∷◌, map, ◌++◌}
use Prim.Native.Nat.{ℕ, ◌+◌, ◌*◌, ◌≤◌, ◌<◌}
use native.Mathlib.Nat.{mod-lt, mul-le-mul_right}
use native.Mathlib.Omega.{arith}
use lib.ListN.{length, get_or, set, take, drop, length-append, length-map, length-set, length-replicate, get_or-replicate}
use lib.Seq.{length-take-le, take_at, take-set-lt, get_or-take, length-paste, paste}
use lib.Dec.{ltb}
use borrow.Author.Tests.{le-leb, ltb-false}
use Rattle.std.specs.Prelude.{Result, Ok, Err, Option, Some, None}
use Rattle.laws.proofs.Cases.{case}
use Rattle.keys.specs.Keys.{first_place}
use Rattle.keys.proofs.Twice.{all_apart}
use Rattle.terms.specs.Sizes.{in_range}
use Rattle.terms.specs.declared.Sizes.{Sizes}
use Rattle.terms.proofs.Ranges.{in_range_means}
use Rattle.sequence_buffer.specs.Buffer.{none as no_number, fresh, emptied, inserted_slots}
use Rattle.sequence_buffer.proofs.Held.{length_inserted}
use Rattle.sequence_buffer.proofs.Home.{Home, home_apart, home_inserted}
use Rattle.received.specs.Record.{slot_count, slots_of, recorded}
use Rattle.flight.specs.Entry.{word_of, numbers_in, packed}
use Rattle.flight.specs.Places.{full}
use Rattle.flight.specs.Acked.{is_told}
use Rattle.flight.specs.Lost.{number_left}
use Rattle.flight.specs.View.{Flight, Sound, Fits}
use Rattle.flight.specs.declared.SentPacket.{SentPacket}
use Rattle.flight.specs.declared.lost.Dropped.{Dropped}
use Rattle.flight.proofs.Words.{numbers_length, none_here}
use Rattle.flight.proofs.Stays.{sound_of, fits_all, stays_acked, stays_dropped, stays-stored, place-within, slot-within}
use Rattle.acks.specs.State.{State, lending, table_of, slot_of, heard, unacked, sent_one}
use Rattle.acks.specs.Gate.{lent, flight_lent, sound, too_long}
use Rattle.acknowledgment.specs.Calls.{is_lent, is_sound, incoming_of, outgoing_of, at, dropped_of}
use Rattle.acknowledgment_laws.specs.Runs.{Call, comes, goes, drops, called, after, Typed, AllTyped, with_comes, with_goes, with_drops, fresh_end, NeverBroken}
use Rattle.acks.proofs.Gates.{Lent, lent_means}
use Rattle.terms.specs.declared.Refusal.{Refusal}

abbrev pub flight_of : Sizes → State → Flight
flight_of z s = record { number = table_of z s.number; records = s.records; bytes = s.bytes }

pub record Good (z : Sizes) (s : State) : Type 0 where
  pub lengths : Lent z s.received s.number s.records s.bytes
  pub home : Home slot_count (slots_of s.received)
  pub flying : Sound (slot_of z) (flight_of z s)
  pub next : s.counters.sequence_number.0 < 65536

module _ (z : Sizes) (s : State) (g : Good z s) where
  pub good_lent : is_lent z s ≡ true
  unfolding lent flight_lent
  good_lent =
      let l = g.lengths in
      rw (le-leb slot_count (length s.received) l.slots, le-leb z.packets_in_flight (length s.number) l.numbers, le-leb z.packets_in_flight (length s.records) l.recorded, le-leb (z.packets_in_flight * slot_of z) (length s.bytes) l.room)

  pub good_sound : is_sound z s ≡ true
  unfolding sound
  good_sound = rw (home_apart slot_count (slots_of s.received) g.home) g.flying.not_13

  whole : length (table_of z s.number) ≡ z.packets_in_flight
  whole = length-take-le z.packets_in_flight s.number g.lengths.numbers

-- a table with another front
fronted : (n : ℕ) (front rest : List ℕ) → length front ≡ n → (take n (front ++ rest) ≡ front) × (n ≤ length (front ++ rest))
fronted n front rest e = (take_at front rest n e, omega (arith, length-append front rest))

module _ (z : Sizes) (s : State) (r : in_range z ≡ true) (g : Good z s) where
  abbrev n : ℕ
  n = z.packets_in_flight

  module _ (number acked field : ℕ) where
    abbrev pub come : State
    come = lending (heard s.counters s.received number acked) (recorded s.counters.received.0 s.received number) (unacked z s.number acked field) s.records s.bytes

    comes-is : called z s (comes number acked field) ≡ come
    unfolding called incoming_of
    comes-is = rw (r, good_lent z s g, good_sound z s g)

    pub good-come : Good z come
    good-come =
        let slots = slots_of s.received in
        let l = g.lengths in
        let long : length (inserted_slots s.counters.received.0 slots number) ≡ slot_count =
        length_inserted s.counters.received.0 slots number ∙ length-take-le slot_count s.received l.slots in
        let p = fronted slot_count (inserted_slots s.counters.received.0 slots number) (drop slot_count s.received) long in
        let q = fronted n (map (emptied (is_told acked field)) (table_of z s.number)) (drop n s.number) (length-map (table_of z s.number) (emptied (is_told acked field)) ∙ whole z s g) in
        record {
          lengths = record { slots = p.1; numbers = q.1; recorded = l.recorded; room = l.room };
          home = rw p.0 (home_inserted slot_count s.counters.received.0 slots number g.home);
          flying = rw q.0 (stays_acked (slot_of z) (flight_of z s) g.flying acked field);
          next = g.next;
        }

  module _ (sent : SentPacket) (payload : List ℕ) (t : Typed sent) where
    abbrev k : ℕ
    k = at z s

    abbrev word : ℕ
    word = word_of s.counters.sequence_number.0 (length payload)

    abbrev pub go : State
    go = lending (sent_one s.counters) s.received (set s.number k word) (set s.records k (packed sent)) (paste s.bytes (k * slot_of z) payload (length payload))

    pub good-go : full s.counters.sequence_number.0 (numbers_in (table_of z s.number)) ≡ false → length payload ≤ z.max_fragments * z.fragment_size → Good z go
    good-go roomy few =
        let l = g.lengths in
        let range = in_range_means z r in
        let m = mul-le-mul_right {m = z.max_fragments} {n = 16} z.fragment_size range.m.1 in
        let local = s.counters.sequence_number.0 in
        let small : Fits (slot_of z) sent payload =
        record { ordering_byte = t.ordering_byte; stream_byte = t.stream_byte; item_word = t.item_word; slot = omega (arith, few, m); word = omega (arith, few, m, range.f) } in
        let within = place-within (slot_of z) (flight_of z s) g.flying local sent payload g.next small roomy in
        let slot = slot-within (slot_of z) (flight_of z s) g.flying local sent payload g.next small roomy in
        record {
          lengths = record {
            slots = l.slots;
            numbers = rw (length-set s.number k word) l.numbers;
            recorded = rw (length-set s.records k (packed sent)) l.recorded;
            room = rw (length-paste s.bytes (k * slot_of z) payload (length payload) (omega (arith, slot, small.slot)) (omega arith)) l.room;
          };
          home = g.home;
          flying = rw (take-set-lt n s.number k word (omega (arith, within, whole z s g))) (stays-stored (slot_of z) (flight_of z s) g.flying local sent payload g.next small roomy);
          next = mod-lt (local + 1) {m = 65536} (omega arith);
        }

    good-goes : Good z (called z s (goes sent payload))
    unfolding called outgoing_of
    good-goes =
        case (too_long z sent (length payload))
        (λ e. rw (r, good_lent z s g, good_sound z s g, e) g)
        (λ e.
        case (ltb (z.max_fragments * z.fragment_size) (length payload))
        (λ q. rw (r, good_lent z s g, good_sound z s g, e, q) g)
        (λ q.
        case (full s.counters.sequence_number.0 (numbers_in (table_of z s.number)))
        (λ f. rw (r, good_lent z s g, good_sound z s g, e, q, f) g)
        (λ f. rw (r, good_lent z s g, good_sound z s g, e, q, f) (good-go f (ltb-false (z.max_fragments * z.fragment_size) (length payload) q)))))

  pub good_drop : (d : Dropped) → Good z (lending s.counters s.received (number_left (Some d) (table_of z s.number) ++ drop n s.number) s.records s.bytes)
  good_drop d =
      let l = g.lengths in
      let q = fronted n (number_left (Some d) (table_of z s.number)) (drop n s.number) (length-set (table_of z s.number) (first_place d.number.0 (numbers_in (table_of z s.number))) no_number ∙ whole z s g) in
      record {
        lengths = record { slots = l.slots; numbers = q.1; recorded = l.recorded; room = l.room };
        home = g.home;
        flying = rw q.0 (stays_dropped (slot_of z) (flight_of z s) g.flying d);
        next = g.next;
      }

  good_drops : (output : List ℕ) → Good z (called z s (drops output))
  unfolding called
  good_drops output = by_answer (dropped_of z s output) refl
    where
      by_answer : (a : Result (Option Dropped) Refusal) → dropped_of z s output ≡ a → Good z (called z s (drops output))
      by_answer (Ok None) e = rw e g
      by_answer (Ok (Some d)) e = rw e (good_drop d)
      by_answer (Err why) e = rw e g

good_after : (z : Sizes) (s : State) (calls : List Call) → in_range z ≡ true → AllTyped calls → Good z s → Good z (after z s calls)
unfolding after
good_after z s [] r t g = g
good_after z s (comes number acked field ∷ calls) r (with_comes t) g =
    good_after z (called z s (comes number acked field)) calls r t (rw (comes-is z s r g number acked field) (good-come z s r g number acked field))
good_after z s (goes sent payload ∷ calls) r (with_goes d t) g =
    good_after z (called z s (goes sent payload)) calls r t (good-goes z s r g sent payload d)
good_after z s (drops output ∷ calls) r (with_drops t) g =
    good_after z (called z s (drops output)) calls r t (good_drops z s r g output)

-- a fresh column has no number
empty : (n b i : ℕ) → n ≤ b → i < n → get_or (take n (fresh b)) i 0 ≡ no_number
empty n b i h l = get_or-take n (fresh b) i 0 l ∙ get_or-replicate b i no_number 0 (omega arith)

module _ (z : Sizes) (a b : ℕ) (records bytes : List ℕ) (r : in_range z ≡ true) (e : is_lent z (fresh_end a b records bytes) ≡ true) where
  lens : Lent z (fresh a) (fresh b) records bytes
  lens = lent_means z (fresh a) (fresh b) records bytes e

  none_sent : (i : ℕ) → i < z.packets_in_flight → get_or (table_of z (fresh b)) i 0 ≡ no_number
  none_sent i h = empty z.packets_in_flight b i (omega (arith, lens.numbers, length-replicate b no_number)) h

  table_long : length (table_of z (fresh b)) ≡ z.packets_in_flight
  table_long = length-take-le z.packets_in_flight (fresh b) lens.numbers

  pub good_fresh : Good z (fresh_end a b records bytes)
  good_fresh =
      let l = lens in
      let long = table_long in
      let n = (in_range_means z r).n in
      record {
        lengths = l;
        home = record {
          long = length-take-le slot_count (fresh a) l.slots;
          own = λ i h key. absurd (omega (arith, key, empty slot_count a i (omega (arith, l.slots, length-replicate a no_number)) h));
        };
        flying = record {
          some_place = omega (arith, long, n);
          recorded = omega (arith, long, l.recorded);
          slots = rw long l.room;
          not_13 = sound_of (slot_of z) (table_of z (fresh b))
              (fits_all (slot_of z) (table_of z (fresh b)) (λ i h key. absurd (omega (arith, key, none_sent i (omega (arith, h, long))))))
              (all_apart (numbers_in (table_of z (fresh b)))
              (λ i j before within key same.
              let wide = numbers_length (table_of z (fresh b)) in
              let here : i < length (table_of z (fresh b)) = omega arith in
              absurd (omega (arith, key, none_here (table_of z (fresh b)) i here (omega (arith, none_sent i (omega (arith, here, long))))))));
        };
        next = omega arith;
      }

pub unbroken : NeverBroken
unbroken = record {
  lent_stays = λ z a b records bytes calls r e t.
      good_lent z (after z (fresh_end a b records bytes) calls) (good_after z (fresh_end a b records bytes) calls r t (good_fresh z a b records bytes r e));
  sound_stays = λ z a b records bytes calls r e t.
      good_sound z (after z (fresh_end a b records bytes) calls) (good_after z (fresh_end a b records bytes) calls r t (good_fresh z a b records bytes r e));
}
