-- What an item that is sent, or sent again, keeps of an end. Assumes nothing.
use Prim.Native.Nat.{ℕ, ◌+◌, ◌*◌, ◌≤◌, ◌<◌}
use mathlib.Core.Path.{◌≡◌, refl, sym}
use mathlib.Core.Bool.{true, false}
use mathlib.Core.List.{List}
use native.Mathlib.Nat.{mod-lt}
use native.Mathlib.Omega.{arith}
use lib.Dec.{ltb, eqb}
use lib.ListN.{length, get_or}
use borrow.Author.Tests.{ltb-false}
use Rattle.laws.proofs.Cases.{case}
use Rattle.serial.specs.declared.ItemId.{ItemId}
use Rattle.terms.specs.Sizes.{in_range}
use Rattle.terms.specs.declared.Sizes.{Sizes}
use Rattle.terms.proofs.Ranges.{in_range_means}
use Rattle.acks.specs.State.{table_of}
use Rattle.acknowledgment_laws.proofs.Unbroken.{Good, good-go}
use Rattle.splitter.specs.Split.{needed}
use Rattle.packet_table.specs.Table.{ordering_number}
use Rattle.packet_table.specs.declared.DeliveryGuarantee.{DeliveryGuarantee}
use Rattle.packet_table.specs.declared.DeliveryGuarantee.TheVariants.{Unreliable, Reliable}
use Rattle.packet_table.specs.declared.OrderingGuarantee.{OrderingGuarantee}
use Rattle.packet_table.specs.declared.OrderingGuarantee.TheVariants.{None, Sequenced, Ordered}
use Rattle.ordering_plan.specs.State.{fresh as fresh_ordered}
use Rattle.sequencing.specs.Sequence.{fresh as fresh_sequenced}
use Rattle.arranging_plan.specs.Ids.{place_of}
use Rattle.arranging_plan.specs.Ordered.{States, lending_all, stream_at, state_at, stored_at}
use Rattle.arranging.specs.Sequenced.{stream_at as sequenced_at}
use Rattle.arranging.specs.declared.sequenced.SequencingStreams.{SequencingStreams}
use Rattle.arranging_plan.proofs.Parts.{block_end, part_length}
use Rattle.arranging.proofs.Kept.{put_same}
use Rattle.arranging_laws.specs.Sound.{Whole}
use Rattle.arranging_laws.proofs.Stored.{Fitting, stored_whole, state_good}
use Rattle.arranging_laws.proofs.Theorems.{stays_sound}
use Rattle.ends.specs.State.{State}
use Rattle.sending.specs.Plan.{plan_of, is_listed, is_long, place_by, is_full, flight_place}
use Rattle.sending.specs.Send.{sequenced_as, ordered_as, identified_by, record_of, kept_by, keeping, transmitted_of}
use Rattle.datagrams.specs.declared.Item.{Item}
use Rattle.datagrams.specs.declared.Identifier.{Identifier}
use Rattle.datagrams.specs.declared.Identifier.TheVariants.{Next, Again}
use Rattle.link_laws.proofs.Lists.{set_each, few_pieces}
use Rattle.link_laws.proofs.Kept.{OrderedItem, KeptOrdered, SequencedItem, KeptSequenced, Kept}
use Rattle.link_laws.proofs.Receive.{ordered_item, sequenced_item, one_of_four, ordered_ids}

-- an identifier that an item keeps is a number of 16 bits
abbrev pub Narrow : Identifier → Type 0
Narrow t = (item : ItemId) → t ≡ Again item → item.0 < 65536

-- on an ordered stream
module _ (f : ℕ) (s : States) (k : KeptOrdered f s) (id : ℕ) where
  abbrev J : ℕ
  J = place_of s.counters.known id

  ordered_named : (t : Identifier) → Narrow t → (ordered_as t s.counters J id).item.0 < 65536
  ordered_named Next narrow = ordered_item f s k J
  ordered_named (Again item) narrow = narrow item refl

  -- a resend stores its stream as it was, and makes it where it was not made
  module _ (h : J < 4) where
    pub as_it_was : Fitting f (state_at f s J)
    as_it_was =
        let w = k.whole in
        record {
          good = state_good f s w J h;
          indices = part_length s.index (J * 64) 64 (let q = w.indices in omega arith);
          lengths = part_length s.lengths (J * 64) 64 (let q = w.lengths in omega arith);
          bytes = part_length s.bytes (J * (64 * f)) (64 * f) (let q = w.bytes in omega (arith, block_end J (64 * f) h));
        }

    pub again-is : (item : ItemId) → stored_at f s J id (state_at f s J) ≡ lending_all (ordered_as (Again item) s.counters J id).streams s.index s.lengths s.bytes
    again-is item = rw (put_same s.index (J * 64) 64, put_same s.lengths (J * 64) 64, put_same s.bytes (J * (64 * f)) (64 * f))

    ordered-whole : (t : Identifier) → Whole f (lending_all (ordered_as t s.counters J id).streams s.index s.lengths s.bytes)
    ordered-whole Next = stays_sound.by_send f s id k.whole h
    ordered-whole (Again item) = rw (sym (again-is item)) (stored_whole f s k.whole id h (state_at f s J) as_it_was)

    ordered-items : (t : Identifier) (m : ℕ) → OrderedItem (get_or (ordered_as t s.counters J id).streams.streams m fresh_ordered)
    ordered-items Next = set_each OrderedItem fresh_ordered s.counters.streams J _ (mod-lt ((stream_at s.counters J).next_item.0 + 1) {m = 65536} (omega arith)) k.items
    ordered-items (Again item) = set_each OrderedItem fresh_ordered s.counters.streams J (stream_at s.counters J) (ordered_item f s k J) k.items

    ordered-kept : (t : Identifier) → KeptOrdered f (lending_all (ordered_as t s.counters J id).streams s.index s.lengths s.bytes)
    ordered-kept t = record { whole = ordered-whole t; items = ordered-items t }

-- on a sequenced one
module _ (s : SequencingStreams) (k : KeptSequenced s) (id : ℕ) where
  abbrev I : ℕ
  I = place_of s.known id

  sequenced_named : (t : Identifier) → Narrow t → (sequenced_as t s I id).item.0 < 65536
  sequenced_named Next narrow = sequenced_item s k I
  sequenced_named (Again item) narrow = narrow item refl

  sequenced_kept : I < 4 → (t : Identifier) → KeptSequenced (sequenced_as t s I id).streams
  sequenced_kept h Next =
      record {
        ids = stays_sound.ids_by_send s id k.ids h;
        items = set_each SequencedItem fresh_sequenced s.streams I _ (mod-lt ((sequenced_at s I).next_item.0 + 1) {m = 65536} (omega arith)) k.items;
      }
  sequenced_kept h (Again item) =
      record {
        ids = stays_sound.ids_by_send s id k.ids h;
        items = set_each SequencedItem fresh_sequenced s.streams I (sequenced_at s I) (sequenced_item s k I) k.items;
      }

ordering_byte : (o : OrderingGuarantee) → ordering_number o < 256
ordering_byte None = omega arith
ordering_byte Sequenced = omega arith
ordering_byte Ordered = omega arith

module _ (z : Sizes) (s : State) (i : Item) (payload output : List ℕ) (r : in_range z ≡ true) (k : Kept z s) (byte : i.stream < 256) (narrow : Narrow i.identifier) where
  -- what an item's identifier makes of the streams
  record Named (o : OrderingGuarantee) (j : ℕ) : Type 0 where
    word : (identified_by o i j s.ordered.counters s.sequenced).item.0 < 65536
    ordered : KeptOrdered z.fragment_size (lending_all (identified_by o i j s.ordered.counters s.sequenced).ordering s.ordered.index s.ordered.lengths s.ordered.bytes)
    sequenced : KeptSequenced (identified_by o i j s.ordered.counters s.sequenced).sequencing

  named : (o : OrderingGuarantee) → eqb (place_by o i.stream s.ordered.counters s.sequenced) 4 ≡ false → Named o (place_by o i.stream s.ordered.counters s.sequenced)
  named None e = record { word = omega arith; ordered = k.ordered; sequenced = k.sequenced }
  named Sequenced e =
      record {
        word = sequenced_named s.sequenced k.sequenced i.stream i.identifier narrow;
        ordered = k.ordered;
        sequenced = sequenced_kept s.sequenced k.sequenced i.stream (one_of_four s.sequenced.known k.sequenced.ids i.stream e) i.identifier;
      }
  named Ordered e =
      let four = one_of_four s.ordered.counters.known (ordered_ids z.fragment_size s.ordered k.ordered.whole) i.stream e in
      record {
        word = ordered_named z.fragment_size s.ordered k.ordered i.stream i.identifier narrow;
        ordered = ordered-kept z.fragment_size s.ordered k.ordered i.stream four i.identifier;
        sequenced = k.sequenced;
      }

  abbrev N : ℕ
  N = s.acks.counters.sequence_number.0

  -- what is kept in flight
  flying : (d : DeliveryGuarantee) (id : ItemId) → id.0 < 65536 → length payload ≤ z.max_fragments * z.fragment_size → is_full d N (table_of z s.acks.number) ≡ false
      → Good z (keeping (kept_by d s.acks.counters z.fragment_size (flight_place d N (table_of z s.acks.number)) s.acks.number s.acks.records s.acks.bytes (record_of i id) payload) s.acks)
  flying Unreliable id word few free = k.acks
  flying Reliable id word few free =
      good-go z s.acks r k.acks (record_of i id) payload (record { ordering_byte = ordering_byte i.ordering; stream_byte = byte; item_word = word }) free few

  pub kept_transmitted : Kept z (transmitted_of z s i payload output).end
  unfolding transmitted_of plan_of
  kept_transmitted =
      case (is_listed i)
      (λ a.
      case (is_long z.fragment_size i (length payload)) (λ b. rw (a, b) k)
      (λ b.
      case (ltb z.max_fragments (needed (length payload) z.fragment_size)) (λ c. rw (a, b, c) k)
      (λ c.
      case (eqb (place_by i.ordering i.stream s.ordered.counters s.sequenced) 4) (λ d. rw (a, b, c, d) k)
      (λ d.
      case (is_full i.delivery N (table_of z s.acks.number)) (λ e. rw (a, b, c, d, e) k)
      (λ e.
      let few = few_pieces (length payload) z.fragment_size z.max_fragments (in_range_means z r).f.0 (ltb-false z.max_fragments (needed (length payload) z.fragment_size) c) in
      let n = named i.ordering d in
      rw (a, b, c, d, e)
      (record { acks = flying i.delivery _ n.word few e; parts = k.parts; ordered = n.ordered; sequenced = n.sequenced }))))))
      (λ a. rw a k)
