-- What a datagram that comes keeps of an end. Assumes nothing.
use Prim.Native.Nat.{ℕ, ◌+◌, ◌-◌, ◌*◌, ◌≤◌, ◌<◌}
use mathlib.Core.Path.{◌≡◌, refl, sym}
use mathlib.Core.Bool.{true, false}
use mathlib.Core.List.{List}
use native.Mathlib.Nat.{le_trans}
use native.Mathlib.Omega.{arith}
use lib.Dec.{ltb, eqb}
use lib.ListN.{length, take, drop, length-set, length-drop}
use borrow.Author.Tests.{eqb-false, ltb-false, le-ltb}
use Rattle.std.specs.Prelude.{Result, Ok, Err, Option, Some, None}
use Rattle.laws.proofs.Cases.{case}
use Rattle.terms.specs.Sizes.{in_range}
use Rattle.terms.specs.declared.Sizes.{Sizes}
use Rattle.acks.specs.State.{State as Acks}
use Rattle.acknowledgment_laws.proofs.Unbroken.{Good, good-come}
use Rattle.packet_table.specs.Numbers.{Bytes}
use Rattle.packet.specs.Read.{read_of}
use Rattle.packet_table.specs.declared.Headers.{Headers}
use Rattle.packet_table.specs.declared.PacketType.{PacketType}
use Rattle.packet_table.specs.declared.PacketType.TheVariants.{Packet, Fragment, Heartbeat}
use Rattle.packet_table.specs.declared.DeliveryGuarantee.{DeliveryGuarantee}
use Rattle.packet_table.specs.declared.DeliveryGuarantee.TheVariants.{Unreliable, Reliable}
use Rattle.packet_table.specs.declared.OrderingGuarantee.{OrderingGuarantee}
use Rattle.packet_table.specs.declared.OrderingGuarantee.TheVariants.{None as NoOrder, Sequenced as InSequence, Ordered as InOrder}
use Rattle.packet_laws.proofs.Theorems.{accepts}
use Rattle.reassembly_plan.specs.Plan.{slot_of}
use Rattle.reassembly.specs.Effects.{State as Parts, performed, header_after, bytes_after, room_of}
use Rattle.reassembly_plan.specs.Gate.{gate_of as parts_gate}
use Rattle.reassembly.specs.Call.{decided, handled, stated, restored}
use Rattle.reassembly_plan.specs.declared.plan.Fragment.{Fragment as FragmentOf}
use Rattle.reassembly_plan.specs.declared.plan.Plan.{Plan as PartPlan}
use Rattle.reassembly_plan.specs.declared.plan.Plan.TheVariants.{Make, Join}
use Rattle.fragmenter.proofs.Keeping.{Keeps, kept_call}
use Rattle.ordering_plan.specs.State.{fresh as fresh_ordered}
use Rattle.ordering_plan.specs.Arrange.{plan_of as item_plan, arranged}
use Rattle.ordering_plan.specs.declared.Arranged.{Arranged}
use Rattle.ordering_plan.specs.declared.Arranged.TheVariants.{Out, Held, Old}
use Rattle.sequencing.specs.Sequence.{fresh as fresh_sequenced, sequence_of, topped}
use Rattle.sequencing.specs.declared.Sequenced.{Sequenced as Sequence}
use Rattle.sequencing.specs.declared.Sequenced.TheVariants.{Out as Newest, Dropped}
use Rattle.sequencing.specs.declared.SequencingStream.{SequencingStream}
use Rattle.arranging_plan.specs.Ids.{place_of}
use Rattle.arranging_plan.specs.Ordered.{States, part, stream_at, state_at, stored_at, plan_on}
use Rattle.arranging.specs.Sequenced.{arranged_at, stream_at as sequenced_at}
use Rattle.arranging_plan.specs.declared.ids.StreamIds.{StreamIds}
use Rattle.arranging.specs.declared.sequenced.SequencingStreams.{SequencingStreams}
use Rattle.arranging_plan.proofs.Parts.{place_lt}
use Rattle.arranging_plan.proofs.Sound.{all_ids, ids_four}
use Rattle.arranging_laws.specs.Sound.{Whole, WholeIds}
use Rattle.arranging_laws.proofs.Theorems.{stays_sound}
use Rattle.ends.specs.State.{State}
use Rattle.receiving_plan.specs.Plan.{sequenced_plan, ordered_as, plan_by, plan_of}
use Rattle.receiving_plan.specs.Heard.{acks_by}
use Rattle.receiving_fragments.specs.Fragments.{part_of, part_plan, parts_after, part_answer, acks_at_whole}
use Rattle.receiving.specs.Receive.{hearing, packet_as, packet_of, by_type, read_as, received_of}
use Rattle.link_laws.proofs.Lists.{set_each, paste_long}
use Rattle.link_laws.proofs.Kept.{KeptParts, OrderedItem, KeptOrdered, SequencedItem, KeptSequenced, Kept, table_sound, parts_long}
use Rattle.terms.specs.declared.Refusal.{Refusal}
use Rattle.packet.specs.declared.Found.{Found}
use Rattle.reassembly.specs.declared.effects.Message.{Message}

-- streams: each place has a next identifier of 16 bits, made or not
pub ordered_item : (f : ℕ) (s : States) → KeptOrdered f s → (j : ℕ) → OrderedItem (stream_at s.counters j)
unfolding stream_at
ordered_item f s k j = case (ltb j s.counters.known.made) (λ e. rw e (k.items j)) (λ e. rw e (omega arith))

pub sequenced_item : (s : SequencingStreams) → KeptSequenced s → (j : ℕ) → SequencedItem (sequenced_at s j)
unfolding sequenced_at
sequenced_item s k j = case (ltb j s.known.made) (λ e. rw e (k.items j)) (λ e. rw e (omega arith))

-- a place that is not the fifth is one of the four
pub one_of_four : (n : StreamIds) → WholeIds n → (id : ℕ) → eqb (place_of n id) 4 ≡ false → place_of n id < 4
one_of_four n w id e =
    let q = ids_four n w.state in
    let l = w.four_ids in
    place_lt n id q (omega arith) (eqb-false (place_of n id) 4 e)

pub ordered_ids : (f : ℕ) (s : States) → Whole f s → WholeIds s.counters.known
ordered_ids f s w = record { four_ids = w.four_ids; state = all_ids f s.counters s.index s.lengths w.state }

-- an item on an ordered stream
module _ (f : ℕ) (s : States) (k : KeptOrdered f s) (id : ℕ) (h : place_of s.counters.known id < 4) where
  abbrev J : ℕ
  J = place_of s.counters.known id

  arranged_item : (a : Result Arranged Refusal) (i : ℕ) (payload : List ℕ) → OrderedItem (arranged a f i payload (state_at f s J)).stream
  arranged_item (Ok Out) i payload = ordered_item f s k J
  arranged_item (Ok (Held at)) i payload = ordered_item f s k J
  arranged_item (Ok Old) i payload = ordered_item f s k J
  arranged_item (Err why) i payload = ordered_item f s k J

  pub kept_arranged : (a : Result Arranged Refusal) (i : ℕ) (payload : List ℕ) → length payload ≤ f
      → item_plan (stream_at s.counters J) (part s.index (J * 64) 64) i ≡ a
      → KeptOrdered f (stored_at f s J id (arranged a f i payload (state_at f s J)))
  kept_arranged a i payload fits e =
      record {
        whole = rw (sym e) (stays_sound.by_arrange f s id i payload k.whole h fits);
        items = set_each OrderedItem fresh_ordered s.counters.streams J (arranged a f i payload (state_at f s J)).stream (arranged_item a i payload) k.items;
      }

-- an item on a sequenced stream
topped_item : (a : Sequence) (t : SequencingStream) (i : ℕ) → SequencedItem t → SequencedItem (topped a t (record { 0 = i }))
topped_item Newest t i h = h
topped_item Dropped t i h = h

pub kept_sequence : (s : SequencingStreams) (k : KeptSequenced s) (id i : ℕ) → place_of s.known id < 4
    → KeptSequenced (arranged_at s (place_of s.known id) id (record { 0 = i })).streams
kept_sequence s k id i h =
    record {
      ids = stays_sound.ids_by_arrange s id (record { 0 = i }) k.ids h;
      items = set_each SequencedItem fresh_sequenced s.streams (place_of s.known id) _
          (topped_item (sequence_of (sequenced_at s (place_of s.known id)) i) (sequenced_at s (place_of s.known id)) i (sequenced_item s k (place_of s.known id)))
          k.items;
    }

-- a packet
module _ (z : Sizes) (h : Headers) (payload : List ℕ) (s : State) (output : List ℕ) (r : in_range z ≡ true) (k : Kept z s) (short : length payload ≤ z.fragment_size) where
  abbrev F : ℕ
  F = z.fragment_size

  heard_good : (d : DeliveryGuarantee) → Good z (hearing (acks_by d z h.acked s.acks.counters s.acks.received s.acks.number) s.acks)
  heard_good Unreliable = k.acks
  heard_good Reliable = good-come z s.acks r k.acks h.acked.number.0 h.acked.acked.0 h.acked.field

  abbrev I : ℕ
  I = h.arranging.stream

  in_order : (a : Result Arranged Refusal) → item_plan (stream_at s.ordered.counters (place_of s.ordered.counters.known I)) (part s.ordered.index (place_of s.ordered.counters.known I * 64) 64) h.arranging.index.0 ≡ a
      → place_of s.ordered.counters.known I < 4
      → Kept z (packet_as (ordered_as a (record { at = place_of s.ordered.counters.known I; plan = a })) z h payload s output).end
  in_order (Ok Out) e free = record { acks = heard_good h.standard.delivery; parts = k.parts; ordered = kept_arranged F s.ordered k.ordered I free (Ok Out) h.arranging.index.0 payload short e; sequenced = k.sequenced }
  in_order (Ok (Held at)) e free = record { acks = heard_good h.standard.delivery; parts = k.parts; ordered = kept_arranged F s.ordered k.ordered I free (Ok (Held at)) h.arranging.index.0 payload short e; sequenced = k.sequenced }
  in_order (Ok Old) e free = record { acks = heard_good h.standard.delivery; parts = k.parts; ordered = kept_arranged F s.ordered k.ordered I free (Ok Old) h.arranging.index.0 payload short e; sequenced = k.sequenced }
  in_order (Err why) e free = k

  by_ordering : (o : OrderingGuarantee) → Kept z (packet_as (plan_by o h.arranging s.ordered.counters s.ordered.index s.sequenced) z h payload s output).end
  unfolding sequenced_plan plan_on
  by_ordering NoOrder = record { acks = heard_good h.standard.delivery; parts = k.parts; ordered = k.ordered; sequenced = k.sequenced }
  by_ordering InSequence =
      case (eqb (place_of s.sequenced.known I) 4) (λ e. rw e k)
      (λ e.
      rw e
      (record {
        acks = heard_good h.standard.delivery;
        parts = k.parts;
        ordered = k.ordered;
        sequenced = kept_sequence s.sequenced k.sequenced I h.arranging.index.0 (one_of_four s.sequenced.known k.sequenced.ids I e);
      }))
  by_ordering InOrder =
      case (eqb (place_of s.ordered.counters.known I) 4) (λ e. rw e k)
      (λ e. rw e (in_order (item_plan (stream_at s.ordered.counters (place_of s.ordered.counters.known I)) (part s.ordered.index (place_of s.ordered.counters.known I * 64) 64) h.arranging.index.0) refl (one_of_four s.ordered.counters.known (ordered_ids F s.ordered k.ordered.whole) I e)))

  pub kept_packet : Kept z (packet_of z h payload s output).end
  unfolding plan_of
  kept_packet = by_ordering h.standard.ordering

-- a fragment
module _ (z : Sizes) (h : Headers) (payload : List ℕ) (p : Parts) (r : in_range z ≡ true) (k : KeptParts z p) (output : List ℕ) (wide : 16 * z.fragment_size + 17 ≤ length output)
    (short : length payload ≤ z.fragment_size) (number : h.fragment.number.0 < 65536) (count : h.fragment.count < 256) where
  decided_is : decided z p output (part_of h) (length payload) ≡ part_plan z p h (length payload)
  unfolding decided parts_gate
  decided_is = rw (r, parts_long z p k output wide, table_sound z p k, le-ltb z.fragment_size (length payload) short)

  joined_table : (plan : Result PartPlan Refusal) → decided z p output (part_of h) (length payload) ≡ plan
      → Keeps z (restored z.reassembly_slots p (performed plan z.fragment_size (part_of h) payload (stated z.reassembly_slots p)))
  unfolding handled
  joined_table plan e =
      rw (sym e)
      (kept_call z p (record { fragment = part_of h; payload = payload; output = output; number_fits = number; count_fits = count }) k.table)

  header_long : (plan : Result PartPlan Refusal) (g : FragmentOf) (at : ℕ) → z.reassembly_slots ≤ length (header_after plan g at p.header)
  unfolding header_after
  header_long (Err why) g at = k.headers
  header_long (Ok Make) g at = k.headers
  header_long (Ok (Join j)) g at = case (eqb g.id 0) (λ e. rw (e, length-set p.header at _) k.headers) (λ e. rw e k.headers)

  bytes_long : (plan : Result PartPlan Refusal) (at : ℕ) → z.reassembly_slots * (16 * z.fragment_size) ≤ length (bytes_after plan at payload p.bytes)
  unfolding bytes_after
  bytes_long (Err why) at = k.room
  bytes_long (Ok Make) at = k.room
  bytes_long (Ok (Join j)) at = le_trans k.room (paste_long p.bytes (at + j.at) payload)

  pub kept_joined : KeptParts z (parts_after z h payload p)
  unfolding performed
  kept_joined =
      record {
        table = joined_table (part_plan z p h (length payload)) decided_is;
        headers = header_long (part_plan z p h (length payload)) (part_of h) (slot_of (take z.reassembly_slots p.slots) (part_of h));
        room = bytes_long (part_plan z p h (length payload)) (room_of z.fragment_size (slot_of (take z.reassembly_slots p.slots) (part_of h)));
      }

heard_whole : (z : Sizes) (a : Acks) → in_range z ≡ true → Good z a → (t : Result (Option Message) Refusal) → Good z (hearing (acks_at_whole t z a.counters a.received a.number) a)
heard_whole z a r g (Ok None) = g
heard_whole z a r g (Ok (Some m)) = good-come z a r g m.header.number.0 m.header.acked.0 m.header.field
heard_whole z a r g (Err why) = g

-- a datagram, once the gate is open
module _ (z : Sizes) (s : State) (d output : List ℕ) (r : in_range z ≡ true) (k : Kept z s) (bytes : Bytes d) (wide : 16 * z.fragment_size + 17 ≤ length output) where
  by_type_lem : (t : PacketType) (h : Headers) (payload : List ℕ) → length payload ≤ z.fragment_size → h.fragment.number.0 < 65536 → h.fragment.count < 256
      → Kept z (by_type t z h payload s output).end
  by_type_lem Packet h payload short number count = kept_packet z h payload s output r k short
  by_type_lem Fragment h payload short number count =
      record {
        acks = heard_whole z s.acks r k.acks (part_answer z h payload s.parts);
        parts = kept_joined z h payload s.parts r k.parts output wide short number count;
        ordered = k.ordered;
        sequenced = k.sequenced;
      }
  by_type_lem Heartbeat h payload short number count = k

  by_read : (t : Result Found Refusal) → read_of z.version d ≡ t → Kept z (read_as t z s d output).end
  by_read (Err why) e = k
  by_read (Ok r) e =
      let fits = (accepts.only z.version d r.headers r.at bytes e).fits in
      case (ltb z.fragment_size (length d - r.at))
      (λ q. rw q k)
      (λ q. rw q (by_type_lem r.headers.standard.packet_type r.headers (drop r.at d) (rw (length-drop r.at d) (ltb-false z.fragment_size (length d - r.at) q)) fits.fragment_number fits.count))

  pub kept_received : Kept z (received_of z s d output).end
  unfolding received_of
  kept_received = by_read (read_of z.version d) refl
