-- What is no item of the stream leaves it: other datagrams, and every other call at the receiver. Assumes nothing.
use Prim.Native.Nat.{ℕ, ◌-◌, ◌*◌, ◌≤◌, ◌<◌}
use mathlib.Core.Path.{◌≡◌, refl, sym, ap}
use mathlib.Core.Logic.{⊎_elim}
use mathlib.Core.List.{List}
use native.Mathlib.Omega.{arith}
use borrow.Author.Tests.{ltb-false}
use lib.Dec.{ltb, eqb}
use lib.ListN.{length, drop, length-drop}
use Rattle.std.specs.Prelude.{Result, Ok, Err, ⊤}
use Rattle.laws.proofs.Cases.{case, lt_or_le}
use Rattle.terms.specs.declared.Sizes.{Sizes}
use Rattle.acks.specs.State.{table_of}
use Rattle.packet.specs.Read.{read_of}
use Rattle.packet_table.specs.declared.Headers.{Headers}
use Rattle.packet_table.specs.declared.PacketType.{PacketType}
use Rattle.packet_table.specs.declared.PacketType.TheVariants.{Packet, Fragment, Heartbeat}
use Rattle.packet_table.specs.declared.OrderingGuarantee.{OrderingGuarantee}
use Rattle.packet_table.specs.declared.OrderingGuarantee.TheVariants.{None, Sequenced as InSequence, Ordered as InOrder}
use Rattle.ordering.specs.Take.{next_of}
use Rattle.ordering_plan.specs.Arrange.{plan_of as item_plan}
use Rattle.ordering_plan.specs.declared.OrderingStream.{OrderingStream}
use Rattle.ordering_plan.specs.declared.Arranged.{Arranged}
use Rattle.ordering_plan.specs.declared.Arranged.TheVariants.{Out as GoesOut, Held as IsHeld, Old as IsOld}
use Rattle.ordering_laws.specs.Held.{held_at}
use Rattle.arranging_plan.specs.Ids.{place_of}
use Rattle.arranging_plan.specs.Ordered.{States, part, stream_at, state_at, plan_on, next_on, taken_on}
use Rattle.arranging.proofs.Kept.{next_away}
use Rattle.arranging_laws.proofs.Ids.{few}
use Rattle.arranging_laws.proofs.Stays.{arranged_fits, taken_fits, taken_is}
use Rattle.ends.specs.State.{State}
use Rattle.ends.specs.Gate.{gate_of}
use Rattle.receiving_plan.specs.Plan.{sequenced_plan, ordered_as, plan_by, plan_of}
use Rattle.receiving.specs.Receive.{packet_as, by_type, read_as, received_of}
use Rattle.sending.specs.Plan.{plan_of as send_plan}
use Rattle.sending.specs.Send.{transmitted_as, transmitted_of}
use Rattle.datagrams.specs.declared.Item.{Item}
use Rattle.sending.specs.declared.plan.Sending.{Sending}
use Rattle.link_incoming.specs.Calls.{receive_of, take_of}
use Rattle.link_laws.proofs.Kept.{Kept}
use Rattle.link_laws.proofs.Receive.{one_of_four}
use Rattle.agreement.proofs.Streams.{seen, Equal, equal_same, other_seen, ids_of}
use Rattle.agreement.proofs.Wire.{Beyond}
use Rattle.agreement.proofs.Allowed.{Allowed, allowed}
use Rattle.agreement.proofs.Numbered.{receives}
use Rattle.terms.specs.declared.Refusal.{Refusal}
use Rattle.packet.specs.declared.Found.{Found}

module _ (z : Sizes) (id : ℕ) (r : State) (k : Kept z r) where
  abbrev f : ℕ
  f = z.fragment_size

  -- what is expected on the stream, what it holds and what it sends next are as they were
  abbrev Left : States → Type 0
  Left s = Equal z.fragment_size (seen z.fragment_size r.ordered id) (seen z.fragment_size s id)

  same : (s : States) → s ≡ r.ordered → Left s
  same s e = equal_same f (seen f r.ordered id) (seen f s id) (ap (λ (x : States). seen f x id) e)

  -- ---- a datagram

  module _ (h : Headers) (payload output : List ℕ) (short : length payload ≤ z.fragment_size) (ne : h.standard.ordering ≡ InOrder → h.arranging.stream ≡ id → ⊥) where
    abbrev I : ℕ
    I = h.arranging.stream

    arranged-left : (free : place_of r.ordered.counters.known I < 4) → (id ≡ I → ⊥) → (a : Result Arranged Refusal)
        → item_plan (stream_at r.ordered.counters (place_of r.ordered.counters.known I)) (part r.ordered.index (place_of r.ordered.counters.known I * 64) 64) h.arranging.index.0 ≡ a
        → Left (packet_as (ordered_as a (record { at = place_of r.ordered.counters.known I; plan = a })) z h payload r output).end.ordered
    arranged-left free other (Ok GoesOut) e = other_seen f r.ordered k.ordered.whole I free _ (arranged_fits f r.ordered k.ordered.whole _ free h.arranging.index.0 payload short (Ok GoesOut) e) id other
    arranged-left free other (Ok (IsHeld j)) e = other_seen f r.ordered k.ordered.whole I free _ (arranged_fits f r.ordered k.ordered.whole _ free h.arranging.index.0 payload short (Ok (IsHeld j)) e) id other
    arranged-left free other (Ok IsOld) e = other_seen f r.ordered k.ordered.whole I free _ (arranged_fits f r.ordered k.ordered.whole _ free h.arranging.index.0 payload short (Ok IsOld) e) id other
    arranged-left free other (Err why) e = same r.ordered refl

    by_ordering : (o : OrderingGuarantee) → h.standard.ordering ≡ o
        → Left (packet_as (plan_by o h.arranging r.ordered.counters r.ordered.index r.sequenced) z h payload r output).end.ordered
    unfolding sequenced_plan plan_on
    by_ordering None e = same r.ordered refl
    by_ordering InSequence e = case (eqb (place_of r.sequenced.known I) 4) (λ q. rw q (same r.ordered refl)) (λ q. rw q (same r.ordered refl))
    by_ordering InOrder e =
        case (eqb (place_of r.ordered.counters.known I) 4) (λ q. rw q (same r.ordered refl))
        (λ q.
        rw q
        (arranged-left (one_of_four r.ordered.counters.known (ids_of f r.ordered k.ordered.whole) I q) (λ g. ne e (sym g))
        (item_plan (stream_at r.ordered.counters (place_of r.ordered.counters.known I)) (part r.ordered.index (place_of r.ordered.counters.known I * 64) 64) h.arranging.index.0) refl))

  module _ (d output : List ℕ) (beyond : Beyond z.version id d) where
    by_type_lem : (t : PacketType) (h : Headers) (payload : List ℕ) → length payload ≤ z.fragment_size
        → (t ≡ Packet → h.standard.ordering ≡ InOrder → h.arranging.stream ≡ id → ⊥) → Left (by_type t z h payload r output).end.ordered
    unfolding plan_of
    by_type_lem Packet h payload short ne = by_ordering h payload output short (ne refl) h.standard.ordering refl
    by_type_lem Fragment h payload short ne = same r.ordered refl
    by_type_lem Heartbeat h payload short ne = same r.ordered refl

    by_read : (t : Result Found Refusal) → read_of z.version d ≡ t → Left (read_as t z r d output).end.ordered
    by_read (Err why) e = same r.ordered refl
    by_read (Ok x) e =
        case (ltb z.fragment_size (length d - x.at)) (λ q. rw q (same r.ordered refl))
        (λ q.
        rw q
        (by_type_lem x.headers.standard.packet_type x.headers (drop x.at d) (rw (length-drop x.at d) (ltb-false z.fragment_size (length d - x.at) q)) (λ g. beyond x.headers x.at e g)))

    pub datagram-left : Left (receive_of z r d output).end.ordered
    unfolding receive_of received_of
    datagram-left = go (gate_of z r output) refl
      where
        go : (g : Result ⊤ Refusal) → gate_of z r output ≡ g → Left (receive_of z r d output).end.ordered
        go (Err why) e = rw e (same r.ordered refl)
        go (Ok tt) e = rw e (by_read (read_of z.version d) refl)

  -- ---- a take on another stream

  module _ (stream : ℕ) (output : List ℕ) (ne : id ≡ stream → ⊥) where
    taken-left : Left (taken_on (next_on z.fragment_size r.ordered stream) z.fragment_size stream r.ordered)
    taken-left =
        ⊎_elim
        (λ (h : place_of r.ordered.counters.known stream < r.ordered.counters.known.made).
        let free : place_of r.ordered.counters.known stream < 4 = let q = few r.ordered.counters.known (ids_of f r.ordered k.ordered.whole) 0 in omega arith in
        rw (taken_is f r.ordered stream k.ordered.whole h)
        (other_seen f r.ordered k.ordered.whole stream free _ (taken_fits f r.ordered k.ordered.whole _ free (next_of (state_at f r.ordered (place_of r.ordered.counters.known stream))) refl) id ne))
        (λ (h : r.ordered.counters.known.made ≤ place_of r.ordered.counters.known stream). rw (next_away f r.ordered stream h) (same r.ordered refl))
        (lt_or_le (place_of r.ordered.counters.known stream) r.ordered.counters.known.made)

    pub take_left : Left (take_of z r stream output).end.ordered
    unfolding take_of
    take_left = go (gate_of z r output) refl
      where
        go : (g : Result ⊤ Refusal) → gate_of z r output ≡ g → Left (take_of z r stream output).end.ordered
        go (Err why) e = rw e (same r.ordered refl)
        go (Ok tt) e = rw e taken-left

  -- ---- an item that is sent: what is expected and what is held are as they were

  pub record Stays (s : States) : Type 0 where
    pub expects : (seen z.fragment_size s id).stream.expected_index.0 ≡ (seen z.fragment_size r.ordered id).stream.expected_index.0
    pub keeps : (y : ℕ) → held_at z.fragment_size (seen z.fragment_size s id) y ≡ held_at z.fragment_size (seen z.fragment_size r.ordered id) y

  pub stays : (s : States) → Left s → Stays s
  stays s e = record { expects = ap (λ (x : OrderingStream). x.expected_index.0) e.stream_is; keeps = e.keeps }

  module _ (i : Item) (payload output : List ℕ) where
    by_order : (o : OrderingGuarantee) → i.ordering ≡ o → (q : Sending) → Allowed z r i (length payload) q → Stays (transmitted_as (Ok q) z r i payload output).end.ordered
    by_order None e q a = rw e (stays r.ordered (same r.ordered refl))
    by_order InSequence e q a = rw e (stays r.ordered (same r.ordered refl))
    by_order InOrder e q a =
        let free : place_of r.ordered.counters.known i.stream < 4 =
        one_of_four r.ordered.counters.known (ids_of f r.ordered k.ordered.whole) i.stream (rw e at a.placed) in
        let p : q.stream ≡ place_of r.ordered.counters.known i.stream = rw e at a.stream_is in
        let y = receives f r.ordered k.ordered i.stream free i.identifier id in
        rw (e, p) (record { expects = y.expects; keeps = y.keeps })

    pub transmitted-stays : Stays (transmitted_of z r i payload output).end.ordered
    unfolding transmitted_of
    transmitted-stays = go (send_plan z r.acks.counters.sequence_number.0 r.ordered.counters r.sequenced (table_of z r.acks.number) i (length payload)) refl
      where
        go : (p : Result Sending Refusal) → send_plan z r.acks.counters.sequence_number.0 r.ordered.counters r.sequenced (table_of z r.acks.number) i (length payload) ≡ p
            → Stays (transmitted_of z r i payload output).end.ordered
        go (Err why) e = rw e (stays r.ordered (same r.ordered refl))
        go (Ok q) e = rw e (by_order i.ordering refl q (allowed z r i (length payload) q e))
