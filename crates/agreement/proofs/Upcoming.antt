-- The stream's next identifier at the sender: no datagram that comes and no take changes it. Assumes nothing.
use Prim.Native.Nat.{ℕ, ◌-◌, ◌*◌, ◌≤◌, ◌<◌}
use mathlib.Core.Path.{◌≡◌, refl, sym, ap, ◌∙◌, subst}
use mathlib.Core.Logic.{⊎_elim}
use mathlib.Core.List.{List}
use native.Mathlib.Omega.{arith}
use borrow.Author.Tests.{ltb-false}
use lib.Dec.{ltb, eqb}
use lib.ListN.{length, drop, length-drop}
use Rattle.std.specs.Prelude.{Result, Ok, Err, Option, Some, ⊤, None}
use Rattle.laws.proofs.Cases.{case, lt_or_le}
use Rattle.terms.specs.declared.Sizes.{Sizes}
use Rattle.packet.specs.Read.{read_of}
use Rattle.packet_table.specs.declared.Headers.{Headers}
use Rattle.packet_table.specs.declared.PacketType.{PacketType}
use Rattle.packet_table.specs.declared.PacketType.TheVariants.{Packet, Fragment, Heartbeat}
use Rattle.packet_table.specs.declared.OrderingGuarantee.{OrderingGuarantee}
use Rattle.packet_table.specs.declared.OrderingGuarantee.TheVariants.{None as NoOrder, Sequenced as InSequence, Ordered as InOrder}
use Rattle.ordering_plan.specs.State.{State as Stream}
use Rattle.ordering.specs.Take.{next_of, taken}
use Rattle.ordering_plan.specs.Arrange.{plan_of as item_plan}
use Rattle.ordering_plan.specs.declared.OrderingStream.{OrderingStream}
use Rattle.ordering_plan.specs.declared.Arranged.{Arranged}
use Rattle.ordering_plan.specs.declared.Arranged.TheVariants.{Out as GoesOut, Held as IsHeld, Old as IsOld}
use Rattle.ordering_laws.proofs.Found.{same?}
use Rattle.arranging_plan.specs.Ids.{place_of}
use Rattle.arranging_plan.specs.Ordered.{States, part, stream_at, state_at, stored_at, plan_on, next_on, taken_on}
use Rattle.arranging.proofs.Kept.{next_away}
use Rattle.arranging_laws.proofs.Ids.{few}
use Rattle.arranging_laws.proofs.Stays.{arranged_fits, taken_fits, taken_is}
use Rattle.arranging_laws.proofs.Stored.{Fitting}
use Rattle.ends.specs.State.{State}
use Rattle.ends.specs.Gate.{gate_of}
use Rattle.receiving_plan.specs.Plan.{sequenced_plan, ordered_as, plan_by, plan_of}
use Rattle.receiving.specs.Receive.{packet_as, by_type, read_as, received_of}
use Rattle.link_incoming.specs.Calls.{receive_of, take_of}
use Rattle.link_laws.proofs.Kept.{Kept}
use Rattle.link_laws.proofs.Receive.{one_of_four}
use Rattle.agreement.proofs.Streams.{seen, own_seen, other_seen, ids_of}
use Rattle.terms.specs.declared.Refusal.{Refusal}
use Rattle.packet.specs.declared.Found.{Found}

module _ (z : Sizes) (id : ℕ) (s : State) (k : Kept z s) where
  abbrev f : ℕ
  f = z.fragment_size

  abbrev Up : States → Type 0
  Up t =
      (seen z.fragment_size t id).stream.next_item.0 ≡ (seen z.fragment_size s.ordered id).stream.next_item.0

  -- a stream is stored with the next identifier that it had
  stored_up : (stream : ℕ) (free : place_of s.ordered.counters.known stream < 4) (t : Stream) → Fitting z.fragment_size t
      → t.stream.next_item.0 ≡ (seen z.fragment_size s.ordered stream).stream.next_item.0
      → Up (stored_at z.fragment_size s.ordered (place_of s.ordered.counters.known stream) stream t)
  stored_up stream free t fits e =
      ⊎_elim
      (λ (q : id ≡ stream).
      subst
      (λ (x : ℕ). (seen f (stored_at f s.ordered (place_of s.ordered.counters.known stream) stream t) x).stream.next_item.0 ≡ (seen f s.ordered x).stream.next_item.0)
      (sym q) (ap (λ (x : Stream). x.stream.next_item.0) (own_seen f s.ordered k.ordered.whole stream free t fits) ∙ e))
      (λ (q : id ≡ stream → ⊥).
      ap (λ (x : OrderingStream). x.next_item.0) (other_seen f s.ordered k.ordered.whole stream free t fits id q).stream_is)
      (same? id stream)

  module _ (h : Headers) (payload output : List ℕ) (short : length payload ≤ z.fragment_size) where
    abbrev I : ℕ
    I = h.arranging.stream

    arranged-up : (free : place_of s.ordered.counters.known I < 4) → (a : Result Arranged Refusal)
        → item_plan (stream_at s.ordered.counters (place_of s.ordered.counters.known I)) (part s.ordered.index (place_of s.ordered.counters.known I * 64) 64) h.arranging.index.0 ≡ a
        → Up (packet_as (ordered_as a (record { at = place_of s.ordered.counters.known I; plan = a })) z h payload s output).end.ordered
    arranged-up free (Ok GoesOut) e = stored_up I free _ (arranged_fits f s.ordered k.ordered.whole _ free h.arranging.index.0 payload short (Ok GoesOut) e) refl
    arranged-up free (Ok (IsHeld j)) e = stored_up I free _ (arranged_fits f s.ordered k.ordered.whole _ free h.arranging.index.0 payload short (Ok (IsHeld j)) e) refl
    arranged-up free (Ok IsOld) e = stored_up I free _ (arranged_fits f s.ordered k.ordered.whole _ free h.arranging.index.0 payload short (Ok IsOld) e) refl
    arranged-up free (Err why) e = refl

    by_ordering : (o : OrderingGuarantee)
        → Up (packet_as (plan_by o h.arranging s.ordered.counters s.ordered.index s.sequenced) z h payload s output).end.ordered
    unfolding sequenced_plan plan_on
    by_ordering NoOrder = refl
    by_ordering InSequence = case (eqb (place_of s.sequenced.known I) 4) (λ q. rw q refl) (λ q. rw q refl)
    by_ordering InOrder =
        case (eqb (place_of s.ordered.counters.known I) 4) (λ q. rw q refl)
        (λ q.
        rw q
        (arranged-up (one_of_four s.ordered.counters.known (ids_of f s.ordered k.ordered.whole) I q)
        (item_plan (stream_at s.ordered.counters (place_of s.ordered.counters.known I)) (part s.ordered.index (place_of s.ordered.counters.known I * 64) 64) h.arranging.index.0) refl))

  module _ (d output : List ℕ) where
    by_type_lem : (t : PacketType) (h : Headers) (payload : List ℕ) → length payload ≤ z.fragment_size → Up (by_type t z h payload s output).end.ordered
    unfolding plan_of
    by_type_lem Packet h payload short = by_ordering h payload output short h.standard.ordering
    by_type_lem Fragment h payload short = refl
    by_type_lem Heartbeat h payload short = refl

    by_read : (t : Result Found Refusal) → Up (read_as t z s d output).end.ordered
    by_read (Err why) = refl
    by_read (Ok r) =
        case (ltb z.fragment_size (length d - r.at)) (λ q. rw q refl)
        (λ q. rw q (by_type_lem r.headers.standard.packet_type r.headers (drop r.at d) (rw (length-drop r.at d) (ltb-false z.fragment_size (length d - r.at) q))))

    pub datagram-up : Up (receive_of z s d output).end.ordered
    unfolding receive_of received_of
    datagram-up = go (gate_of z s output) refl
      where
        go : (g : Result ⊤ Refusal) → gate_of z s output ≡ g → Up (receive_of z s d output).end.ordered
        go (Err why) e = rw e refl
        go (Ok tt) e = rw e (by_read (read_of z.version d))

  module _ (stream : ℕ) (output : List ℕ) where
    left_up : (t : Result (Option ℕ) Refusal) (x : Stream) → (taken t f x).stream.next_item.0 ≡ x.stream.next_item.0
    left_up (Ok (Some n)) x = refl
    left_up (Ok None) x = refl
    left_up (Err why) x = refl

    taken-up : Up (taken_on (next_on z.fragment_size s.ordered stream) z.fragment_size stream s.ordered)
    taken-up =
        ⊎_elim
        (λ (h : place_of s.ordered.counters.known stream < s.ordered.counters.known.made).
        let free : place_of s.ordered.counters.known stream < 4 = let q = few s.ordered.counters.known (ids_of f s.ordered k.ordered.whole) 0 in omega arith in
        ap (λ (x : States). (seen f x id).stream.next_item.0) (taken_is f s.ordered stream k.ordered.whole h)
        ∙ stored_up stream free _ (taken_fits f s.ordered k.ordered.whole _ free (next_of (state_at f s.ordered (place_of s.ordered.counters.known stream))) refl)
        (left_up (next_of (state_at f s.ordered (place_of s.ordered.counters.known stream))) (state_at f s.ordered (place_of s.ordered.counters.known stream))))
        (λ (h : s.ordered.counters.known.made ≤ place_of s.ordered.counters.known stream). rw (next_away f s.ordered stream h) refl)
        (lt_or_le (place_of s.ordered.counters.known stream) s.ordered.counters.known.made)

    pub take-up : Up (take_of z s stream output).end.ordered
    unfolding take_of
    take-up = go (gate_of z s output) refl
      where
        go : (g : Result ⊤ Refusal) → gate_of z s output ≡ g → Up (take_of z s stream output).end.ordered
        go (Err why) e = rw e refl
        go (Ok tt) e = rw e taken-up
