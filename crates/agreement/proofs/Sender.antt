-- What the sender promises of an item that is sent, or sent again. Assumes nothing.
use Prim.Native.Nat.{ℕ, ◌*◌, ◌≤◌, ◌<◌}
use mathlib.Core.Path.{◌≡◌, refl, sym, ap, ◌∙◌, subst}
use mathlib.Core.Bool.{false, cond}
use mathlib.Core.List.{List}
use native.Mathlib.Omega.{arith}
use lib.Dec.{eqb}
use lib.ListN.{length, take, drop, set}
use lib.Seq.{take_at, paste}
use Rattle.std.specs.Prelude.{Ok, Result, Err, Some}
use Rattle.laws.proofs.Cases.{no_answer, same_answer}
use Rattle.serial.specs.Order.{next}
use Rattle.serial.specs.declared.ItemId.{ItemId}
use Rattle.terms.specs.declared.Sizes.{Sizes}
use Rattle.terms.specs.declared.Refusal.{Refusal}
use Rattle.terms.proofs.Ranges.{in_range_means}
use Rattle.flight.specs.Entry.{word_of, numbers_in, packed}
use Rattle.flight.specs.Places.{place_of as place_in_flight, full}
use Rattle.flight.specs.View.{Flight, view}
use Rattle.acks.specs.State.{table_of, slot_of}
use Rattle.acknowledgment_laws.specs.Runs.{Typed}
use Rattle.acknowledgment_laws.proofs.Unbroken.{flight_of}
use Rattle.packet_table.specs.Numbers.{Bytes}
use Rattle.packet_table.specs.Table.{ordering_number}
use Rattle.packet_table.specs.declared.DeliveryGuarantee.{DeliveryGuarantee}
use Rattle.packet_table.specs.declared.DeliveryGuarantee.TheVariants.{Unreliable, Reliable}
use Rattle.packet_table.specs.declared.OrderingGuarantee.{OrderingGuarantee}
use Rattle.packet_table.specs.declared.OrderingGuarantee.TheVariants.{None as NoOrder, Sequenced, Ordered}
use Rattle.ordering_plan.specs.State.{State as Stream}
use Rattle.ordering_plan.specs.declared.OrderingStream.{OrderingStream}
use Rattle.arranging_plan.specs.Ids.{place_of}
use Rattle.arranging_plan.specs.Ordered.{States, stream_at}
use Rattle.ends.specs.State.{State, counters_of}
use Rattle.sending.specs.Plan.{is_full, flight_place, plan_of}
use Rattle.datagrams.specs.Datagrams.{headers_for}
use Rattle.sending.specs.Send.{sequenced_as, ordered_as, identified_by, identified_in, record_of, datagram_in, answer_for, Step as Sent, transmitted_as, transmitted_of}
use Rattle.datagrams.specs.declared.Item.{Item}
use Rattle.datagrams.specs.declared.Identifier.{Identifier}
use Rattle.datagrams.specs.declared.Identifier.TheVariants.{Next, Again}
use Rattle.sending.specs.declared.Written.{Written}
use Rattle.sending.specs.declared.plan.Sending.{Sending}
use Rattle.link_laws.proofs.Lists.{few_pieces}
use Rattle.link_laws.proofs.Receive.{ordered_item, sequenced_item, one_of_four}
use Rattle.link_laws.proofs.Send.{Narrow, kept_transmitted}
use Rattle.agreement.specs.World.{Pair, Alike}
use Rattle.agreement.proofs.Promises.{Went, Passed, Loose}
use Rattle.agreement.proofs.Streams.{seen, ids_of}
use Rattle.agreement.proofs.Wire.{Saying, Beyond}
use Rattle.agreement.proofs.Views.{Fine, views}
use Rattle.agreement.proofs.Allowed.{Allowed, allowed}
use Rattle.agreement.proofs.Numbered.{After, next_seen, again_seen, others_seen}
use Rattle.agreement.proofs.Flying.{sent-view}
use Rattle.agreement.proofs.ByteLists.{taken, whole}
use Rattle.agreement.proofs.Written as written

ordering_byte : (o : OrderingGuarantee) → ordering_number o < 256
ordering_byte NoOrder = omega arith
ordering_byte Sequenced = omega arith
ordering_byte Ordered = omega arith

ordered_two : (o : OrderingGuarantee) → ordering_number o ≡ 2 → o ≡ Ordered
ordered_two NoOrder e = absurd (omega arith)
ordered_two Sequenced e = absurd (omega arith)
ordered_two Ordered e = refl

-- the identifier that an item has
abbrev id_of : State → Item → Sending → ItemId
id_of s i q = (identified_in (counters_of s) i q).item

next_id : (s : State) (i : Item) (q : Sending) (p : ℕ) → i.ordering ≡ Ordered → i.identifier ≡ Next → q.stream ≡ p
    → (id_of s i q).0 ≡ (stream_at s.ordered.counters p).next_item.0
next_id s i q p o t e = rw (o, t, e) refl

again_id : (s : State) (i : Item) (q : Sending) (item : ItemId) → i.ordering ≡ Ordered → i.identifier ≡ Again item → (id_of s i q).0 ≡ item.0
again_id s i q item o t = rw (o, t) refl

-- the packets in flight, with a reliable one
reliable_flight : (z : Sizes) (s : State) (i : Item) (q : Sending) (payload output : List ℕ) (place : ℕ) → q.at ≡ place → i.delivery ≡ Reliable
    → flight_of z (transmitted_as (Ok q) z s i payload output).end.acks
    ≡ record {
      number = table_of z (set s.acks.number place (word_of s.acks.counters.sequence_number.0 (length payload)));
      records = set s.acks.records place (packed (record_of i (id_of s i q)));
      bytes = paste s.acks.bytes (place * slot_of z) payload (length payload);
    }
reliable_flight z s i q payload output place e r = rw (e, r) refl

module _ (l : Pair) (alike : Alike l) (s : State) (ok : Fine l.sending s) (i : Item) (payload output : List ℕ) (byte : i.stream < 256) (narrow : Narrow i.identifier) where
  abbrev z : Sizes
  z = l.sending

  abbrev f : ℕ
  f = l.sending.fragment_size

  abbrev X : Sent
  X = transmitted_of l.sending s i payload output

  abbrev local : ℕ
  local = s.acks.counters.sequence_number.0

  abbrev Y : Sending → Sent
  Y q = transmitted_as (Ok q) l.sending s i payload output

  -- what was written, no rung of the plan refused
  pub record Gone : Type 0 where
    pub q : Sending
    pub is : X ≡ Y q
    pub free : Allowed l.sending s i (length payload) q

  pub gone : (d : Written) → X.answer ≡ Ok d → Gone
  unfolding transmitted_of
  gone d = go (plan_of z local s.ordered.counters s.sequenced (table_of z s.acks.number) i (length payload)) refl
    where
      go : (p : Result Sending Refusal) → plan_of z local s.ordered.counters s.sequenced (table_of z s.acks.number) i (length payload) ≡ p → X.answer ≡ Ok d → Gone
      go (Err why) e = rw e (λ q. no_answer q)
      go (Ok q) e = λ a. record { q = q; is = rw e refl; free = allowed z s i (length payload) q e }

  module _ (g : Gone) where
    abbrev ID : ItemId
    ID = id_of s i g.q

    word-by : (o : OrderingGuarantee) → (identified_by o i g.q.stream s.ordered.counters s.sequenced).item.0 < 65536
    word-by NoOrder = omega arith
    word-by Sequenced = go i.identifier narrow
      where
        go : (t : Identifier) → Narrow t → (sequenced_as t s.sequenced g.q.stream i.stream).item.0 < 65536
        go Next y = sequenced_item s.sequenced ok.kept.sequenced g.q.stream
        go (Again item) y = y item refl
    word-by Ordered = go i.identifier narrow
      where
        go : (t : Identifier) → Narrow t → (ordered_as t s.ordered.counters g.q.stream i.stream).item.0 < 65536
        go Next y = ordered_item f s.ordered ok.kept.ordered g.q.stream
        go (Again item) y = y item refl

    item_word : ID.0 < 65536
    item_word = word-by i.ordering

    typed : Typed (record_of i ID)
    typed = record { ordering_byte = ordering_byte i.ordering; stream_byte = byte; item_word = item_word }

    abbrev D : List ℕ
    D = datagram_in z (counters_of s) s.acks.received i g.q payload

    module _ (d : Written) (e : X.answer ≡ Ok d) (pb : Bytes payload) where
      told : answer_for z (counters_of s) s.acks.received i g.q payload ≡ Ok d
      told = sym (ap (λ (x : Sent). x.answer) g.is) ∙ e

      number_is : d.number.0 ≡ local
      number_is = sym (ap (λ (x : Written). x.number.0) (same_answer told))

      wire-is : take d.length X.output ≡ D
      wire-is =
          ap (λ (x : Written). take x.length X.output) (sym (same_answer told)) ∙ ap (λ (x : Sent). take (length D) x.output) g.is
          ∙ take_at D (drop (length D) output) (length D) refl

      ok-after : Fine z X.end
      ok-after = record { range = ok.range; kept = kept_transmitted z s i payload output ok.range ok.kept byte narrow }

      few : length payload ≤ z.max_fragments * z.fragment_size
      few = few_pieces (length payload) f z.max_fragments (in_range_means z ok.range).f.0 g.free.few

      -- a reliable packet is in flight under its number
      stored : i.delivery ≡ Reliable → (m : ℕ) → m < 65536
          → view (slot_of z) (flight_of z X.end.acks) m ≡ cond (eqb m d.number.0) (Some (record { packet = record_of i ID; payload = payload })) (view (slot_of z) (flight_of z s.acks) m)
      stored r m h =
          ap (λ (x : Sent). view (slot_of z) (flight_of z x.end.acks) m) g.is
          ∙ ap (λ (x : Flight). view (slot_of z) x m) (reliable_flight z s i g.q payload output (place_in_flight local (numbers_in (table_of z s.acks.number))) at_is r)
          ∙ sent-view z s.acks ok.range ok.kept.acks (record_of i ID) payload typed roomy few m h
          ∙ ap (λ (x : ℕ). cond (eqb m x) (Some (record { packet = record_of i ID; payload = payload })) (view (slot_of z) (flight_of z s.acks) m)) (sym number_is)
        where
          at_is : g.q.at ≡ place_in_flight local (numbers_in (table_of z s.acks.number))
          at_is = g.free.at_is ∙ ap (λ (x : DeliveryGuarantee). flight_place x local (table_of z s.acks.number)) r

          roomy : full local (numbers_in (table_of z s.acks.number)) ≡ false
          roomy = ap (λ (x : DeliveryGuarantee). is_full x local (table_of z s.acks.number)) (sym r) ∙ g.free.room

      loose : i.delivery ≡ Unreliable → (m : ℕ) → m < 65536 → view (slot_of z) (flight_of z X.end.acks) m ≡ view (slot_of z) (flight_of z s.acks) m
      loose r m h = ap (λ (x : Sent). view (slot_of z) (flight_of z x.end.acks) m) g.is ∙ rw r refl

      -- the stream's next identifier
      abbrev up : State → ℕ
      up x = (seen l.sending.fragment_size x.ordered l.stream).stream.next_item.0

      free-place : i.ordering ≡ Ordered → place_of s.ordered.counters.known i.stream < 4
      free-place o = one_of_four s.ordered.counters.known (ids_of f s.ordered ok.kept.ordered.whole) i.stream (rw o at g.free.placed)

      after_is : (o : i.ordering ≡ Ordered) → X.end.ordered ≡ After f s.ordered ok.kept.ordered i.stream (free-place o) i.identifier
      after_is o =
          let p : g.q.stream ≡ place_of s.ordered.counters.known i.stream = rw o at g.free.stream_is in
          ap (λ (x : Sent). x.end.ordered) g.is ∙ rw (p, o) refl

      -- on the stream: the next, or one that was given back
      up_next : i.ordering ≡ Ordered → i.stream ≡ l.stream → i.identifier ≡ Next → up X.end ≡ next (up s)
      up_next o is t =
          ap (λ (x : States). (seen f x l.stream).stream.next_item.0) (after_is o)
          ∙ subst
          (λ (x : ℕ). (seen f (After f s.ordered ok.kept.ordered i.stream (free-place o) i.identifier) x).stream.next_item.0 ≡ next (seen f s.ordered x).stream.next_item.0)
          is
          (ap (λ (y : Identifier). (seen f (After f s.ordered ok.kept.ordered i.stream (free-place o) y) i.stream).stream.next_item.0) t
          ∙ ap (λ (x : Stream). x.stream.next_item.0) (next_seen f s.ordered ok.kept.ordered i.stream (free-place o)))

      up-again : (item : ItemId) → i.ordering ≡ Ordered → i.stream ≡ l.stream → i.identifier ≡ Again item → up X.end ≡ up s
      up-again item o is t =
          ap (λ (x : States). (seen f x l.stream).stream.next_item.0) (after_is o)
          ∙ subst
          (λ (x : ℕ). (seen f (After f s.ordered ok.kept.ordered i.stream (free-place o) i.identifier) x).stream.next_item.0 ≡ (seen f s.ordered x).stream.next_item.0)
          is
          (ap (λ (y : Identifier). (seen f (After f s.ordered ok.kept.ordered i.stream (free-place o) y) i.stream).stream.next_item.0) t
          ∙ ap (λ (x : Stream). x.stream.next_item.0) (again_seen f s.ordered ok.kept.ordered i.stream (free-place o) item))

      up-other : (i.ordering ≡ Ordered → i.stream ≡ l.stream → ⊥) → up X.end ≡ up s
      up-other ne = go i.ordering refl
        where
          go : (o : OrderingGuarantee) → i.ordering ≡ o → up X.end ≡ up s
          go NoOrder o = ap (λ (x : Sent). (seen f x.end.ordered l.stream).stream.next_item.0) g.is ∙ rw o refl
          go Sequenced o = ap (λ (x : Sent). (seen f x.end.ordered l.stream).stream.next_item.0) g.is ∙ rw o refl
          go Ordered o =
              ap (λ (x : States). (seen f x l.stream).stream.next_item.0) (after_is o)
              ∙ ap (λ (x : OrderingStream). x.next_item.0)
              (others_seen f s.ordered ok.kept.ordered i.stream (free-place o) i.identifier l.stream (λ y. ne o (sym y))).stream_is

      -- on the wire
      says : (o : i.ordering ≡ Ordered) → i.stream ≡ l.stream → Saying l.receiving.version l.stream (take d.length X.output) ID.0 payload
      says o is =
          subst (λ (v : ℕ). Saying v l.stream (take d.length X.output) ID.0 payload) (sym alike.one_version)
          (subst (λ (y : List ℕ). Saying z.version l.stream y ID.0 payload) (sym wire-is)
          (subst (λ (y : ℕ). Saying z.version y D ID.0 payload) is
          (written.says z ok.range alike.version_word i ID s.acks.counters s.acks.received payload g.free.listed g.free.short g.free.few ok.kept.acks.next item_word byte o)))

      beyond : (i.ordering ≡ Ordered → i.stream ≡ l.stream → ⊥) → Beyond l.receiving.version l.stream (take d.length X.output)
      beyond ne =
          subst (λ (v : ℕ). Beyond v l.stream (take d.length X.output)) (sym alike.one_version)
          (subst (λ (y : List ℕ). Beyond z.version l.stream y) (sym wire-is)
          (written.beyond z ok.range alike.version_word i ID s.acks.counters s.acks.received payload g.free.listed g.free.short g.free.few ok.kept.acks.next item_word byte l.stream ne))

      pub is-reliable : i.ordering ≡ Ordered → i.delivery ≡ Reliable
      is-reliable o = written.is-reliable z ok.range alike.version_word i ID s.acks.counters s.acks.received payload g.free.listed g.free.short g.free.few ok.kept.acks.next item_word byte o

      wire-bytes : Bytes (take d.length X.output)
      wire-bytes =
          subst (λ (y : List ℕ). Bytes y) (sym wire-is)
          (whole z.version (headers_for f i ID s.acks.counters s.acks.received (length payload)) (take f payload) (taken f payload pb))

      out-mine : (o : i.ordering ≡ Ordered) → i.stream ≡ l.stream → (now k : ℕ) → up X.end ≡ now → ID.0 ≡ k
          → Went l (views l) s X.end d.number.0 (take d.length X.output) now k payload
      out-mine o is now k u c =
          record {
            ok = ok-after;
            says = subst (λ (y : ℕ). Saying l.receiving.version l.stream (take d.length X.output) y payload) c (says o is);
            bytes = wire-bytes;
            fits = written.fits_one z ok.range alike.version_word i ID s.acks.counters s.acks.received payload g.free.listed g.free.short g.free.few ok.kept.acks.next item_word byte o;
            count = u;
            sent = record_of i ID;
            mine = record { ordering_is = rw o refl; stream_is = is; item_is = c };
            typed = typed;
            stored = stored (is-reliable o);
          }

      -- the identifier that an ordered item has
      id_next : (o : i.ordering ≡ Ordered) → i.stream ≡ l.stream → i.identifier ≡ Next → ID.0 ≡ up s
      id_next o is t =
          let p : g.q.stream ≡ place_of s.ordered.counters.known i.stream = rw o at g.free.stream_is in
          next_id s i g.q (place_of s.ordered.counters.known i.stream) o t p ∙ ap (λ (x : ℕ). (seen f s.ordered x).stream.next_item.0) is

      id-again : (item : ItemId) → i.ordering ≡ Ordered → i.identifier ≡ Again item → ID.0 ≡ item.0
      id-again item o t = again_id s i g.q item o t

      pub mine-next : i.ordering ≡ Ordered → i.stream ≡ l.stream → i.identifier ≡ Next
          → Went l (views l) s X.end d.number.0 (take d.length X.output) (next (up s)) (up s) payload
      mine-next o is t = out-mine o is (next (up s)) (up s) (up_next o is t) (id_next o is t)

      pub mine-again : (item : ItemId) (k : ℕ) → i.ordering ≡ Ordered → i.stream ≡ l.stream → i.identifier ≡ Again item → item.0 ≡ k
          → Went l (views l) s X.end d.number.0 (take d.length X.output) (up s) k payload
      mine-again item k o is t c = out-mine o is (up s) k (up-again item o is t) (id-again item o t ∙ c)

      pub out-other : (i.ordering ≡ Ordered → i.stream ≡ l.stream → ⊥) → i.delivery ≡ Reliable
          → Passed l (views l) s X.end d.number.0 (take d.length X.output) payload
      out-other ne r =
          record {
            ok = ok-after;
            aside = beyond ne;
            bytes = wire-bytes;
            count = up-other ne;
            sent = record_of i ID;
            other = λ two is. ne (ordered_two i.ordering two) is;
            typed = typed;
            stored = stored r;
          }

      pub out-loose : (i.ordering ≡ Ordered → i.stream ≡ l.stream → ⊥) → i.delivery ≡ Unreliable → Loose l (views l) s X.end (take d.length X.output)
      out-loose ne r = record { ok = ok-after; aside = beyond ne; bytes = wire-bytes; count = up-other ne; flying = loose r }
