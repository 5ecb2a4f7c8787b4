-- The ends of `link` keep the promises. Assumes nothing.
use Prim.Native.Nat.{ℕ, ◌*◌, ◌≤◌, ◌<◌}
use mathlib.Core.Path.{◌≡◌, refl, sym, ap, ◌∙◌, subst}
use mathlib.Core.Logic.{⊎_elim}
use mathlib.Core.Bool.{true, false}
use mathlib.Core.List.{List, [], ◌++◌}
use native.Mathlib.Omega.{arith}
use borrow.Author.Tests.{eqb-true, eqb-false, leb-false, ltb-true}
use lib.Dec.{eqb, leb}
use lib.ListN.{length, get_or, take, drop, get_or-replicate}
use lib.Seq.{take_at, get_or-take, length-take-le}
use Rattle.std.specs.Prelude.{Ok, Result, Err, Option, Some, ⊤, None}
use Rattle.laws.proofs.Cases.{case, each, lt_or_le}
use Rattle.keys.specs.Keys.{first_place}
use Rattle.serial.specs.Order.{next}
use Rattle.terms.specs.declared.Sizes.{Sizes}
use Rattle.terms.proofs.Ranges.{in_range_means}
use Rattle.sequence_buffer.specs.Buffer.{none as no_number}
use Rattle.flight.specs.Entry.{numbers_in, length_of, bytes_at}
use Rattle.flight.specs.Lost.{drop_of as lost_of}
use Rattle.flight.specs.View.{Sent as Entry, view}
use Rattle.flight.specs.declared.SentPacket.{SentPacket}
use Rattle.flight.specs.declared.lost.Dropped.{Dropped as Given}
use Rattle.flight.proofs.Viewed.{seen as seen_at, unseen, word_at}
use Rattle.flight.proofs.Words.{no_number as no_number_in}
use Rattle.acks.specs.State.{State as Acks, table_of, slot_of}
use Rattle.acknowledgment.specs.Calls.{answered_by, output_kept}
use Rattle.acknowledgment_laws.specs.Runs.{Typed}
use Rattle.acknowledgment_laws.proofs.Unbroken.{flight_of}
use Rattle.packet_table.specs.Layout.{datagram, following_bytes}
use Rattle.packet_table.specs.Table.{follows, ordering_of}
use Rattle.packet.specs.Read.{headers_of}
use Rattle.packet_table.specs.Numbers.{Bytes}
use Rattle.packet_table.specs.declared.Headers.{Headers}
use Rattle.packet_table.specs.declared.StandardHeader.{StandardHeader}
use Rattle.packet_table.specs.declared.PacketType.TheVariants.{Packet, Fragment as IsFragment}
use Rattle.packet_table.specs.declared.DeliveryGuarantee.{DeliveryGuarantee}
use Rattle.packet_table.specs.declared.DeliveryGuarantee.TheVariants.{Unreliable, Reliable}
use Rattle.packet_table.specs.declared.OrderingGuarantee.{OrderingGuarantee}
use Rattle.packet_table.specs.declared.OrderingGuarantee.TheVariants.{None as NoOrder, Sequenced, Ordered}
use Rattle.packet.proofs.Accepted.{accepted}
use Rattle.packet_laws.proofs.Parsed.{standard_parsed}
use Rattle.ordering_plan.specs.State.{fresh}
use Rattle.ordering_plan.specs.declared.OrderingStream.{OrderingStream}
use Rattle.arranging_plan.specs.Ids.{place_of}
use Rattle.arranging_plan.proofs.Sound.{fresh_at}
use Rattle.ends.specs.State.{State}
use Rattle.ends.specs.declared.End.{End}
use Rattle.ends.specs.Gate.{gate_of}
use Rattle.splitter.specs.Split.{needed, pieces}
use Rattle.splitter.proofs.Pieces.{piece_at}
use Rattle.datagrams.specs.Further.{further_headers, payload_for, further_datagram, has_further, further_of, further_output}
use Rattle.sending.specs.Send.{Step as Sent, transmitted_of}
use Rattle.datagrams.specs.declared.Item.{Item}
use Rattle.datagrams.specs.declared.Identifier.TheVariants.{Next}
use Rattle.sending.specs.declared.Written.{Written}
use Rattle.link_incoming.specs.Calls.{receive_of, take_of}
use Rattle.link_outgoing.specs.Calls.{send_of, resend_of, item_again, fragment_of, fragment_output}
use Rattle.link.specs.Calls.{drop_of, drop_output}
use Rattle.link_laws.specs.Calls.{Call, receives, takes as takes_on, sends as sends_on, resends as resends_on, writes as writes_on, drops as drops_on, asks, dropped, called}
use Rattle.link_laws.specs.Never.{New}
use Rattle.link_laws.proofs.Kept.{Kept, stays_open, kept_new}
use Rattle.link_laws.proofs.Unbroken.{next_narrow, again_narrow, kept_receives, kept_takes, kept_sends, kept_resends, kept_drops}
use Rattle.link_laws.proofs.Refused.{leaves}
use Rattle.agreement.specs.World.{Pair, Alike}
use Rattle.agreement.specs.Events.{on_stream}
use Rattle.agreement.specs.Agreement.{Lent, Beside}
use Rattle.agreement.proofs.Promises.{Mine, Other, Went, Passed, Loose, Quiet, Same, Promises}
use Rattle.agreement.proofs.Streams.{seen, Equal, none_held}
use Rattle.agreement.proofs.ByteLists.{taken, dropped as dropped_bytes, whole}
use Rattle.agreement.proofs.Wire.{Beyond}
use Rattle.agreement.proofs.Views.{Fine, views}
use Rattle.agreement.proofs.Receiver.{lands, few_held, same_ordered}
use Rattle.agreement.proofs.Refused.{refuses}
use Rattle.agreement.proofs.Taking.{takes}
use Rattle.agreement.proofs.Beside.{Stays, datagram-left, take_left, transmitted-stays}
use Rattle.agreement.proofs.Flying.{lost-word, dropped_keeps, given, given-size}
use Rattle.agreement.proofs.Upcoming.{datagram-up, take-up}
use Rattle.agreement.proofs.Sender.{gone, is-reliable, mine-next, mine-again, out-other, out-loose}
use Rattle.agreement.proofs.Hearing.{heard-fewer}
use Rattle.terms.specs.declared.Refusal.{Refusal}

-- ---- fresh ends

module _ (z : Sizes) (s : State) (o : List ℕ) (new : New z s o) (id : ℕ) where
  none_made : (stream : ℕ) → (seen z.fragment_size s.ordered stream).stream ≡ fresh
  none_made stream =
      let no-streams : s.ordered.counters.known.made ≡ 0 = ap (λ (e : End). e.ordering.known.made) new.counters in
      fresh_at s.ordered.counters (place_of s.ordered.counters.known stream) (omega arith)

  no_number_lem : (m : ℕ) → m < 65536 → view (slot_of z) (flight_of z s.acks) m ≡ None
  no_number_lem m h =
      let table = table_of z s.acks.number in
      let at = first_place m (numbers_in table) in
      unseen (slot_of z) (flight_of z s.acks) m
      (⊎_elim
      (λ (l : first_place m (numbers_in (table_of z s.acks.number)) < length (table_of z s.acks.number)).
      let long = length-take-le z.packets_in_flight s.acks.number (kept_new z s o new).acks.lengths.numbers in
      let was = get_or-take z.packets_in_flight s.acks.number at 0 (omega arith) in
      let is : get_or s.acks.number (first_place m (numbers_in (table_of z s.acks.number))) 0 ≡ no_number =
      ap (λ (t : List ℕ). get_or t at 0) new.none_in_flight
      ∙ get_or-replicate (length s.acks.number) at no_number 0 (let y = (kept_new z s o new).acks.lengths.numbers in omega arith) in
      absurd (omega (arith, word_at m table l, no_number_in (get_or table at 0) (omega arith))))
      (λ (l : length (table_of z s.acks.number) ≤ first_place m (numbers_in (table_of z s.acks.number))). l)
      (lt_or_le (first_place m (numbers_in (table_of z s.acks.number))) (length (table_of z s.acks.number))))

-- ---- the sender

on_stream_lem : (id : ℕ) (o : OrderingGuarantee) (stream : ℕ) → on_stream id o stream ≡ true → (o ≡ Ordered) × (stream ≡ id)
on_stream_lem id NoOrder stream e = absurd (let z : ◌≡◌ {A = ℕ} 0 1 = cc in omega arith)
on_stream_lem id Sequenced stream e = absurd (let z : ◌≡◌ {A = ℕ} 0 1 = cc in omega arith)
on_stream_lem id Ordered stream e = (refl, eqb-true stream id e)

off_stream : (id : ℕ) (o : OrderingGuarantee) (stream : ℕ) → on_stream id o stream ≡ false → o ≡ Ordered → stream ≡ id → ⊥
off_stream id NoOrder stream e q r = let z : ◌≡◌ {A = ℕ} 0 1 = cc in omega arith
off_stream id Sequenced stream e q r = let z : ◌≡◌ {A = ℕ} 0 1 = cc in omega arith
off_stream id Ordered stream e q r = eqb-false stream id e r

byte_two : (n : ℕ) → n ≡ 2 → ordering_of n ≡ Ordered
unfolding ordering_of
byte_two n e = rw e refl

two_byte : (n : ℕ) → leb 3 n ≡ false → ordering_of n ≡ Ordered → n ≡ 2
unfolding ordering_of
two_byte n h =
    case (eqb n 0) (λ a. rw a (λ e. absurd (let z : ◌≡◌ {A = ℕ} 0 1 = cc in omega arith)))
    (λ a.
    case (eqb n 1) (λ b. rw (a, b) (λ e. absurd (let z : ◌≡◌ {A = ℕ} 0 1 = cc in omega arith)))
    (λ b. rw (a, b) (λ e. let x = leb-false 3 n h in let y = eqb-false n 0 a in let w = eqb-false n 1 b in omega arith)))

lost_of_lem : (x : Option Given) (d : Given) → answered_by x ≡ Ok (Some d) → x ≡ Some d
lost_of_lem None d e = absurd (let z : ◌≡◌ {A = ℕ} 0 1 = cc in omega arith)
lost_of_lem (Some y) d e = cc

fragment_inj : {a b : ℕ} → ◌≡◌ {A = Result (Option ℕ) Refusal} (Ok (Some a)) (Ok (Some b)) → a ≡ b
fragment_inj e = cc

-- a drop that is given comes from a lost packet
dropped_from : (z : Sizes) (s : State) (output : List ℕ) (d : Given) → drop_of z s output ≡ Ok (Some d)
    → lost_of s.acks.counters.remote_ack_sequence_num.0 (table_of z s.acks.number) s.acks.records ≡ Some d
unfolding drop_of
dropped_from z s output d = go (gate_of z s output) refl
  where
    go : (g : Result ⊤ Refusal) → gate_of z s output ≡ g → drop_of z s output ≡ Ok (Some d)
        → lost_of s.acks.counters.remote_ack_sequence_num.0 (table_of z s.acks.number) s.acks.records ≡ Some d
    go (Err why) e = rw e (λ q. absurd (let w : ◌≡◌ {A = ℕ} 0 1 = cc in omega arith))
    go (Ok tt) e = rw e (λ q. lost_of_lem _ d q)

-- a take leaves what is in flight
take_acks : (z : Sizes) (s : State) (stream : ℕ) (output : List ℕ) → (take_of z s stream output).end.acks ≡ s.acks
unfolding take_of
take_acks z s stream output = go (gate_of z s output) refl
  where
    go : (g : Result ⊤ Refusal) → gate_of z s output ≡ g → (take_of z s stream output).end.acks ≡ s.acks
    go (Err why) e = rw e refl
    go (Ok tt) e = rw e refl

-- a fragment is no packet
fragment_beyond : (v id : ℕ) → v < 65536 → (h : Headers) (p : List ℕ) → h.standard.packet_type ≡ IsFragment → Beyond v id (datagram v h p)
unfolding datagram headers_of
fragment_beyond v id word h p is g at e kind ordered stream =
    let means = accepted v (datagram v h p) g at e in
    let parsed = standard_parsed v h.standard (datagram v h p) (following_bytes (follows h.standard) h ++ p) word refl in
    let same : g.standard ≡ h.standard = ap (λ (x : Headers). x.standard) means.1 ∙ parsed.standard in
    let t : Packet ≡ IsFragment = sym kind ∙ ap (λ (x : StandardHeader). x.packet_type) same ∙ is in
    let z : ◌≡◌ {A = ℕ} 0 1 = cc in
    omega arith

module _ (l : Pair) (alike : Alike l) where
  abbrev z : Sizes
  z = l.sending

  abbrev item_of : DeliveryGuarantee → OrderingGuarantee → ℕ → Item
  item_of delivery ordering stream = record { delivery = delivery; ordering = ordering; stream = stream; identifier = Next }

  module _ (s : State) (ok : Fine l.sending s) (output : List ℕ) (lent : Lent l.sending output) where
    gate : gate_of l.sending s output ≡ Ok tt
    gate = stays_open z s ok.range ok.kept output lent

    send-is : (delivery : DeliveryGuarantee) (ordering : OrderingGuarantee) (stream : ℕ) (payload : List ℕ)
        → send_of l.sending s delivery ordering stream payload output ≡ transmitted_of l.sending s (item_of delivery ordering stream) payload output
    unfolding send_of
    send-is delivery ordering stream payload = rw gate refl

    resend-is : (sent : SentPacket) (payload : List ℕ) → leb 3 sent.ordering ≡ false
        → resend_of l.sending s sent payload output ≡ transmitted_of l.sending s (item_again sent) payload output
    unfolding resend_of
    resend-is sent payload e = rw (gate, e) refl

    resend-not : (sent : SentPacket) (payload : List ℕ) (d : Written) → (resend_of l.sending s sent payload output).answer ≡ Ok d → leb 3 sent.ordering ≡ false
    unfolding resend_of
    resend-not sent payload d =
        case (leb 3 sent.ordering) (λ q. rw (gate, q) (λ e. absurd (let w : ◌≡◌ {A = ℕ} 0 1 = cc in omega arith))) (λ q e. q)

    send-mine : (delivery : DeliveryGuarantee) (ordering : OrderingGuarantee) (stream : ℕ) (payload : List ℕ) (d : Written) → stream < 256 → Bytes payload
        → on_stream l.stream ordering stream ≡ true → (x : Sent) → x ≡ transmitted_of l.sending s (item_of delivery ordering stream) payload output
        → x.answer ≡ Ok d
        → (delivery ≡ Reliable)
        × Went l (views l) s x.end d.number.0 (take d.length x.output) (next ((views l).upcoming s)) ((views l).upcoming s) payload
    send-mine delivery ordering stream payload d byte pb on x is e =
        let i : Item = item_of delivery ordering stream in
        let o = on_stream_lem l.stream ordering stream on in
        let e' : (transmitted_of l.sending s (item_of delivery ordering stream) payload output).answer ≡ Ok d = sym (ap (λ (y : Sent). y.answer) is) ∙ e in
        let g = gone l alike s ok (item_of delivery ordering stream) payload output byte next_narrow d e' in (
          is-reliable l alike s ok (item_of delivery ordering stream) payload output byte next_narrow g d e' pb o.0,
          subst (λ (y : Sent). Went l (views l) s y.end d.number.0 (take d.length y.output) (next ((views l).upcoming s)) ((views l).upcoming s) payload) (sym is)
              (mine-next l alike s ok (item_of delivery ordering stream) payload output byte next_narrow g d e' pb o.0 o.1 refl),
        )

    send-other : (ordering : OrderingGuarantee) (stream : ℕ) (payload : List ℕ) (d : Written) → stream < 256 → Bytes payload
        → on_stream l.stream ordering stream ≡ false → (x : Sent) → x ≡ transmitted_of l.sending s (item_of Reliable ordering stream) payload output
        → x.answer ≡ Ok d → Passed l (views l) s x.end d.number.0 (take d.length x.output) payload
    send-other ordering stream payload d byte pb on x is e =
        let e' : (transmitted_of l.sending s (item_of Reliable ordering stream) payload output).answer ≡ Ok d = sym (ap (λ (y : Sent). y.answer) is) ∙ e in
        let g = gone l alike s ok (item_of Reliable ordering stream) payload output byte next_narrow d e' in
        subst (λ (y : Sent). Passed l (views l) s y.end d.number.0 (take d.length y.output) payload) (sym is)
        (out-other l alike s ok (item_of Reliable ordering stream) payload output byte next_narrow g d e' pb (off_stream l.stream ordering stream on) refl)

    send-loose : (ordering : OrderingGuarantee) (stream : ℕ) (payload : List ℕ) (d : Written) → stream < 256 → Bytes payload
        → on_stream l.stream ordering stream ≡ false → (x : Sent) → x ≡ transmitted_of l.sending s (item_of Unreliable ordering stream) payload output
        → x.answer ≡ Ok d → Loose l (views l) s x.end (take d.length x.output)
    send-loose ordering stream payload d byte pb on x is e =
        let e' : (transmitted_of l.sending s (item_of Unreliable ordering stream) payload output).answer ≡ Ok d = sym (ap (λ (y : Sent). y.answer) is) ∙ e in
        let g = gone l alike s ok (item_of Unreliable ordering stream) payload output byte next_narrow d e' in
        subst (λ (y : Sent). Loose l (views l) s y.end (take d.length y.output)) (sym is)
        (out-loose l alike s ok (item_of Unreliable ordering stream) payload output byte next_narrow g d e' pb (off_stream l.stream ordering stream on) refl)

    resend-mine : (sent : SentPacket) (k : ℕ) (payload : List ℕ) (d : Written) → Typed sent → Bytes payload → Mine l.stream k sent
        → (x : Sent) → x ≡ transmitted_of l.sending s (item_again sent) payload output → x.answer ≡ Ok d
        → Went l (views l) s x.end d.number.0 (take d.length x.output) ((views l).upcoming s) k payload
    resend-mine sent k payload d t pb m x is e =
        let e' : (transmitted_of l.sending s (item_again sent) payload output).answer ≡ Ok d = sym (ap (λ (y : Sent). y.answer) is) ∙ e in
        let narrow = again_narrow sent.item t.item_word in
        let g = gone l alike s ok (item_again sent) payload output t.stream_byte narrow d e' in
        subst (λ (y : Sent). Went l (views l) s y.end d.number.0 (take d.length y.output) ((views l).upcoming s) k payload) (sym is)
        (mine-again l alike s ok (item_again sent) payload output t.stream_byte narrow g d e' pb sent.item k (byte_two sent.ordering m.ordering_is) m.stream_is refl m.item_is)

    resend-other : (sent : SentPacket) (payload : List ℕ) (d : Written) → Typed sent → Bytes payload → Other l.stream sent → leb 3 sent.ordering ≡ false
        → (x : Sent) → x ≡ transmitted_of l.sending s (item_again sent) payload output → x.answer ≡ Ok d
        → Passed l (views l) s x.end d.number.0 (take d.length x.output) payload
    resend-other sent payload d t pb ne known x is e =
        let e' : (transmitted_of l.sending s (item_again sent) payload output).answer ≡ Ok d = sym (ap (λ (y : Sent). y.answer) is) ∙ e in
        let narrow = again_narrow sent.item t.item_word in
        let g = gone l alike s ok (item_again sent) payload output t.stream_byte narrow d e' in
        subst (λ (y : Sent). Passed l (views l) s y.end d.number.0 (take d.length y.output) payload) (sym is)
        (out-other l alike s ok (item_again sent) payload output t.stream_byte narrow g d e' pb (λ o r. ne (two_byte sent.ordering known o) r) refl)

    -- a packet is given up
    drop-is : drop_of l.sending s output ≡ answered_by (lost_of s.acks.counters.remote_ack_sequence_num.0 (table_of z s.acks.number) s.acks.records)
    unfolding drop_of
    drop-is = rw gate refl

    dropped-was : (d : Given) → drop_of l.sending s output ≡ Ok (Some d)
        → (d.number.0 < 65536)
        × ((views l).flight s d.number.0 ≡ Some (record { packet = d.sent; payload = take d.count (drop_output l.sending s output) }))
    dropped-was d e =
        let lost = lost_of_lem _ d (sym drop-is ∙ e) in
        let remote : ℕ = s.acks.counters.remote_ack_sequence_num.0 in
        let size = given-size z s.acks ok.range ok.kept.acks d s.acks.counters.remote_ack_sequence_num.0 lost in (
          lost-word z s.acks ok.range ok.kept.acks d s.acks.counters.remote_ack_sequence_num.0 lost,
          given z s.acks ok.range ok.kept.acks d s.acks.counters.remote_ack_sequence_num.0 lost
              ∙ ap (λ (y : List ℕ). Some (record { packet = d.sent; payload = y }))
              (sym
              (ap (λ (y : Result (Option Given) Refusal). take d.count (output_kept z y s.acks output)) e
              ∙ take_at (bytes_at (slot_of z) s.acks.bytes (first_place d.number.0 (numbers_in (table_of z s.acks.number))) d.count) (drop d.count output) d.count size)),
        )

    -- a further fragment is written
    abbrev FD : ℕ → ℕ → List ℕ
    FD n j = further_datagram z s.acks.counters s.acks.received s.acks.number s.acks.bytes n j

    -- its payload is a piece of what is in flight
    piece_bytes : (n j : ℕ) → has_further z s.acks.number n j ≡ true → ((e : Entry) → (views l).flight s n ≡ Some e → Bytes e.payload) → Bytes (FD n j)
    unfolding has_further
    piece_bytes n j q held =
        let at = first_place n (numbers_in (table_of z s.acks.number)) in
        let place : first_place n (numbers_in (table_of z s.acks.number)) < z.packets_in_flight = ltb-true at z.packets_in_flight (each _ _ q).0 in
        let long = length-take-le z.packets_in_flight s.acks.number ok.kept.acks.lengths.numbers in
        let b : Bytes (payload_for z s.acks.number s.acks.bytes n) =
        subst (λ (w : ℕ). Bytes (bytes_at (slot_of z) s.acks.bytes at (length_of w))) (get_or-take z.packets_in_flight s.acks.number at 0 place)
        (held _ (seen_at (slot_of z) (flight_of z s.acks) n at refl (omega arith))) in
        whole z.version
        (further_headers s.acks.counters s.acks.received (record { 0 = n }) j (needed (length_of (get_or s.acks.number at 0)) z.fragment_size))
        (get_or (pieces z.fragment_size (payload_for z s.acks.number s.acks.bytes n)) j [])
        (subst (λ (y : List ℕ). Bytes y)
        (sym (piece_at z.fragment_size (payload_for z s.acks.number s.acks.bytes n) (in_range_means z ok.range).f.0 j))
        (taken z.fragment_size (drop (j * z.fragment_size) (payload_for z s.acks.number s.acks.bytes n)) (dropped_bytes (j * z.fragment_size) (payload_for z s.acks.number s.acks.bytes n) b)))

    wrote : (n j count : ℕ) → ((e : Entry) → (views l).flight s n ≡ Some e → Bytes e.payload) → fragment_of l.sending s n j output ≡ Ok (Some count)
        → Beyond l.receiving.version l.stream (take count (fragment_output l.sending s n j output)) × Bytes (take count (fragment_output l.sending s n j output))
    unfolding fragment_of fragment_output further_of further_output
    wrote n j count held =
        case (has_further z s.acks.number n j)
        (λ q.
        rw (gate, q)
        (λ e.
        let c : length (FD n j) ≡ count = fragment_inj e in
        let is = take_at (FD n j) (drop (length (FD n j)) output) count c in (
          subst (λ (v : ℕ). Beyond v l.stream (take count (FD n j ++ drop (length (FD n j)) output))) (sym alike.one_version)
              (subst (λ (y : List ℕ). Beyond z.version l.stream y) (sym is) (fragment_beyond z.version l.stream alike.version_word _ _ refl)),
          subst (λ (y : List ℕ). Bytes y) (sym is) (piece_bytes n j q held),
        )))
        (λ q. rw (gate, q) (λ e. absurd (let w : ◌≡◌ {A = ℕ} 0 1 = cc in omega arith)))

  -- calls that send nothing
  drops : (s : State) (output : List ℕ) → Fine l.sending s → Quiet l (views l) s (dropped l.sending s output)
  drops s output ok =
      record {
        ok = record { range = ok.range; kept = kept_drops z s ok.range ok.kept output };
        count = refl;
        keeps = go (drop_of z s output) refl;
      }
    where
      go : (a : Result (Option Given) Refusal) → drop_of z s output ≡ a → (m : ℕ) (e : Entry) → m < 65536 → (views l).flight (dropped z s output) m ≡ Some e → (views l).flight s m ≡ Some e
      go (Ok None) q = rw q (λ m e h y. y)
      go (Err why) q = rw q (λ m e h y. y)
      go (Ok (Some d)) q =
          rw q (dropped_keeps z s.acks ok.range ok.kept.acks d s.acks.counters.remote_ack_sequence_num.0 (dropped_from z s output d q))

  hears : (s : State) (d output : List ℕ) → Fine l.sending s → Bytes d → Quiet l (views l) s (receive_of l.sending s d output).end
  hears s d output ok bytes =
      record {
        ok = record { range = ok.range; kept = kept_receives z s ok.range ok.kept d output bytes };
        count = datagram-up z l.stream s ok.kept d output;
        keeps = heard-fewer z s ok.range ok.kept d output;
      }

  collects : (s : State) (stream : ℕ) (output : List ℕ) → Fine l.sending s → Quiet l (views l) s (take_of l.sending s stream output).end
  collects s stream output ok =
      record {
        ok = record { range = ok.range; kept = kept_takes z s ok.range ok.kept stream output };
        count = take-up z l.stream s ok.kept stream output;
        keeps = λ m e h y. sym (ap (λ (a : Acks). view (slot_of z) (flight_of z a) m) (take_acks z s stream output)) ∙ y;
      }

  -- ---- the receiver

  equal_same : (r r' : State) → Equal l.receiving.fragment_size (seen l.receiving.fragment_size r.ordered l.stream) (seen l.receiving.fragment_size r'.ordered l.stream) → Same l (views l) r r'
  equal_same r r' e = record { expects = ap (λ (x : OrderingStream). x.expected_index.0) e.stream_is; keeps = λ y h. e.keeps y }

  stays_same : (r r' : State) (k : Kept l.receiving r) → Stays l.receiving l.stream r k r'.ordered → Same l (views l) r r'
  stays_same r r' k e = record { expects = e.expects; keeps = λ y h. e.keeps y }

  no_change : (r : State) → Same l (views l) r r
  no_change r = record { expects = refl; keeps = λ y h. refl }

  sent_same : (r : State) (k : Kept l.receiving r) (delivery : DeliveryGuarantee) (ordering : OrderingGuarantee) (stream : ℕ) (payload output : List ℕ)
      → Same l (views l) r (send_of l.receiving r delivery ordering stream payload output).end
  unfolding send_of
  sent_same r k delivery ordering stream payload output = go (gate_of l.receiving r output) refl
    where
      go : (g : Result ⊤ Refusal) → gate_of l.receiving r output ≡ g → Same l (views l) r (send_of l.receiving r delivery ordering stream payload output).end
      go (Err why) e = rw e (no_change r)
      go (Ok tt) e = rw e (stays_same r (transmitted_of l.receiving r (item_of delivery ordering stream) payload output).end k (transmitted-stays l.receiving l.stream r k (item_of delivery ordering stream) payload output))

  resent_same : (r : State) (k : Kept l.receiving r) (sent : SentPacket) (payload output : List ℕ)
      → Same l (views l) r (resend_of l.receiving r sent payload output).end
  unfolding resend_of
  resent_same r k sent payload output = go (gate_of l.receiving r output) refl
    where
      go : (g : Result ⊤ Refusal) → gate_of l.receiving r output ≡ g → Same l (views l) r (resend_of l.receiving r sent payload output).end
      go (Err why) e = rw e (no_change r)
      go (Ok tt) e =
          case (leb 3 sent.ordering) (λ q. rw (e, q) (no_change r))
          (λ q. rw (e, q) (stays_same r (transmitted_of l.receiving r (item_again sent) payload output).end k (transmitted-stays l.receiving l.stream r k (item_again sent) payload output)))

  beside : (r : State) (c : Call) → Fine l.receiving r → Beside l.receiving l.stream c → Same l (views l) r (called l.receiving r c)
  unfolding called
  beside r (receives d output) ok b = absurd b
  beside r (takes_on stream output) ok b = equal_same r _ (take_left l.receiving l.stream r ok.kept stream output (λ e. b.1 (sym e)))
  beside r (sends_on delivery ordering stream payload output) ok b = sent_same r ok.kept delivery ordering stream payload output
  beside r (resends_on sent payload output) ok b = resent_same r ok.kept sent payload output
  beside r (writes_on n j output) ok b = no_change r
  beside r (drops_on output) ok b = same_ordered l r ok _ refl
  beside r (asks output) ok b = no_change r

  beside_ok : (r : State) (c : Call) → Fine l.receiving r → Beside l.receiving l.stream c → Fine l.receiving (called l.receiving r c)
  unfolding called
  beside_ok r (receives d output) ok b = absurd b
  beside_ok r (takes_on stream output) ok b = record { range = ok.range; kept = kept_takes l.receiving r ok.range ok.kept stream output }
  beside_ok r (sends_on delivery ordering stream payload output) ok b =
      record { range = ok.range; kept = kept_sends l.receiving r ok.range ok.kept delivery ordering stream payload output b.1 }
  beside_ok r (resends_on sent payload output) ok b = record { range = ok.range; kept = kept_resends l.receiving r ok.range ok.kept sent payload output b.1 }
  beside_ok r (writes_on n j output) ok b = ok
  beside_ok r (drops_on output) ok b = record { range = ok.range; kept = kept_drops l.receiving r ok.range ok.kept output }
  beside_ok r (asks output) ok b = ok

  pub promises : Promises l (views l)
  promises =
      record {
        first-sender = λ s o new. (record { range = new.sizes; kept = kept_new l.sending s o new }, ap (λ (x : OrderingStream). x.next_item.0) (none_made l.sending s o new l.stream l.stream), no_number_lem l.sending s o new l.stream);
        first-receiver = λ r o new. (record { range = new.sizes; kept = kept_new l.receiving r o new }, ap (λ (x : OrderingStream). x.expected_index.0) (none_made l.receiving r o new l.stream l.stream), λ y. none_held l.receiving.fragment_size (seen l.receiving.fragment_size r.ordered l.stream) (none_made l.receiving r o new l.stream l.stream) y);
        send-mine = λ s delivery ordering stream payload output d ok lent byte pb on e.
            send-mine s ok output lent delivery ordering stream payload d byte pb on _ (send-is s ok output lent delivery ordering stream payload) e;
        send-other = λ s ordering stream payload output d ok lent byte pb on e.
            send-other s ok output lent ordering stream payload d byte pb on _ (send-is s ok output lent Reliable ordering stream payload) e;
        send-loose = λ s ordering stream payload output d ok lent byte pb on e.
            send-loose s ok output lent ordering stream payload d byte pb on _ (send-is s ok output lent Unreliable ordering stream payload) e;
        send-refused = λ s delivery ordering stream payload output why e. (leaves.send l.sending s delivery ordering stream payload output why e).end_is;
        resend-mine = λ s sent k payload output d ok lent t pb m e.
            resend-mine s ok output lent sent k payload d t pb m _ (resend-is s ok output lent sent payload (resend-not s ok output lent sent payload d e)) e;
        resend-other = λ s sent payload output d ok lent t pb ne e.
            resend-other s ok output lent sent payload d t pb ne (resend-not s ok output lent sent payload d e) _ (resend-is s ok output lent sent payload (resend-not s ok output lent sent payload d e)) e;
        resend-refused = λ s sent payload output why e. (leaves.resend l.sending s sent payload output why e).end_is;
        dropped-was = λ s output d ok lent e. dropped-was s ok output lent d e;
        drops = drops;
        wrote = λ s n j count output ok lent held e. wrote s ok output lent n j count held e;
        hears = hears;
        collects = collects;
        received-ok = λ r d output ok bytes. record { range = ok.range; kept = kept_receives l.receiving r ok.range ok.kept d output bytes };
        lands = λ r d output i b ok lent t small fits. lands l r ok d output i b lent t (rw alike.one_size fits) small;
        refuses = λ w d output p b ok lent t fits. refuses l w ok d output p b lent t (rw alike.one_size fits);
        passes = λ r d output ok t. equal_same r _ (datagram-left l.receiving l.stream r ok.kept d output t);
        take-ok = λ r output ok. record { range = ok.range; kept = kept_takes l.receiving r ok.range ok.kept l.stream output };
        takes = λ r output ok lent word. takes l r ok output lent word;
        few = λ r ok. few_held l r ok;
        beside_ok = beside_ok;
        beside = beside;
      }
