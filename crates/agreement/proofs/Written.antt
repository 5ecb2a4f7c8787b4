-- The datagram that an item is reads back as that item. Assumes nothing.
use Prim.Native.Nat.{ℕ, ◌+◌, ◌≤◌, ◌<◌}
use mathlib.Core.Path.{◌≡◌, refl, sym, ap, ◌∙◌}
use mathlib.Core.Bool.{Bool, true, false, cond, not, ◌&&◌}
use mathlib.Core.List.{List}
use native.Mathlib.Nat.{mod-lt}
use native.Mathlib.Omega.{arith}
use borrow.Author.Tests.{ltb-false, le-ltb}
use lib.Dec.{ltb}
use lib.ListN.{length, take, drop}
use lib.Seq.{take_all}
use Rattle.std.specs.Prelude.{Ok}
use Rattle.packet.specs.declared.Found.{Found}
use Rattle.laws.proofs.Cases.{case, both, neither, same_answer}
use Rattle.serial.specs.declared.ItemId.{ItemId}
use Rattle.terms.specs.Sizes.{in_range}
use Rattle.terms.specs.declared.Sizes.{Sizes}
use Rattle.terms.proofs.Ranges.{in_range_means}
use Rattle.received.specs.Record.{slots_of}
use Rattle.received.proofs.Facts.{facts as field-facts}
use Rattle.acks.specs.declared.Acknowledgment.{Acknowledgment}
use Rattle.splitter.specs.Split.{needed}
use Rattle.packet_table.specs.Table.{rule, listed, follows, has_acked}
use Rattle.packet.specs.Read.{no_acked, read_of, found}
use Rattle.packet_table.specs.Table.{misfit}
use Rattle.packet_laws.specs.Inverse.{Fits, carried, start}
use Rattle.packet_table.specs.declared.AckedPacketHeader.{AckedPacketHeader}
use Rattle.packet_table.specs.declared.Headers.{Headers}
use Rattle.packet_table.specs.declared.PacketType.TheVariants.{Packet, Fragment}
use Rattle.packet_table.specs.declared.DeliveryGuarantee.{DeliveryGuarantee}
use Rattle.packet_table.specs.declared.DeliveryGuarantee.TheVariants.{Unreliable, Reliable}
use Rattle.packet_table.specs.declared.OrderingGuarantee.{OrderingGuarantee}
use Rattle.packet_table.specs.declared.OrderingGuarantee.TheVariants.{None, Sequenced, Ordered}
use Rattle.packet_laws.proofs.Theorems.{layout_reads}
use Rattle.sending.specs.Plan.{is_listed, is_split, is_long}
use Rattle.datagrams.specs.Datagrams.{type_for, count_of, acked_now, headers_for, datagram_for}
use Rattle.datagrams.specs.declared.Item.{Item}
use Rattle.agreement.proofs.Wire.{Saying, Beyond}

-- of the listed combinations, ordered is reliable; and it is never split
reliable : (d : DeliveryGuarantee) → listed (rule Packet d Ordered) ≡ true → d ≡ Reliable
reliable Reliable e = refl
reliable Unreliable e = both {b = false} e refl

split_none : (d : DeliveryGuarantee) (o : OrderingGuarantee) → is_split d o ≡ true → (d ≡ Reliable) × (o ≡ None)
split_none Reliable None e = (refl, refl)
split_none Reliable Sequenced e = both {b = false} e refl
split_none Reliable Ordered e = both {b = false} e refl
split_none Unreliable o e = both {b = false} e refl

found_inj : {h g : Headers} {a b : ℕ} → found h a ≡ found g b → h ≡ g
found_inj e = ap (λ (x : Found). x.headers) (same_answer e)

module _ (z : Sizes) (range : in_range z ≡ true) (word : z.version < 65536) (i : Item) (id : ItemId) (c : Acknowledgment) (received payload : List ℕ)
    (listed-is : is_listed i ≡ true) (short : is_long z.fragment_size i (length payload) ≡ false) (few : needed (length payload) z.fragment_size ≤ z.max_fragments)
    (next : c.sequence_number.0 < 65536) (item_word : id.0 < 65536) (byte : i.stream < 256) where
  abbrev f : ℕ
  f = z.fragment_size

  abbrev n : ℕ
  n = length payload

  abbrev pub H : Headers
  H = headers_for z.fragment_size i id c received (length payload)

  abbrev pub D : List ℕ
  D = datagram_for z.version z.fragment_size i id c received payload

  -- over F, it is reliable and unordered
  split_is : ltb f n ≡ true → is_split i.delivery i.ordering ≡ true
  unfolding is_long
  split_is e =
      case (is_split i.delivery i.ordering) (λ q. q)
      (λ q. both {b = ltb f n && not (is_split i.delivery i.ordering)} (rw (e, q)) (neither (ltb 65535 n) _ short).1)

  count_small : count_of f n < 256
  unfolding count_of
  count_small = case (ltb f n) (λ e. rw e (let m = (in_range_means z range).m.1 in omega arith)) (λ e. rw e (omega arith))

  abbrev told : Bool → AckedPacketHeader
  told there = cond there (acked_now c.sequence_number c received) no_acked

  told_fits : (there : Bool) → ((told there).number.0 < 65536) × ((told there).acked.0 < 65536) × ((told there).field < 4294967296)
  told_fits true = (next, mod-lt (c.received.0 + 65535) {m = 65536} (omega arith), field-facts.small c.received.0 (slots_of received))
  told_fits false = (omega arith, omega arith, omega arith)

  fits : Fits z.version H
  fits =
      let t = told_fits (has_acked (follows H.standard) 0) in
      record {
        version = word;
        fragment_number = next;
        id = omega arith;
        count = count_small;
        number = t.0;
        acked = t.1;
        field = t.2;
        index = item_word;
        stream = byte;
      }

  fit_packet : (d : DeliveryGuarantee) (o : OrderingGuarantee) (m : ℕ) → listed (rule Packet d o) ≡ true
      → misfit (record { packet_type = Packet; delivery = d; ordering = o }) (follows (record { packet_type = Packet; delivery = d; ordering = o })) m ≡ false
  unfolding misfit follows
  fit_packet d o m e = rw e

  fit_fragment : (m : ℕ) → misfit (record { packet_type = Fragment; delivery = Reliable; ordering = None }) (follows (record { packet_type = Fragment; delivery = Reliable; ordering = None })) m ≡ false
  unfolding misfit follows
  fit_fragment m = refl

  fit : misfit H.standard (follows H.standard) (length (take f payload)) ≡ false
  unfolding type_for
  fit =
      case (ltb f n)
      (λ e. let q = split_none i.delivery i.ordering (split_is e) in rw (e, q.0, q.1) (fit_fragment (length (take f payload))))
      (λ e. rw e (fit_packet i.delivery i.ordering (length (take f payload)) listed-is))

  reads : (read_of z.version D ≡ found (carried H) (start H)) × (drop (start H) D ≡ take f payload)
  reads = layout_reads z.version H (take f payload) fits fit

  -- an ordered item
  module _ (o : i.ordering ≡ Ordered) where
    pub is-reliable : i.delivery ≡ Reliable
    is-reliable = reliable i.delivery (rw o at listed-is)

    pub fits_one : length payload ≤ z.fragment_size
    fits_one =
        case (ltb f n)
        (λ e. absurd (let q = (split_none i.delivery i.ordering (split_is e)).1 in let y : None ≡ Ordered = sym q ∙ o in let w : ◌≡◌ {A = ℕ} 0 1 = cc in omega arith))
        (λ e. ltb-false f n e)

    one_type : type_for f n ≡ Packet
    unfolding type_for
    one_type = rw (le-ltb f n fits_one)

    carried-arranging : (carried H).arranging ≡ H.arranging
    unfolding carried follows
    carried-arranging = rw (one_type, is-reliable, o)

    carried-type : (carried H).standard.packet_type ≡ Packet
    unfolding carried
    carried-type = one_type

    carried-ordering : (carried H).standard.ordering ≡ i.ordering
    unfolding carried
    carried-ordering = refl

    pub says : Saying z.version i.stream D id.0 payload
    says =
        record {
          h = carried H;
          at = start H;
          reads = reads.0;
          kind = carried-type;
          ordered = carried-ordering ∙ o;
          stream_is = rw carried-arranging refl;
          index_is = rw carried-arranging refl;
          payload = reads.1 ∙ take_all f payload fits_one;
        }

  ordering_stays : (carried H).standard.ordering ≡ i.ordering
  unfolding carried
  ordering_stays = refl

  -- what is not ordered on a stream is none of its items
  pub beyond : (stream : ℕ) → (i.ordering ≡ Ordered → i.stream ≡ stream → ⊥) → Beyond z.version stream D
  beyond stream ne h at e kind ordered is =
      let same : carried H ≡ h = found_inj (sym reads.0 ∙ e) in
      let o : i.ordering ≡ Ordered = sym ordering_stays ∙ ap (λ (x : Headers). x.standard.ordering) same ∙ ordered in
      ne o (sym (ap (λ (x : _). x.stream) (carried-arranging o)) ∙ ap (λ (x : Headers). x.arranging.stream) same ∙ is)
