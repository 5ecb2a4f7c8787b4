-- A datagram that comes to the sender puts nothing in flight. Assumes nothing.
use Prim.Native.Nat.{ℕ, ◌-◌, ◌<◌}
use mathlib.Core.Path.{◌≡◌, refl}
use mathlib.Core.Bool.{Bool, true, false, cond}
use mathlib.Core.List.{List}
use lib.Dec.{ltb}
use lib.ListN.{length, drop}
use Rattle.std.specs.Prelude.{Result, Ok, Err, Option, Some, None, ⊤}
use Rattle.laws.proofs.Cases.{case}
use Rattle.terms.specs.Sizes.{in_range}
use Rattle.terms.specs.declared.Sizes.{Sizes}
use Rattle.flight.specs.View.{Sent as Entry, view}
use Rattle.acks.specs.State.{State as Acks, slot_of}
use Rattle.acknowledgment_laws.proofs.Unbroken.{flight_of}
use Rattle.packet.specs.Read.{read_of}
use Rattle.packet_table.specs.declared.Headers.{Headers}
use Rattle.packet_table.specs.declared.PacketType.{PacketType}
use Rattle.packet_table.specs.declared.PacketType.TheVariants.{Packet, Fragment, Heartbeat}
use Rattle.packet_table.specs.declared.DeliveryGuarantee.{DeliveryGuarantee}
use Rattle.packet_table.specs.declared.DeliveryGuarantee.TheVariants.{Unreliable, Reliable}
use Rattle.ends.specs.State.{State}
use Rattle.ends.specs.Gate.{gate_of}
use Rattle.receiving_plan.specs.Plan.{plan_of, refuses}
use Rattle.receiving_plan.specs.Heard.{unheard, acks_by}
use Rattle.receiving_fragments.specs.Fragments.{part_answer, acks_at_whole}
use Rattle.receiving.specs.Receive.{hearing, by_type, read_as, received_of}
use Rattle.link_incoming.specs.Calls.{receive_of}
use Rattle.link_laws.proofs.Kept.{Kept}
use Rattle.agreement.proofs.Flying.{heard_keeps}
use Rattle.terms.specs.declared.Refusal.{Refusal}
use Rattle.packet.specs.declared.Found.{Found}
use Rattle.reassembly.specs.declared.effects.Message.{Message}

module _ (z : Sizes) (s : State) (range : in_range z ≡ true) (k : Kept z s) where
  -- what is in flight after it was so before
  abbrev pub Fewer : Acks → Type 0
  Fewer a =
      (m : ℕ) (e : Entry) → m < 65536 → view (slot_of z) (flight_of z a) m ≡ Some e → view (slot_of z) (flight_of z s.acks) m ≡ Some e

  same : Fewer s.acks
  same m e h q = q

  by_delivery : (d : DeliveryGuarantee) (h : Headers) → Fewer (hearing (acks_by d z h.acked s.acks.counters s.acks.received s.acks.number) s.acks)
  by_delivery Unreliable h = same
  by_delivery Reliable h = λ m e l q. heard_keeps z s.acks range k.acks h.acked.acked.0 h.acked.field m e l q

  by_refusal : (b : Bool) (h : Headers)
      → Fewer (hearing (cond b (unheard s.acks.counters s.acks.received s.acks.number) (acks_by h.standard.delivery z h.acked s.acks.counters s.acks.received s.acks.number)) s.acks)
  by_refusal true h = same
  by_refusal false h = by_delivery h.standard.delivery h

  by_part : (a : Result (Option Message) Refusal) → Fewer (hearing (acks_at_whole a z s.acks.counters s.acks.received s.acks.number) s.acks)
  by_part (Ok None) = same
  by_part (Ok (Some w)) = λ m e l q. heard_keeps z s.acks range k.acks w.header.acked.0 w.header.field m e l q
  by_part (Err why) = same

  module _ (d output : List ℕ) where
    by_type_lem : (t : PacketType) (h : Headers) (payload : List ℕ) → Fewer (by_type t z h payload s output).end.acks
    by_type_lem Packet h payload = by_refusal (refuses (plan_of h s.ordered.counters s.ordered.index s.sequenced)) h
    by_type_lem Fragment h payload = by_part (part_answer z h payload s.parts)
    by_type_lem Heartbeat h payload = same

    by_read : (t : Result Found Refusal) → Fewer (read_as t z s d output).end.acks
    by_read (Err why) = same
    by_read (Ok r) =
        case (ltb z.fragment_size (length d - r.at)) (λ q. rw q same) (λ q. rw q (by_type_lem r.headers.standard.packet_type r.headers (drop r.at d)))

    pub heard-fewer : Fewer (receive_of z s d output).end.acks
    unfolding receive_of received_of
    heard-fewer = go (gate_of z s output) refl
      where
        go : (g : Result ⊤ Refusal) → gate_of z s output ≡ g → Fewer (receive_of z s d output).end.acks
        go (Err why) e = rw e same
        go (Ok tt) e = rw e (by_read (read_of z.version d))
