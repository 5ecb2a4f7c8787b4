-- What each refusal leaves, rung by rung of what each call says. Assumes nothing.
use Prim.Native.Nat.{ℕ, ◌-◌}
use mathlib.Core.Path.{◌≡◌, refl, sym, ap}
use mathlib.Core.List.{List}
use native.Mathlib.Omega.{arith}
use lib.Dec.{ltb, leb, eqb}
use lib.ListN.{length, drop, take-append-drop}
use Rattle.std.specs.Prelude.{Result, Ok, Err, Option, Some, ⊤, None}
use Rattle.laws.specs.Bits.{bit}
use Rattle.laws.proofs.Cases.{case, no_refusal, same_reason}
use Rattle.terms.specs.Refusals.{number_of}
use Rattle.terms.specs.declared.Sizes.{Sizes}
use Rattle.terms.specs.declared.Refusal.{Refusal}
use Rattle.acks.specs.State.{table_of}
use Rattle.packet.specs.Read.{read_of}
use Rattle.packet_table.specs.declared.Headers.{Headers}
use Rattle.packet_table.specs.declared.PacketType.{PacketType}
use Rattle.packet_table.specs.declared.PacketType.TheVariants.{Packet, Fragment, Heartbeat}
use Rattle.packet_table.specs.declared.OrderingGuarantee.{OrderingGuarantee}
use Rattle.packet_table.specs.declared.OrderingGuarantee.TheVariants.{None as NoOrder, Sequenced as InSequence, Ordered as InOrder}
use Rattle.packet_table.specs.declared.DeliveryGuarantee.{DeliveryGuarantee}
use Rattle.reassembly.specs.Effects.{State as Parts, complete, num_after, slots_after, entry_after, header_after, bytes_after, output_after, performed, joined_answer, answer_of, room_of}
use Rattle.reassembly.specs.Call.{stated, restored}
use Rattle.reassembly_plan.specs.declared.plan.Fragment.{Fragment as FragmentOf}
use Rattle.reassembly_plan.specs.declared.plan.Plan.{Plan as PartPlan}
use Rattle.reassembly_plan.specs.declared.plan.Plan.TheVariants.{Make, Join}
use Rattle.ordering_plan.specs.declared.Arranged.{Arranged}
use Rattle.ordering_plan.specs.declared.Arranged.TheVariants.{Out as GoesOut, Held as IsHeld, Old as IsOld}
use Rattle.arranging_plan.specs.Ids.{place_of}
use Rattle.arranging_plan.specs.Ordered.{plan_on, next_on}
use Rattle.arranging_plan.specs.declared.ordered.Planned.{Planned}
use Rattle.ends.specs.State.{State}
use Rattle.ends.specs.Gate.{gate_of}
use Rattle.receiving_plan.specs.Plan.{sequenced_plan, ordered_as, plan_by, plan_of, item_of}
use Rattle.receiving_fragments.specs.Fragments.{part_of, part_plan, part_slot, parts_after, acks_at_whole, told_part}
use Rattle.receiving.specs.Receive.{hearing, packet_as, packet_of, fragment_of as part_outcome, by_type, read_as, received_of}
use Rattle.receiving_plan.specs.declared.Item.{Item as ReceivedItem}
use Rattle.sending.specs.Plan.{plan_of as send_plan}
use Rattle.sending.specs.Send.{transmitted_as, transmitted_of}
use Rattle.datagrams.specs.Further.{has_further, further_of, further_output}
use Rattle.datagrams.specs.declared.Item.{Item as SentItem}
use Rattle.flight.specs.declared.SentPacket.{SentPacket}
use Rattle.link_incoming.specs.Calls.{receive_of, taken_by, take_of}
use Rattle.link_outgoing.specs.Calls.{send_of, resend_of, item_again, fragment_of, fragment_output}
use Rattle.link_laws.specs.Refused.{Unchanged, PartsAlone, RefusedLeaves}
use Rattle.packet.specs.declared.Found.{Found}
use Rattle.sending.specs.declared.plan.Sending.{Sending}

same : (s : State) (output : List ℕ) → Unchanged s output s output
same s output = record { end_is = refl; output_is = refl }

-- a packet that is refused was refused by its plan
module _ (z : Sizes) (h : Headers) (payload : List ℕ) (s : State) (output : List ℕ) (why : Refusal) where
  abbrev It : ReceivedItem
  It = item_of h (length payload)

  in_order : (p : Planned) (a : Result Arranged Refusal) → p.plan ≡ a
      → (packet_as (ordered_as a p) z h payload s output).answer ≡ Err why
      → Unchanged s output (packet_as (ordered_as a p) z h payload s output).end (packet_as (ordered_as a p) z h payload s output).output
  in_order p (Ok GoesOut) q e = no_refusal (rw q at e)
  in_order p (Ok (IsHeld k)) q e = no_refusal (rw q at e)
  in_order p (Ok IsOld) q e = no_refusal (rw q at e)
  in_order p (Err reason) q e = same s output

  by_ordering : (o : OrderingGuarantee)
      → (packet_as (plan_by o h.arranging s.ordered.counters s.ordered.index s.sequenced) z h payload s output).answer ≡ Err why
      → Unchanged s output
      (packet_as (plan_by o h.arranging s.ordered.counters s.ordered.index s.sequenced) z h payload s output).end
      (packet_as (plan_by o h.arranging s.ordered.counters s.ordered.index s.sequenced) z h payload s output).output
  unfolding sequenced_plan
  by_ordering NoOrder = λ e. no_refusal e
  by_ordering InSequence =
      case (eqb (place_of s.sequenced.known h.arranging.stream) 4) (λ q. rw q (λ e. same s output))
      (λ q. rw q (λ e. no_refusal e))
  by_ordering InOrder = in_order (plan_on s.ordered.counters s.ordered.index h.arranging.stream h.arranging.index.0) _ refl

  packet_leaves : (packet_of z h payload s output).answer ≡ Err why → Unchanged s output (packet_of z h payload s output).end (packet_of z h payload s output).output
  unfolding plan_of
  packet_leaves = by_ordering h.standard.ordering

-- a fragment that is refused is not heard and hands out nothing
module _ (z : Sizes) (s : State) (output : List ℕ) (why : Refusal) where
  not_heard : (plan : Result PartPlan Refusal) (k room : ℕ) (header bytes : List ℕ) → told_part (answer_of plan k header) ≡ Err why
      → (hearing (acks_at_whole (answer_of plan k header) z s.acks.counters s.acks.received s.acks.number) s.acks ≡ s.acks)
      × (output_after plan room bytes output ≡ output)
  unfolding answer_of joined_answer output_after
  not_heard (Err reason) k room header bytes = λ e. (refl, refl)
  not_heard (Ok Make) k room header bytes = λ e. (refl, refl)
  not_heard (Ok (Join j)) k room header bytes =
      case (complete j.entry)
      (λ c.
      case (bit j.entry.ids 0)
      (λ b. rw (c, b) (λ e. no_refusal e))
      (λ b. rw (c, b) (λ e. (refl, refl))))
      (λ c. rw c (λ e. no_refusal e))

  -- and where it is neither 8 nor 12, the table is as it was
  left : (plan : Result PartPlan Refusal) (f : ℕ) (g : FragmentOf) (payload : List ℕ) (p : Parts) (k : ℕ) (header : List ℕ) → told_part (answer_of plan k header) ≡ Err why
      → (number_of why ≡ 8 → ⊥) → (number_of why ≡ 12 → ⊥)
      → restored z.reassembly_slots p (performed plan f g payload (stated z.reassembly_slots p)) ≡ p
  unfolding answer_of joined_answer performed num_after slots_after entry_after header_after bytes_after
  left (Err reason) f g payload p k header e a b = rw (take-append-drop z.reassembly_slots p.slots)
  left (Ok Make) f g payload p k header e a b = absurd (a (ap number_of (sym (same_reason e))))
  left (Ok (Join j)) f g payload p k header e a b =
      case (complete j.entry)
      (λ c.
      case (bit j.entry.ids 0)
      (λ d. no_refusal (rw (c, d) at e))
      (λ d. absurd (b (ap number_of (sym (same_reason (rw (c, d) at e)))))))
      (λ c. no_refusal (rw c at e))

  module _ (h : Headers) (payload : List ℕ) where
    abbrev P : Result PartPlan Refusal
    P = part_plan z s.parts h (length payload)

    abbrev K : ℕ
    K = part_slot z s.parts h

    fragment-alone : (part_outcome z h payload s output).answer ≡ Err why
        → PartsAlone s output (part_outcome z h payload s output).end (part_outcome z h payload s output).output
    fragment-alone e =
        let n = not_heard P K (room_of z.fragment_size K) (parts_after z h payload s.parts).header (parts_after z h payload s.parts).bytes e in
        record { acks_are = n.0; ordered_are = refl; sequenced_are = refl; output_is = n.1 }

    fragment-leaves : (part_outcome z h payload s output).answer ≡ Err why → (number_of why ≡ 8 → ⊥) → (number_of why ≡ 12 → ⊥)
        → Unchanged s output (part_outcome z h payload s output).end (part_outcome z h payload s output).output
    fragment-leaves e a b =
        let n = fragment-alone e in
        let q = left P z.fragment_size (part_of h) payload s.parts K (parts_after z h payload s.parts).header e a b in
        record {
          end_is = λ i. record { acks = n.acks_are i; parts = q i; ordered = s.ordered; sequenced = s.sequenced };
          output_is = n.output_is;
        }

-- a datagram, once the gate is open
module _ (z : Sizes) (s : State) (d output : List ℕ) (why : Refusal) where
  type_leaves : (t : PacketType) (h : Headers) (payload : List ℕ) → (by_type t z h payload s output).answer ≡ Err why → (number_of why ≡ 8 → ⊥) → (number_of why ≡ 12 → ⊥)
      → Unchanged s output (by_type t z h payload s output).end (by_type t z h payload s output).output
  type_leaves Packet h payload e a b = packet_leaves z h payload s output why e
  type_leaves Fragment h payload e a b = fragment-leaves z s output why h payload e a b
  type_leaves Heartbeat h payload e a b = same s output

  read_leaves : (t : Result Found Refusal) → (read_as t z s d output).answer ≡ Err why → (number_of why ≡ 8 → ⊥) → (number_of why ≡ 12 → ⊥)
      → Unchanged s output (read_as t z s d output).end (read_as t z s d output).output
  read_leaves (Err reason) = λ e a b. same s output
  read_leaves (Ok r) =
      case (ltb z.fragment_size (length d - r.at)) (λ q. rw q (λ e a b. same s output)) (λ q. rw q (type_leaves r.headers.standard.packet_type r.headers (drop r.at d)))

  alone : (end : State) (written : List ℕ) → Unchanged s output end written → PartsAlone s output end written
  alone end written u =
      record {
        acks_are = ap (λ (t : State). t.acks) u.end_is;
        ordered_are = ap (λ (t : State). t.ordered) u.end_is;
        sequenced_are = ap (λ (t : State). t.sequenced) u.end_is;
        output_is = u.output_is;
      }

  type_alone : (t : PacketType) (h : Headers) (payload : List ℕ) → (by_type t z h payload s output).answer ≡ Err why
      → PartsAlone s output (by_type t z h payload s output).end (by_type t z h payload s output).output
  type_alone Packet h payload e = alone _ _ (packet_leaves z h payload s output why e)
  type_alone Fragment h payload e = fragment-alone z s output why h payload e
  type_alone Heartbeat h payload e = alone _ _ (same s output)

  read_alone : (t : Result Found Refusal) → (read_as t z s d output).answer ≡ Err why → PartsAlone s output (read_as t z s d output).end (read_as t z s d output).output
  read_alone (Err reason) = λ e. alone _ _ (same s output)
  read_alone (Ok r) =
      case (ltb z.fragment_size (length d - r.at)) (λ q. rw q (λ e. alone _ _ (same s output))) (λ q. rw q (type_alone r.headers.standard.packet_type r.headers (drop r.at d)))

  receive_leaves : (receive_of z s d output).answer ≡ Err why → (number_of why ≡ 8 → ⊥) → (number_of why ≡ 12 → ⊥)
      → Unchanged s output (receive_of z s d output).end (receive_of z s d output).output
  unfolding receive_of received_of
  receive_leaves = go (gate_of z s output) refl
    where
      go : (g : Result ⊤ Refusal) → gate_of z s output ≡ g → (receive_of z s d output).answer ≡ Err why → (number_of why ≡ 8 → ⊥) → (number_of why ≡ 12 → ⊥)
          → Unchanged s output (receive_of z s d output).end (receive_of z s d output).output
      go (Err reason) q = rw q (λ e a b. same s output)
      go (Ok tt) q = rw q (read_leaves (read_of z.version d))

  receive_alone : (receive_of z s d output).answer ≡ Err why → PartsAlone s output (receive_of z s d output).end (receive_of z s d output).output
  unfolding receive_of received_of
  receive_alone = go (gate_of z s output) refl
    where
      go : (g : Result ⊤ Refusal) → gate_of z s output ≡ g → (receive_of z s d output).answer ≡ Err why
          → PartsAlone s output (receive_of z s d output).end (receive_of z s d output).output
      go (Err reason) q = rw q (λ e. alone _ _ (same s output))
      go (Ok tt) q = rw q (read_alone (read_of z.version d))

-- taking
module _ (z : Sizes) (s : State) (id : ℕ) (output : List ℕ) (why : Refusal) where
  taken_leaves : (t : Result (Option ℕ) Refusal) → t ≡ Err why
      → Unchanged s output (taken_by t z.fragment_size s id output).end (taken_by t z.fragment_size s id output).output
  taken_leaves (Ok (Some n)) e = absurd (let q : ◌≡◌ {A = ℕ} 0 1 = cc in omega arith)
  taken_leaves (Ok None) e = same s output
  taken_leaves (Err reason) e = same s output

  take_leaves : (take_of z s id output).answer ≡ Err why → Unchanged s output (take_of z s id output).end (take_of z s id output).output
  unfolding take_of
  take_leaves = go (gate_of z s output) refl
    where
      go : (g : Result ⊤ Refusal) → gate_of z s output ≡ g → (take_of z s id output).answer ≡ Err why → Unchanged s output (take_of z s id output).end (take_of z s id output).output
      go (Err reason) q = rw q (λ e. same s output)
      go (Ok tt) q = rw q (taken_leaves (next_on z.fragment_size s.ordered id))

-- sending, and sending again
module _ (z : Sizes) (s : State) (payload output : List ℕ) (why : Refusal) where
  plan_leaves : (p : Result Sending Refusal) (i : SentItem) → (transmitted_as p z s i payload output).answer ≡ Err why
      → Unchanged s output (transmitted_as p z s i payload output).end (transmitted_as p z s i payload output).output
  plan_leaves (Err reason) i e = same s output
  plan_leaves (Ok q) i e = absurd (let n : ◌≡◌ {A = ℕ} 0 1 = cc in omega arith)

  transmitted_leaves : (i : SentItem) → (transmitted_of z s i payload output).answer ≡ Err why
      → Unchanged s output (transmitted_of z s i payload output).end (transmitted_of z s i payload output).output
  unfolding transmitted_of
  transmitted_leaves i =
      plan_leaves (send_plan z s.acks.counters.sequence_number.0 s.ordered.counters s.sequenced (table_of z s.acks.number) i (length payload)) i

  send_leaves : (delivery : DeliveryGuarantee) (ordering : OrderingGuarantee) (stream : ℕ) → (send_of z s delivery ordering stream payload output).answer ≡ Err why
      → Unchanged s output (send_of z s delivery ordering stream payload output).end (send_of z s delivery ordering stream payload output).output
  unfolding send_of
  send_leaves delivery ordering stream = go (gate_of z s output) refl
    where
      go : (g : Result ⊤ Refusal) → gate_of z s output ≡ g → (send_of z s delivery ordering stream payload output).answer ≡ Err why
          → Unchanged s output (send_of z s delivery ordering stream payload output).end (send_of z s delivery ordering stream payload output).output
      go (Err reason) q = rw q (λ e. same s output)
      go (Ok tt) q = rw q (transmitted_leaves _)

  resend_leaves : (sent : SentPacket) → (resend_of z s sent payload output).answer ≡ Err why
      → Unchanged s output (resend_of z s sent payload output).end (resend_of z s sent payload output).output
  unfolding resend_of
  resend_leaves sent = go (gate_of z s output) refl
    where
      go : (g : Result ⊤ Refusal) → gate_of z s output ≡ g → (resend_of z s sent payload output).answer ≡ Err why
          → Unchanged s output (resend_of z s sent payload output).end (resend_of z s sent payload output).output
      go (Err reason) q = rw q (λ e. same s output)
      go (Ok tt) q = case (leb 3 sent.ordering) (λ t. rw (q, t) (λ e. same s output)) (λ t. rw (q, t) (transmitted_leaves (item_again sent)))

-- a further fragment
module _ (z : Sizes) (s : State) (n j : ℕ) (output : List ℕ) (why : Refusal) where
  fragment_leaves_output : fragment_of z s n j output ≡ Err why → fragment_output z s n j output ≡ output
  unfolding fragment_of fragment_output further_of further_output
  fragment_leaves_output = go (gate_of z s output) refl
    where
      go : (g : Result ⊤ Refusal) → gate_of z s output ≡ g → fragment_of z s n j output ≡ Err why → fragment_output z s n j output ≡ output
      go (Err reason) q = rw q (λ e. refl)
      go (Ok tt) q = case (has_further z s.acks.number n j) (λ t. rw (q, t) (λ e. no_refusal e)) (λ t. rw (q, t) (λ e. refl))

pub leaves : RefusedLeaves
leaves =
    record {
      receive = λ z s d output why e a b. receive_leaves z s d output why e a b;
      receive_any = λ z s d output why e. receive_alone z s d output why e;
      take = λ z s id output why e. take_leaves z s id output why e;
      send = λ z s delivery ordering stream payload output why e. send_leaves z s payload output why delivery ordering stream e;
      resend = λ z s sent payload output why e. resend_leaves z s payload output why sent e;
      fragment = λ z s n j output why e. fragment_leaves_output z s n j output why e;
      drop = λ z s output why e. rw e (same s output);
      new = λ z received number records payloads slots entry header joined index lengths held output table why e. rw e;
    }
