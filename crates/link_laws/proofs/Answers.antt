-- Through an open gate no call answers 1, 2 or 13, rung by rung of what each call says. Assumes nothing.
use Prim.Native.Nat.{ℕ, ◌-◌, ◌*◌, ◌≤◌}
use mathlib.Core.Path.{◌≡◌, refl}
use mathlib.Core.Bool.{Bool, ◌||◌}
use mathlib.Core.List.{List}
use native.Mathlib.Omega.{arith}
use lib.Dec.{ltb, leb, eqb}
use lib.ListN.{length, take, drop}
use Rattle.std.specs.Prelude.{Result, Ok, Err, Option, None, Some}
use Rattle.laws.specs.Bits.{bit}
use Rattle.laws.proofs.Cases.{case}
use Rattle.serial.specs.Order.{back}
use Rattle.terms.specs.Refusals.{number_of}
use Rattle.terms.specs.declared.Sizes.{Sizes}
use Rattle.flight.specs.Lost.{drop_of as lost_of}
use Rattle.acks.specs.State.{table_of}
use Rattle.acknowledgment.specs.Calls.{answered_by, number_of_dropped}
use Rattle.splitter.specs.Split.{needed}
use Rattle.packet.specs.Read.{read_of, following_read, unknown, standard_of, headers_of}
use Rattle.packet_table.specs.Table.{misfit}
use Rattle.packet_table.specs.Table.{follows}
use Rattle.packet_table.specs.Layout.{payload_at}
use Rattle.packet_table.specs.declared.Headers.{Headers}
use Rattle.packet_table.specs.declared.PacketType.{PacketType}
use Rattle.packet_table.specs.declared.PacketType.TheVariants.{Packet, Fragment, Heartbeat}
use Rattle.packet_table.specs.declared.OrderingGuarantee.{OrderingGuarantee}
use Rattle.packet_table.specs.declared.OrderingGuarantee.TheVariants.{None as NoOrder, Sequenced as InSequence, Ordered as InOrder}
use Rattle.reassembly_plan.specs.Plan.{slot_of, known, found, judged, passed, plan_of as plan_part}
use Rattle.reassembly.specs.Effects.{complete, joined_answer, answer_of}
use Rattle.reassembly_plan.specs.declared.words.Entry.{Entry}
use Rattle.reassembly_plan.specs.declared.plan.Fragment.{Fragment as FragmentOf}
use Rattle.reassembly_plan.specs.declared.plan.Plan.{Plan as PartPlan}
use Rattle.reassembly_plan.specs.declared.plan.Plan.TheVariants.{Make, Join}
use Rattle.ordering_plan.specs.State.{place_of as held_place}
use Rattle.ordering_plan.specs.Arrange.{plan_of as item_plan, number_of_arranged}
use Rattle.ordering.specs.Take.{next_place, next_of, number_of_taken}
use Rattle.ordering_plan.specs.declared.OrderingStream.{OrderingStream}
use Rattle.ordering_plan.specs.declared.Arranged.{Arranged}
use Rattle.ordering_plan.specs.declared.Arranged.TheVariants.{Out, Held, Old}
use Rattle.sequencing.specs.Sequence.{sequence_of}
use Rattle.sequencing.specs.declared.Sequenced.{Sequenced as Sequence}
use Rattle.sequencing.specs.declared.Sequenced.TheVariants.{Out as Newest, Dropped}
use Rattle.arranging_plan.specs.Ids.{place_of}
use Rattle.arranging_plan.specs.Ordered.{States, stream_at, state_at, part, plan_on, next_on}
use Rattle.arranging.specs.Sequenced.{stream_at as sequenced_at}
use Rattle.arranging_plan.specs.declared.ordered.Planned.{Planned}
use Rattle.arranging_plan.specs.declared.ordered.OrderingStreams.{OrderingStreams}
use Rattle.ends.specs.State.{State}
use Rattle.ends.specs.Gate.{gate_of}
use Rattle.receiving_plan.specs.Plan.{sequenced_plan, sequenced_told, ordered_as, plan_by, plan_of, told, item_of, number_of_answer}
use Rattle.receiving_fragments.specs.Fragments.{part_of, part_plan, part_slot, parts_after, told_part}
use Rattle.receiving.specs.Receive.{by_type, read_as, received_of}
use Rattle.receiving_plan.specs.declared.Item.{Item as ReceivedItem}
use Rattle.sending.specs.Plan.{plan_of as send_plan, is_listed, is_long, place_by, is_full}
use Rattle.sending.specs.Send.{transmitted_of, number_of_sent}
use Rattle.datagrams.specs.Further.{has_further, further_of}
use Rattle.datagrams.specs.declared.Item.{Item}
use Rattle.link_incoming.specs.Calls.{receive_of, take_of}
use Rattle.link_outgoing.specs.Calls.{send_of, resend_of, fragment_of}
use Rattle.link.specs.Calls.{drop_of, report_of}
use Rattle.link_laws.specs.Calls.{Call, receives, takes, sends, resends, writes, drops, asks, lent_to, number_of_call}
use Rattle.link_laws.specs.Never.{Other}
use Rattle.terms.specs.declared.Refusal.{Refusal}
use Rattle.packet.specs.declared.Found.{Found}
use Rattle.flight.specs.declared.lost.Dropped.{Dropped as Given}

nothing : Other 0
nothing = (λ e. omega arith, λ e. omega arith, λ e. omega arith)

later : (n : ℕ) → 3 ≤ n → n ≤ 12 → Other n
later n a b = (λ e. omega arith, λ e. omega arith, λ e. omega arith)

-- 3 and 4 where a datagram is read
number_of_read : Result Found Refusal → ℕ
number_of_read (Ok r) = 0
number_of_read (Err why) = number_of why

read : (v : ℕ) (d : List ℕ) → Other (number_of_read (read_of v d))
unfolding read_of following_read number_of_read
read v d =
    case (ltb (length d) 5) (λ a. rw a (later 3 (omega arith) (omega arith)))
    (λ a.
    case (unknown v d || misfit (standard_of d) (follows (standard_of d)) (length d - 5)) (λ b. rw (a, b) (later 4 (omega arith) (omega arith)))
    (λ b.
    case (ltb (length d) (payload_at (follows (standard_of d)) (headers_of (standard_of d) (follows (standard_of d)) d).fragment.id))
    (λ c. rw (a, b, c) (later 3 (omega arith) (omega arith)))
    (λ c. rw (a, b, c) nothing)))

-- 6 and 7 on an ordered stream
item : (s : OrderingStream) (index : List ℕ) (i : ℕ) → Other (number_of_arranged (item_plan s index i))
unfolding item_plan
item s index i =
    case (eqb (back i s.expected_index.0) 0) (λ a. rw a nothing)
    (λ a.
    case (ltb 32768 (back i s.expected_index.0)) (λ b. rw (a, b) nothing)
    (λ b.
    case (eqb (held_place s index i) 64) (λ c. rw (a, b, c) (later 6 (omega arith) (omega arith))) (λ c. rw (a, b, c) nothing)))

planned : (s : OrderingStreams) (index : List ℕ) (id i : ℕ) → Other (number_of_arranged (plan_on s index id i).plan)
unfolding plan_on
planned s index id i =
    case (eqb (place_of s.known id) 4) (λ a. rw a (later 7 (omega arith) (omega arith)))
    (λ a. rw a (item (stream_at s (place_of s.known id)) (part index (place_of s.known id * 64) 64) i))

in_order : (p : Planned) (a : Result Arranged Refusal) (it : ReceivedItem) → p.plan ≡ a → Other (number_of_arranged a) → Other (number_of_answer (told (ordered_as a p) it))
in_order p (Ok Out) it q h = rw q nothing
in_order p (Ok (Held k)) it q h = rw q nothing
in_order p (Ok Old) it q h = rw q nothing
in_order p (Err why) it q h = h

in_sequence : (a : Sequence) (it : ReceivedItem) → Other (number_of_answer (Ok (sequenced_told a it)))
in_sequence Newest it = nothing
in_sequence Dropped it = nothing

module _ (h : Headers) (s : State) (it : ReceivedItem) where
  packet : (o : OrderingGuarantee) → Other (number_of_answer (told (plan_by o h.arranging s.ordered.counters s.ordered.index s.sequenced) it))
  unfolding sequenced_plan
  packet NoOrder = nothing
  packet InSequence =
      case (eqb (place_of s.sequenced.known h.arranging.stream) 4) (λ a. rw a (later 7 (omega arith) (omega arith)))
      (λ a. rw a (in_sequence (sequence_of (sequenced_at s.sequenced (place_of s.sequenced.known h.arranging.stream)) h.arranging.index.0) it))
  packet InOrder =
      let p = plan_on s.ordered.counters s.ordered.index h.arranging.stream h.arranging.index.0 in
      in_order p p.plan it refl (planned s.ordered.counters s.ordered.index h.arranging.stream h.arranging.index.0)

-- 8 to 12 of a fragment
number_of_plan : Result PartPlan Refusal → ℕ
number_of_plan (Err why) = number_of why
number_of_plan (Ok Make) = 0
number_of_plan (Ok (Join j)) = 0

entry : (there : Bool) (e : Entry) (g : FragmentOf) (len : ℕ) → Other (number_of_plan (judged there e g len))
unfolding judged number_of_plan
entry there e g len =
    case (eqb e.total g.count)
    (λ a.
    case (leb 16 g.id)
    (λ b. case there (λ c. rw (a, b, c) (later 8 (omega arith) (omega arith))) (λ c. rw (a, b, c) nothing))
    (λ b.
    case (bit e.ids g.id) (λ c. rw (a, b, c) (later 11 (omega arith) (omega arith))) (λ c. rw (a, b, c) nothing)))
    (λ a. rw a (later 10 (omega arith) (omega arith)))

part_plan_lem : (num : ℕ) (slots entries : List ℕ) (g : FragmentOf) (len : ℕ) → Other (number_of_plan (plan_part num slots entries g len))
unfolding plan_part number_of_plan
part_plan_lem num slots entries g len =
    case (passed (known slots g) num slots g.number.0) (λ a. rw a (later 9 (omega arith) (omega arith)))
    (λ a. rw a (entry (known slots g) (found (known slots g) entries (slot_of slots g) g.count) g len))

fragment : (plan : Result PartPlan Refusal) (k : ℕ) (header : List ℕ) → Other (number_of_plan plan) → Other (number_of_answer (told_part (answer_of plan k header)))
unfolding answer_of joined_answer number_of_plan
fragment (Err why) k header h = h
fragment (Ok Make) k header h = later 8 (omega arith) (omega arith)
fragment (Ok (Join j)) k header h =
    case (complete j.entry)
    (λ a. case (bit j.entry.ids 0) (λ b. rw (a, b) nothing) (λ b. rw (a, b) (later 12 (omega arith) (omega arith))))
    (λ a. rw a nothing)

-- a datagram
module _ (z : Sizes) (s : State) (d output : List ℕ) where
  by_type_lem : (t : PacketType) (h : Headers) (payload : List ℕ) → Other (number_of_answer (by_type t z h payload s output).answer)
  unfolding plan_of
  by_type_lem Packet h payload = packet h s (item_of h (length payload)) h.standard.ordering
  by_type_lem Fragment h payload =
      fragment (part_plan z s.parts h (length payload)) (part_slot z s.parts h) (parts_after z h payload s.parts).header
      (part_plan_lem s.parts.num (take z.reassembly_slots s.parts.slots) s.parts.entry (part_of h) (length payload))
  by_type_lem Heartbeat h payload = nothing

  by_read : (t : Result Found Refusal) → Other (number_of_read t) → Other (number_of_answer (read_as t z s d output).answer)
  unfolding number_of_read
  by_read (Err why) q = q
  by_read (Ok r) q =
      case (ltb z.fragment_size (length d - r.at)) (λ a. rw a (later 5 (omega arith) (omega arith)))
      (λ a. rw a (by_type_lem r.headers.standard.packet_type r.headers (drop r.at d)))

  received : Other (number_of_answer (received_of z s d output).answer)
  unfolding received_of
  received = by_read (read_of z.version d) (read z.version d)

-- a take refuses nothing
next : (f : ℕ) (s : States) (id : ℕ) → Other (number_of_taken (next_on f s id))
unfolding next_on next_of
next f s id =
    case (ltb (place_of s.counters.known id) s.counters.known.made)
    (λ a.
    case (ltb (next_place (state_at f s (place_of s.counters.known id))) (state_at f s (place_of s.counters.known id)).stream.held)
    (λ b. rw (a, b) nothing)
    (λ b. rw (a, b) nothing))
    (λ a. rw a nothing)

-- 4 to 8 of an item that is sent
sent : (z : Sizes) (s : State) (i : Item) (payload output : List ℕ) → Other (number_of_sent (transmitted_of z s i payload output).answer)
unfolding transmitted_of send_plan
sent z s i payload output =
    case (is_listed i)
    (λ a.
    case (is_long z.fragment_size i (length payload)) (λ b. rw (a, b) (later 5 (omega arith) (omega arith)))
    (λ b.
    case (ltb z.max_fragments (needed (length payload) z.fragment_size)) (λ c. rw (a, b, c) (later 8 (omega arith) (omega arith)))
    (λ c.
    case (eqb (place_by i.ordering i.stream s.ordered.counters s.sequenced) 4) (λ d. rw (a, b, c, d) (later 7 (omega arith) (omega arith)))
    (λ d.
    case (is_full i.delivery s.acks.counters.sequence_number.0 (table_of z s.acks.number)) (λ f. rw (a, b, c, d, f) (later 6 (omega arith) (omega arith)))
    (λ f. rw (a, b, c, d, f) nothing)))))
    (λ a. rw a (later 4 (omega arith) (omega arith)))

lost : (d : Option Given) → Other (number_of_dropped (answered_by d))
lost None = nothing
lost (Some d) = nothing

pub through_open : (z : Sizes) (s : State) (c : Call) → gate_of z s (lent_to c) ≡ Ok tt → Other (number_of_call z s c)
unfolding number_of_call receive_of take_of send_of resend_of fragment_of drop_of report_of further_of
through_open z s (receives d output) g = rw g (received z s d output)
through_open z s (takes id output) g = rw g (next z.fragment_size s.ordered id)
through_open z s (sends delivery ordering stream payload output) g = rw g (sent z s _ payload output)
through_open z s (resends packet payload output) g =
    case (leb 3 packet.ordering) (λ a. rw (g, a) (later 4 (omega arith) (omega arith))) (λ a. rw (g, a) (sent z s _ payload output))
through_open z s (writes n j output) g = case (has_further z s.acks.number n j) (λ a. rw (g, a) nothing) (λ a. rw (g, a) nothing)
through_open z s (drops output) g = rw g (lost (lost_of s.acks.counters.remote_ack_sequence_num.0 (table_of z s.acks.number) s.acks.records))
through_open z s (asks output) g = rw g nothing
