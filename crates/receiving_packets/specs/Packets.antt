-- Document 01, module 7: "Reliable packet: after every check, `process_incoming`, then arranging. So a refusal records no packet
-- number; an old item's is recorded like a new one's. Unordered items are handed out at each arrival."
use Rattle.std.specs.Prelude.{ℕ, ◌*◌, ◌≤◌, ◌<◌, ◌≡◌, cond, List, ◌++◌, length, drop, Result, Ok, Err}
use Rattle.terms.specs.declared.Sizes.{Sizes}
use Rattle.received.specs.Record.{slot_count}
use Rattle.acks.specs.declared.Acknowledgment.{Acknowledgment}
use Rattle.packet_table.specs.declared.Headers.{Headers}
use Rattle.packet_table.specs.declared.ArrangingHeader.{ArrangingHeader}
use Rattle.ordering_plan.specs.Arrange.{arranged, plan_of as item_plan}
use Rattle.arranging_plan.specs.Ordered.{States, lending_all, RoomForAll, state_at, stored_at, stream_at, part}
use Rattle.arranging.specs.Sequenced.{arranged_at}
use Rattle.arranging_plan.specs.declared.ordered.OrderingStreams.{OrderingStreams}
use Rattle.arranging.specs.declared.sequenced.SequencingStreams.{SequencingStreams}
use Rattle.ends.specs.declared.End.{End}
use Rattle.receiving_plan.specs.Plan.{plan_of, refuses, told, item_of}
use Rattle.receiving_plan.specs.Heard.{Heard, unheard, acks_by}
use Rattle.receiving_packets.specs.declared.Received.{Received}
use Rattle.receiving_plan.specs.declared.Answer.{Answer}
use Rattle.receiving_plan.specs.declared.Answer.TheVariants.{Out, Held, Old, Dropped, Waiting, Heartbeat}
use Rattle.receiving_plan.specs.declared.Sequencing.{Sequencing}
use Rattle.arranging_plan.specs.declared.ordered.Planned.{Planned}
use Rattle.receiving_plan.specs.declared.Plan.{Plan}
use Rattle.receiving_plan.specs.declared.Plan.TheVariants.{Unordered, Sequenced, Ordered}
use Rattle.terms.specs.declared.Refusal.{Refusal}

-- what each plan makes of the sequenced streams, and of the ordered ones
abbrev pub sequenced_by : Result Plan Refusal → ArrangingHeader → SequencingStreams → SequencingStreams
sequenced_by (Err why) i s = s
sequenced_by (Ok Unordered) i s = s
sequenced_by (Ok (Sequenced q)) i s = (arranged_at s q.at i.stream i.index).streams
sequenced_by (Ok (Ordered p)) i s = s

abbrev pub ordered_by : Result Plan Refusal → ℕ → ArrangingHeader → List ℕ → States → States
ordered_by (Err why) f i payload s = s
ordered_by (Ok Unordered) f i payload s = s
ordered_by (Ok (Sequenced q)) f i payload s = s
ordered_by (Ok (Ordered p)) f i payload s = stored_at f s p.at i.stream (arranged p.plan f i.index.0 payload (state_at f s p.at))

-- "An accepted call that hands out nothing leaves the output untouched; bytes after an item stay."
abbrev pub handed : Result Answer Refusal → List ℕ → List ℕ → List ℕ
handed (Ok (Out item)) payload output = payload ++ drop (length payload) output
handed (Ok Held) payload output = output
handed (Ok Old) payload output = output
handed (Ok Dropped) payload output = output
handed (Ok Waiting) payload output = output
handed (Ok Heartbeat) payload output = output
handed (Err why) payload output = output

-- "a refusal records no packet number"
abbrev pub acks_after : Result Plan Refusal → Sizes → Headers → Acknowledgment → List ℕ → List ℕ → Heard
acks_after plan z h c received number =
    cond (refuses plan) (unheard c received number) (acks_by h.standard.delivery z h.acked c received number)

-- what a plan answers and leaves
pub record Performs (plan : Result Plan Refusal) (z : Sizes) (h : Headers) (payload : List ℕ) (end : End) (received number index lengths held output : List ℕ)
    (r : Received) (received' number' index' lengths' held' output' : List ℕ) : Type 0 where
  pub answer_is : r.answer ≡ told plan (item_of h (length payload))
  pub acks_are : r.end.acks ≡ (acks_after plan z h end.acks received number).counters
  pub received_is : received' ≡ (acks_after plan z h end.acks received number).received
  pub number_is : number' ≡ (acks_after plan z h end.acks received number).number
  pub reassembly_is : r.end.reassembly ≡ end.reassembly
  pub ordering_is : r.end.ordering ≡ (ordered_by plan z.fragment_size h.arranging payload (lending_all end.ordering index lengths held)).counters
  pub index_is : index' ≡ (ordered_by plan z.fragment_size h.arranging payload (lending_all end.ordering index lengths held)).index
  pub lengths_are : lengths' ≡ (ordered_by plan z.fragment_size h.arranging payload (lending_all end.ordering index lengths held)).lengths
  pub held_are : held' ≡ (ordered_by plan z.fragment_size h.arranging payload (lending_all end.ordering index lengths held)).bytes
  pub sequencing_is : r.end.sequencing ≡ sequenced_by plan h.arranging end.sequencing
  pub output_is : output' ≡ handed (told plan (item_of h (length payload))) payload output

-- a packet has come
abbrev pub Accepts : Sizes → Headers → List ℕ → End → List ℕ → List ℕ → List ℕ → List ℕ → List ℕ → List ℕ → Received → List ℕ → List ℕ → List ℕ → List ℕ → List ℕ → List ℕ → Type 0
Accepts z h payload end received number index lengths held output =
    Performs (plan_of h end.ordering index end.sequencing) z h payload end received number index lengths held output

-- what a packet requires: enough storage, sound streams, a payload to F
pub record PacketReady (z : Sizes) (end : End) (received number index lengths held payload output : List ℕ) : Type 0 where
  pub slots : slot_count ≤ length received
  pub flying : z.packets_in_flight ≤ length number
  pub streams : RoomForAll z.fragment_size (lending_all end.ordering index lengths held)
  pub four : end.sequencing.known.made ≤ 4
  pub short : length payload ≤ z.fragment_size
  pub room : z.fragment_size ≤ length output

-- what a plan carries is the item's own
abbrev pub SequencedReady : Result Plan Refusal → SequencingStreams → Type 0
SequencedReady plan s = (q : Sequencing) → plan ≡ Ok (Sequenced q) → (q.at < 4) × (s.known.made ≤ 4)

abbrev pub OrderedReady : Result Plan Refusal → OrderingStreams → List ℕ → ArrangingHeader → Type 0
OrderedReady plan s index i =
    (p : Planned) → plan ≡ Ok (Ordered p) → (p.at < 4) × (p.plan ≡ item_plan (stream_at s p.at) (part index (p.at * 64) 64) i.index.0)
