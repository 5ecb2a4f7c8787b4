-- Document 01, module 7: "Sending: a reliable item takes one packet number, also when it goes as fragments." "A resend .. is checked
-- in the sending order, takes a new packet number and keeps its item identifier."
use Rattle.std.specs.Prelude.{ℕ, ◌+◌, ◌*◌, ◌≤◌, ◌<◌, ◌≡◌, true, false, List, length, set, Result, Ok, Err}
use Rattle.std.proofs.Math.Seq.{paste}
use Rattle.serial.specs.declared.ItemId.{ItemId}
use Rattle.terms.specs.Sizes.{in_range}
use Rattle.terms.specs.Refusals.{number_of}
use Rattle.terms.specs.declared.Sizes.{Sizes}
use Rattle.received.specs.Record.{slot_count}
use Rattle.flight.specs.Entry.{word_of, packed}
use Rattle.flight.specs.declared.SentPacket.{SentPacket}
use Rattle.acks.specs.State.{State as Acks, table_of, sent_one}
use Rattle.acks.specs.declared.Acknowledgment.{Acknowledgment}
use Rattle.packet_table.specs.Table.{ordering_number}
use Rattle.packet_table.specs.declared.DeliveryGuarantee.{DeliveryGuarantee}
use Rattle.packet_table.specs.declared.DeliveryGuarantee.TheVariants.{Unreliable, Reliable}
use Rattle.packet_table.specs.declared.OrderingGuarantee.{OrderingGuarantee}
use Rattle.packet_table.specs.declared.OrderingGuarantee.TheVariants.{None, Sequenced, Ordered}
use Rattle.splitter.specs.Split.{needed}
use Rattle.arranging_plan.specs.Ids.{made_at}
use Rattle.arranging_plan.specs.Ordered.{stream_at as ordered_at}
use Rattle.arranging.specs.Steps.{numbered_at as numbered_ordered}
use Rattle.arranging.specs.Sequenced.{stream_at as sequenced_at, stored_at, numbered_at as numbered_sequenced}
use Rattle.arranging_plan.specs.declared.ordered.OrderingStreams.{OrderingStreams}
use Rattle.arranging.specs.declared.ordered.NewItem.{NewItem as NewOrdered}
use Rattle.arranging.specs.declared.sequenced.SequencingStreams.{SequencingStreams}
use Rattle.arranging.specs.declared.sequenced.NewItem.{NewItem as NewSequenced}
use Rattle.ends.specs.State.{State, counters_of, Leaves}
use Rattle.ends.specs.declared.End.{End}
use Rattle.sending.specs.Plan.{plan_of, is_long}
use Rattle.packet.specs.Build.{over}
use Rattle.datagrams.specs.Datagrams.{datagram_for, count_of}
use Rattle.datagrams.specs.declared.Item.{Item}
use Rattle.datagrams.specs.declared.Identifier.{Identifier}
use Rattle.datagrams.specs.declared.Identifier.TheVariants.{Next, Again}
use Rattle.sending.specs.declared.Sent.{Sent}
use Rattle.sending.specs.declared.effects.Identified.{Identified}
use Rattle.sending.specs.declared.plan.Sending.{Sending}
use Rattle.terms.specs.declared.Refusal.{Refusal}
use Rattle.sending.specs.declared.Written.{Written}

-- "each sending stream numbers its own items from 0, adding one with wrap-around at each accepted send that is no resend"; either
-- way a stream is made by its first accepted item
abbrev pub sequenced_as : Identifier → SequencingStreams → ℕ → ℕ → NewSequenced
sequenced_as Next s j id = numbered_sequenced s j id
sequenced_as (Again item) s j id = record { item = item; streams = stored_at s j id (sequenced_at s j) }

abbrev pub ordered_as : Identifier → OrderingStreams → ℕ → ℕ → NewOrdered
ordered_as Next s j id = numbered_ordered s j id
ordered_as (Again item) s j id =
    record { item = item; streams = record { known = made_at s.known j id; streams = set s.streams j (ordered_at s j) } }

abbrev pub identified_by : OrderingGuarantee → Item → ℕ → OrderingStreams → SequencingStreams → Identified
identified_by None i j ordered sequenced = record { item = record { 0 = 0 }; ordering = ordered; sequencing = sequenced }
identified_by Sequenced i j ordered sequenced =
    record {
      item = (sequenced_as i.identifier sequenced j i.stream).item;
      ordering = ordered;
      sequencing = (sequenced_as i.identifier sequenced j i.stream).streams;
    }
identified_by Ordered i j ordered sequenced =
    record {
      item = (ordered_as i.identifier ordered j i.stream).item;
      ordering = (ordered_as i.identifier ordered j i.stream).streams;
      sequencing = sequenced;
    }

abbrev pub identified_of : Item → ℕ → OrderingStreams → SequencingStreams → Identified
identified_of i j ordered sequenced = identified_by i.ordering i j ordered sequenced

-- what is kept of a packet beside its payload
abbrev pub record_of : Item → ItemId → SentPacket
record_of i id = record { ordering = ordering_number i.ordering; stream = i.stream; item = id }

-- what is kept in flight
pub record Kept : Type 0 where
  pub counters : Acknowledgment
  pub number : List ℕ
  pub records : List ℕ
  pub bytes : List ℕ

-- `process_outgoing`, where the packet is reliable
abbrev pub kept_by : DeliveryGuarantee → Acknowledgment → ℕ → ℕ → List ℕ → List ℕ → List ℕ → SentPacket → List ℕ → Kept
kept_by Unreliable c f at number records bytes sent payload = record { counters = c; number = number; records = records; bytes = bytes }
kept_by Reliable c f at number records bytes sent payload =
    record {
      counters = sent_one c;
      number = set number at (word_of c.sequence_number.0 (length payload));
      records = set records at (packed sent);
      bytes = paste bytes (at * (16 * f)) payload (length payload);
    }

pub record Keeping (t : Kept) (counters : Acknowledgment) (number records bytes : List ℕ) : Type 0 where
  pub counters_are : counters ≡ t.counters
  pub number_is : number ≡ t.number
  pub records_are : records ≡ t.records
  pub bytes_are : bytes ≡ t.bytes

-- what a plan that refuses nothing answers and leaves
abbrev pub identified_in : End → Item → Sending → Identified
identified_in end i q = identified_of i q.stream end.ordering end.sequencing

abbrev pub kept_in : Sizes → End → List ℕ → List ℕ → List ℕ → Item → Sending → List ℕ → Kept
kept_in z end number records bytes i q payload =
    kept_by i.delivery end.acks z.fragment_size q.at number records bytes (record_of i (identified_in end i q).item) payload

abbrev pub datagram_in : Sizes → End → List ℕ → Item → Sending → List ℕ → List ℕ
datagram_in z end received i q payload = datagram_for z.version z.fragment_size i (identified_in end i q).item end.acks received payload

abbrev pub answer_for : Sizes → End → List ℕ → Item → Sending → List ℕ → Result Written Refusal
answer_for z end received i q payload =
    Ok (record {
      number = end.acks.sequence_number;
      datagrams = count_of z.fragment_size (length payload);
      length = length (datagram_in z end received i q payload);
    })

pub record Performs (z : Sizes) (end : End) (received number records bytes : List ℕ) (i : Item) (q : Sending) (payload output : List ℕ)
    (r : Sent) (number' records' bytes' output' : List ℕ) : Type 0 where
  pub answer_is : r.answer ≡ answer_for z end received i q payload
  pub acks_are : r.end.acks ≡ (kept_in z end number records bytes i q payload).counters
  pub number_is : number' ≡ (kept_in z end number records bytes i q payload).number
  pub records_are : records' ≡ (kept_in z end number records bytes i q payload).records
  pub bytes_are : bytes' ≡ (kept_in z end number records bytes i q payload).bytes
  pub reassembly_is : r.end.reassembly ≡ end.reassembly
  pub ordering_is : r.end.ordering ≡ (identified_in end i q).ordering
  pub sequencing_is : r.end.sequencing ≡ (identified_in end i q).sequencing
  pub output_is : output' ≡ over (datagram_in z end received i q payload) output

-- what that requires: enough storage, sound streams, and an item that no rung of the plan refuses
pub record SendReady (z : Sizes) (end : End) (received number records bytes : List ℕ) (i : Item) (q : Sending) (payload output : List ℕ) : Type 0 where
  pub range : in_range z ≡ true
  pub slots : slot_count ≤ length received
  pub places : z.packets_in_flight ≤ length number
  pub beside : z.packets_in_flight ≤ length records
  pub room : z.packets_in_flight * (16 * z.fragment_size) ≤ length bytes
  pub four_ordered : end.ordering.known.made ≤ 4
  pub four_sequenced : end.sequencing.known.made ≤ 4
  pub short : is_long z.fragment_size i (length payload) ≡ false
  pub few : needed (length payload) z.fragment_size ≤ z.max_fragments
  pub at_place : q.at < z.packets_in_flight
  pub on_stream_lem : q.stream < 4
  pub wide : 16 * z.fragment_size + 17 ≤ length output

-- what a call answers, and what it leaves of the end and of the output
pub record Step : Type 0 where
  pub answer : Result Written Refusal
  pub end : State
  pub output : List ℕ

abbrev pub keeping : Kept → Acks → Acks
keeping t a = record { counters = t.counters; received = a.received; number = t.number; records = t.records; bytes = t.bytes }

abbrev pub transmitted_as : Result Sending Refusal → Sizes → State → Item → List ℕ → List ℕ → Step
transmitted_as (Err why) z s i payload output = record { answer = Err why; end = s; output = output }
transmitted_as (Ok q) z s i payload output =
    record {
      answer = answer_for z (counters_of s) s.acks.received i q payload;
      end = record {
        acks = keeping (kept_in z (counters_of s) s.acks.number s.acks.records s.acks.bytes i q payload) s.acks;
        parts = s.parts;
        ordered = record {
          counters = (identified_in (counters_of s) i q).ordering;
          index = s.ordered.index;
          lengths = s.ordered.lengths;
          bytes = s.ordered.bytes;
        };
        sequenced = (identified_in (counters_of s) i q).sequencing;
      };
      output = over (datagram_in z (counters_of s) s.acks.received i q payload) output;
    }

unfoldable pub transmitted_of : Sizes → State → Item → List ℕ → List ℕ → Step
transmitted_of z s i payload output =
    transmitted_as (plan_of z s.acks.counters.sequence_number.0 s.ordered.counters s.sequenced (table_of z s.acks.number) i (length payload))
    z s i payload output

-- a call answers and leaves that
pub record Sends (t : Step) (r : Sent) (received number records payloads slots entry header joined index lengths held output : List ℕ) : Type 0 where
  pub answer_is : r.answer ≡ t.answer
  pub leaves : Leaves t.end r.end received number records payloads slots entry header joined index lengths held
  pub output_is : output ≡ t.output

-- 01's number for each answer, 0 where nothing is refused
abbrev pub number_of_sent : Result Written Refusal → ℕ
number_of_sent (Ok d) = 0
number_of_sent (Err why) = number_of why
