-- One end of a link, whole: its counters, and what its owner lends. Each part is a module's own state, under that module's names.
use Rattle.std.specs.Prelude.{◌≡◌, List, ℕ}
use Rattle.acks.specs.State.{State as Acks, fresh_counters}
use Rattle.reassembly.specs.Effects.{State as Parts}
use Rattle.arranging_plan.specs.Ordered.{States, no_streams as no_ordered}
use Rattle.arranging.specs.Sequenced.{no_streams as no_sequenced}
use Rattle.arranging.specs.declared.sequenced.SequencingStreams.{SequencingStreams}
use Rattle.ends.specs.declared.End.{End}

pub record State : Type 0 where
  -- packets received and in flight
  pub acks : Acks
  -- messages that are put together from fragments
  pub parts : Parts
  -- ordered streams, and sequenced ones
  pub ordered : States
  pub sequenced : SequencingStreams

-- the counters, and what is lent: of packets received and in flight; of messages; of items that wait on ordered streams
abbrev pub lending : End → List ℕ → List ℕ → List ℕ → List ℕ → List ℕ → List ℕ → List ℕ → List ℕ → List ℕ → List ℕ → List ℕ → State
lending end received number records payloads slots entry header joined index lengths held =
    record {
      acks = record { counters = end.acks; received = received; number = number; records = records; bytes = payloads };
      parts = record { num = end.reassembly.0; slots = slots; entry = entry; header = header; bytes = joined };
      ordered = record { counters = end.ordering; index = index; lengths = lengths; bytes = held };
      sequenced = end.sequencing;
    }

abbrev pub counters_of : State → End
counters_of s =
    record { acks = s.acks.counters; reassembly = record { 0 = s.parts.num }; ordering = s.ordered.counters; sequencing = s.sequenced }

-- what a call leaves, in the counters and in each buffer, is s
pub record Leaves (s : State) (end : End) (received number records payloads slots entry header joined index lengths held : List ℕ) : Type 0 where
  pub end_is : end ≡ counters_of s
  pub received_is : received ≡ s.acks.received
  pub number_is : number ≡ s.acks.number
  pub records_are : records ≡ s.acks.records
  pub payloads_are : payloads ≡ s.acks.bytes
  pub slots_are : slots ≡ s.parts.slots
  pub entry_is : entry ≡ s.parts.entry
  pub header_is : header ≡ s.parts.header
  pub joined_are : joined ≡ s.parts.bytes
  pub index_is : index ≡ s.ordered.index
  pub lengths_are : lengths ≡ s.ordered.lengths
  pub held_are : held ≡ s.ordered.bytes

abbrev pub fresh_end : End
fresh_end = record { acks = fresh_counters; reassembly = record { 0 = 0 }; ordering = no_ordered; sequencing = no_sequenced }
