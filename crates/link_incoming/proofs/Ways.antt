-- The two ways of each call. Where the gate is shut everything stays as it was; where it is open the call does what the crate below
-- it says. Assumes nothing.
use Prim.Native.Nat.{ℕ}
use mathlib.Core.Path.{◌≡◌, refl}
use mathlib.Core.List.{List}
use Rattle.std.specs.Prelude.{Ok, Err}
use Rattle.terms.specs.declared.Sizes.{Sizes}
use Rattle.terms.specs.declared.Refusal.{Refusal}
use Rattle.arranging_plan.specs.Ordered.{next_on}
use Rattle.arranging.specs.Steps.{TakesOn}
use Rattle.arranging.specs.declared.ordered.AfterTake.{AfterTake}
use Rattle.ends.specs.State.{State, counters_of, Leaves}
use Rattle.ends.specs.Gate.{gate_of}
use Rattle.receiving.specs.Receive.{refused as receive_refused, received_of, Receives}
use Rattle.link_incoming.specs.Calls.{receive_of, taken_by, take_of, Takes}

-- what nothing was written to is left as it was
pub unchanged : (s : State) → Leaves s (counters_of s) s.acks.received s.acks.number s.acks.records s.acks.bytes s.parts.slots s.parts.entry s.parts.header s.parts.bytes s.ordered.index s.ordered.lengths s.ordered.bytes
unchanged s =
    record {
      end_is = refl;
      received_is = refl;
      number_is = refl;
      records_are = refl;
      payloads_are = refl;
      slots_are = refl;
      entry_is = refl;
      header_is = refl;
      joined_are = refl;
      index_is = refl;
      lengths_are = refl;
      held_are = refl;
    }

module _ (z : Sizes) (s : State) (output : List ℕ) where
  take_refused : (why : Refusal) (id : ℕ) → gate_of z s output ≡ Err why → take_of z s id output ≡ record { answer = Err why; end = s; output = output }
  unfolding take_of
  take_refused why id e = rw e

  take_opened : (id : ℕ) → gate_of z s output ≡ Ok tt → take_of z s id output ≡ taken_by (next_on z.fragment_size s.ordered id) z.fragment_size s id output
  unfolding take_of
  take_opened id e = rw e

  pub take_shut : (why : Refusal) (id : ℕ) → gate_of z s output ≡ Err why
      → Takes (take_of z s id output) (record { end = counters_of s; answer = Err why }) s.acks.received s.acks.number s.acks.records s.acks.bytes s.parts.slots s.parts.entry s.parts.header s.parts.bytes s.ordered.index s.ordered.lengths s.ordered.bytes output
  take_shut why id e = rw (take_refused why id e) (record { answer_is = refl; leaves = unchanged s; output_is = refl })

  -- only the ordered streams change
  pub take_open : (id : ℕ) (r : AfterTake) (index lengths held out : List ℕ) → gate_of z s output ≡ Ok tt
      → TakesOn z.fragment_size s.ordered id output r index lengths held out
      → Takes (take_of z s id output) (record { end = record { acks = s.acks.counters; reassembly = record { 0 = s.parts.num }; ordering = r.streams; sequencing = s.sequenced }; answer = r.answer }) s.acks.received s.acks.number s.acks.records s.acks.bytes s.parts.slots s.parts.entry s.parts.header s.parts.bytes index lengths held out
  take_open id r index lengths held out e t =
      rw (take_opened id e)
      (record {
        answer_is = t.answer_is;
        leaves = record {
          end_is = λ i. record { acks = s.acks.counters; reassembly = record { 0 = s.parts.num }; ordering = t.leaves.counters_are i; sequencing = s.sequenced };
          received_is = refl;
          number_is = refl;
          records_are = refl;
          payloads_are = refl;
          slots_are = refl;
          entry_is = refl;
          header_is = refl;
          joined_are = refl;
          index_is = t.leaves.index_is;
          lengths_are = t.leaves.lengths_are;
          held_are = t.leaves.bytes_are;
        };
        output_is = t.output_is;
      })

  receive_refused_lem : (why : Refusal) (d : List ℕ) → gate_of z s output ≡ Err why → receive_of z s d output ≡ receive_refused why s output
  unfolding receive_of
  receive_refused_lem why d e = rw e

  pub receive_shut : (why : Refusal) (d : List ℕ) → gate_of z s output ≡ Err why
      → Receives (receive_of z s d output) (record { end = counters_of s; answer = Err why }) s.acks.received s.acks.number s.acks.records s.acks.bytes s.parts.slots s.parts.entry s.parts.header s.parts.bytes s.ordered.index s.ordered.lengths s.ordered.bytes output
  receive_shut why d e = rw (receive_refused_lem why d e) (record { answer_is = refl; leaves = unchanged s; output_is = refl })

  pub receive_open : (d : List ℕ) → gate_of z s output ≡ Ok tt → receive_of z s d output ≡ received_of z s d output
  unfolding receive_of
  receive_open d e = rw e
