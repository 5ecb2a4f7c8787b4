-- What every call keeps of an end, which a fresh end has, and with which the gate is open. Assumes nothing.
use Prim.Native.Nat.{ℕ, ◌+◌, ◌*◌, ◌≤◌, ◌<◌}
use mathlib.Core.Path.{◌≡◌, refl, sym, ap, ◌∙◌}
use mathlib.Core.Bool.{true, false}
use mathlib.Core.List.{List}
use native.Mathlib.Omega.{arith}
use lib.ListN.{length, get_or, take, length-replicate}
use borrow.Author.Tests.{le-ltb}
use Rattle.std.specs.Prelude.{Ok}
use Rattle.laws.proofs.Cases.{each}
use Rattle.terms.specs.Sizes.{in_range}
use Rattle.terms.specs.declared.Sizes.{Sizes}
use Rattle.terms.proofs.Ranges.{in_range_means}
use Rattle.sequence_buffer.specs.Buffer.{none, fresh}
use Rattle.acks.specs.Gate.{lent}
use Rattle.acknowledgment_laws.proofs.Unbroken.{Good, good_lent, good_sound, good_fresh}
use Rattle.reassembly.specs.Effects.{State as Parts}
use Rattle.reassembly_plan.specs.Gate.{too_short as parts_too_short, sound as parts_sound}
use Rattle.fragmenter.proofs.Keeping.{Keeps, kept_fresh, kept_sound}
use Rattle.ordering_plan.specs.State.{fresh as fresh_ordered}
use Rattle.ordering_plan.specs.declared.OrderingStream.{OrderingStream}
use Rattle.sequencing.specs.Sequence.{fresh as fresh_sequenced}
use Rattle.sequencing.specs.declared.SequencingStream.{SequencingStream}
use Rattle.arranging_plan.specs.Ordered.{States}
use Rattle.arranging_plan.specs.Gate.{too_short as ordered_too_short}
use Rattle.arranging.specs.declared.sequenced.SequencingStreams.{SequencingStreams}
use Rattle.arranging_plan.proofs.Gates.{long_enough}
use Rattle.arranging_laws.specs.Sound.{Whole, WholeIds}
use Rattle.arranging_laws.proofs.Theorems.{stays_sound}
use Rattle.ends.specs.State.{State, lending, fresh_end}
use Rattle.ends.specs.Gate.{is_lent, is_sound, gate_of}
use Rattle.ends.proofs.Opened.{Stored, stored_means, opens}
use Rattle.link_laws.specs.Never.{New}
use Rattle.link_laws.proofs.Lists.{replicate_each, take_replicate, take_long}

-- messages that 13 does not refuse, in enough storage
pub record KeptParts (z : Sizes) (p : Parts) : Type 0 where
  pub table : Keeps z p
  pub headers : z.reassembly_slots ≤ length p.header
  pub room : z.reassembly_slots * (16 * z.fragment_size) ≤ length p.bytes

-- streams that 13 does not refuse; the next identifier of each is a number of 16 bits
abbrev pub OrderedItem : OrderingStream → Type 0
OrderedItem t = t.next_item.0 < 65536

pub record KeptOrdered (f : ℕ) (s : States) : Type 0 where
  pub whole : Whole f s
  pub items : (k : ℕ) → OrderedItem (get_or s.counters.streams k fresh_ordered)

abbrev pub SequencedItem : SequencingStream → Type 0
SequencedItem t = t.next_item.0 < 65536

pub record KeptSequenced (s : SequencingStreams) : Type 0 where
  pub ids : WholeIds s.known
  pub items : (k : ℕ) → SequencedItem (get_or s.streams k fresh_sequenced)

pub record Kept (z : Sizes) (s : State) : Type 0 where
  pub acks : Good z s.acks
  pub parts : KeptParts z s.parts
  pub ordered : KeptOrdered z.fragment_size s.ordered
  pub sequenced : KeptSequenced s.sequenced

module _ (z : Sizes) (p : Parts) (k : KeptParts z p) where
  pub table_sound : parts_sound z.fragment_size (take z.reassembly_slots p.slots) p.entry ≡ true
  unfolding Keeps
  table_sound = kept_sound z.fragment_size z.reassembly_slots (take z.reassembly_slots p.slots) p.entry k.table

  enough : z.reassembly_slots ≤ length p.slots
  unfolding Keeps
  enough = take_long z.reassembly_slots p.slots k.table.home.long

  pub parts_long : (output : List ℕ) → 16 * z.fragment_size + 17 ≤ length output
      → parts_too_short z.fragment_size z.reassembly_slots p.slots p.entry p.header p.bytes output ≡ false
  unfolding parts_too_short Keeps
  parts_long output h =
      rw
      (le-ltb (length p.slots) z.reassembly_slots enough, le-ltb (length p.entry) z.reassembly_slots k.table.beside, le-ltb (length p.header) z.reassembly_slots k.headers, le-ltb (length p.bytes) (z.reassembly_slots * (16 * z.fragment_size)) k.room, le-ltb (length output) (16 * z.fragment_size + 17) h)

module _ (z : Sizes) (s : State) (r : in_range z ≡ true) (k : Kept z s) (output : List ℕ) (h : 16 * z.fragment_size + 17 ≤ length output) where
  ordered_long : ordered_too_short z.fragment_size s.ordered.index s.ordered.lengths s.ordered.bytes output ≡ false
  ordered_long =
      let w = k.ordered.whole in
      let b = w.bytes in
      long_enough z.fragment_size s.ordered.index s.ordered.lengths s.ordered.bytes output w.indices w.lengths (omega arith) h

  stays_lent : is_lent z s output ≡ true
  unfolding is_lent
  stays_lent = rw (good_lent z s.acks k.acks, parts_long z s.parts k.parts output h, ordered_long)

  stays_safe : is_sound z s ≡ true
  unfolding is_sound
  stays_safe = rw (good_sound z s.acks k.acks, table_sound z s.parts k.parts, k.ordered.whole.state, k.sequenced.ids.state)

  pub stays_open : gate_of z s output ≡ Ok tt
  stays_open = opens z s output r stays_lent stays_safe

-- a fresh end, with its tables written out
abbrev start : ℕ → ℕ → ℕ → State → State
start a b c s =
    lending fresh_end (fresh a) (fresh b) s.acks.records s.acks.bytes (fresh c) s.parts.entry s.parts.header s.parts.bytes s.ordered.index s.ordered.lengths s.ordered.bytes

module _ (z : Sizes) (a b c : ℕ) (s : State) (output : List ℕ) (r : in_range z ≡ true) (e : is_lent z (start a b c s) output ≡ true) where
  abbrev S : State
  S = start a b c s

  acks_lent : lent z (fresh a) (fresh b) s.acks.records s.acks.bytes ≡ true
  unfolding is_lent
  acks_lent = (each (lent z (fresh a) (fresh b) s.acks.records s.acks.bytes) _ e).0

  stored : Stored z S output
  stored = stored_means z S output e

  fresh_parts : KeptParts z S.parts
  fresh_parts =
      let p = stored.parts in
      record {
        table = kept_fresh z S.parts (record {
          num_zero = refl;
          slots_none = take_replicate none z.reassembly_slots c (omega (arith, p.slots_c, length-replicate c none));
          entries = p.entry_c;
        });
        headers = p.header_c;
        room = p.bytes_room;
      }

  fresh_ordered_lem : KeptOrdered z.fragment_size S.ordered
  fresh_ordered_lem =
      let p = stored.ordered in
      let l = p.bytes_room in
      record {
        whole = stays_sound.from_none z.fragment_size s.ordered.index s.ordered.lengths s.ordered.bytes (in_range_means z r).f.1 p.index_room p.lengths_room (omega arith);
        items = replicate_each OrderedItem fresh_ordered 4 (omega arith);
      }

  kept_start : Kept z S
  kept_start =
      record {
        acks = good_fresh z a b s.acks.records s.acks.bytes r acks_lent;
        parts = fresh_parts;
        ordered = fresh_ordered_lem;
        sequenced = record { ids = stays_sound.ids_from_none; items = replicate_each SequencedItem fresh_sequenced 4 (omega arith) };
      }

module _ (z : Sizes) (s : State) (output : List ℕ) (new : New z s output) where
  abbrev A : ℕ
  A = length s.acks.received

  abbrev B : ℕ
  B = length s.acks.number

  abbrev C : ℕ
  C = length s.parts.slots

  written_out : s ≡ start A B C s
  written_out = λ i.
      record {
        acks = record {
          counters = (new.counters i).acks;
          received = new.none_received i;
          number = new.none_in_flight i;
          records = s.acks.records;
          bytes = s.acks.bytes;
        };
        parts = record {
          num = (new.counters i).reassembly.0;
          slots = new.no_message i;
          entry = s.parts.entry;
          header = s.parts.header;
          bytes = s.parts.bytes;
        };
        ordered = record {
          counters = (new.counters i).ordering;
          index = s.ordered.index;
          lengths = s.ordered.lengths;
          bytes = s.ordered.bytes;
        };
        sequenced = (new.counters i).sequencing;
      }

  pub kept_new : Kept z s
  kept_new =
      rw written_out
      (kept_start z A B C s output new.sizes (ap (λ (t : State). is_lent z t output) (sym written_out) ∙ new.storage))
