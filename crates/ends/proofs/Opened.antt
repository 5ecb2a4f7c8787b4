-- The gate of a whole end rung by rung, and what an open gate gives to the crates above. Assumes nothing.
use Prim.Native.Nat.{ℕ, ◌+◌, ◌*◌, ◌≤◌}
use mathlib.Core.Path.{◌≡◌, sym, ◌∙◌}
use mathlib.Core.List.{List}
use mathlib.Core.Bool.{true, false, not}
use native.Mathlib.Omega.{arith}
use lib.ListN.{length, take}
use lib.Seq.{length-take-le}
use Rattle.std.specs.Prelude.{Ok, Err}
use Rattle.laws.proofs.Cases.{case, each, no_answer, off}
use Rattle.keys.specs.Keys.{twice}
use Rattle.terms.specs.Sizes.{in_range}
use Rattle.terms.specs.declared.Sizes.{Sizes}
use Rattle.terms.specs.declared.Refusal.TheVariants.{BadSizes, BadStorage, BadState}
use Rattle.terms.proofs.Ranges.{InRange, in_range_means}
use Rattle.received.specs.Record.{slots_of}
use Rattle.flight.specs.Lost.{Table}
use Rattle.flight.specs.Places.{sound as flight_sound}
use Rattle.acks.specs.Gate.{lent, sound as acks_sound}
use Rattle.acks.proofs.Gates.{Lent, lent_means, sound_means}
use Rattle.reassembly_plan.specs.Gate.{too_short as parts_too_short, sound as parts_sound}
use Rattle.reassembly.specs.Call.{stated}
use Rattle.reassembly.specs.Room.{Room}
use Rattle.reassembly_plan.proofs.Opening.{Long as PartsLong, long_enough as parts_long}
use Rattle.reassembly.proofs.Passing.{open_room}
use Rattle.arranging_plan.specs.Ids.{sound_ids}
use Rattle.arranging_plan.specs.Ordered.{RoomForAll, sound_all}
use Rattle.arranging_plan.proofs.Sound.{ids_four}
use Rattle.arranging_plan.proofs.Gates.{Long as OrderedLong, long_means as ordered_long, long_room}
use Rattle.ends.specs.State.{State}
use Rattle.ends.specs.Gate.{is_lent, is_sound, gate_of}

-- not 2, module by module
pub record Stored (z : Sizes) (s : State) (output : List ℕ) : Type 0 where
  pub acks : Lent z s.acks.received s.acks.number s.acks.records s.acks.bytes
  pub parts : PartsLong z.fragment_size z.reassembly_slots s.parts.slots s.parts.entry s.parts.header s.parts.bytes output
  pub ordered : OrderedLong z.fragment_size s.ordered.index s.ordered.lengths s.ordered.bytes output

-- not 13, module by module
pub record AllSound (z : Sizes) (s : State) : Type 0 where
  pub acks : acks_sound z s.acks.received s.acks.number ≡ true
  pub parts : parts_sound z.fragment_size (take z.reassembly_slots s.parts.slots) s.parts.entry ≡ true
  pub ordered : sound_all z.fragment_size s.ordered.counters s.ordered.index s.ordered.lengths ≡ true
  pub sequenced : sound_ids s.sequenced.known ≡ true

pub stored_means : (z : Sizes) (s : State) (output : List ℕ) → is_lent z s output ≡ true → Stored z s output
unfolding is_lent
stored_means z s output e =
    let p = each (lent z s.acks.received s.acks.number s.acks.records s.acks.bytes) _ e in
    let q = each (not (parts_too_short z.fragment_size z.reassembly_slots s.parts.slots s.parts.entry s.parts.header s.parts.bytes output)) _ p.1 in
    record {
      acks = lent_means z s.acks.received s.acks.number s.acks.records s.acks.bytes p.0;
      parts = parts_long z.fragment_size z.reassembly_slots s.parts.slots s.parts.entry s.parts.header s.parts.bytes output (off _ q.0);
      ordered = ordered_long z.fragment_size s.ordered.index s.ordered.lengths s.ordered.bytes output (off _ q.1);
    }

pub all_sound : (z : Sizes) (s : State) → is_sound z s ≡ true → AllSound z s
unfolding is_sound
all_sound z s e =
    let p = each (acks_sound z s.acks.received s.acks.number) _ e in
    let q = each (parts_sound z.fragment_size (take z.reassembly_slots s.parts.slots) s.parts.entry) _ p.1 in
    let r = each (sound_all z.fragment_size s.ordered.counters s.ordered.index s.ordered.lengths) _ q.1 in
    record { acks = p.0; parts = q.0; ordered = r.0; sequenced = r.1 }

module _ (z : Sizes) (s : State) (output : List ℕ) where
  pub gate_sizes : in_range z ≡ false → gate_of z s output ≡ Err BadSizes
  unfolding gate_of
  gate_sizes e = rw e

  pub gate_storage : in_range z ≡ true → is_lent z s output ≡ false → gate_of z s output ≡ Err BadStorage
  unfolding gate_of
  gate_storage e l = rw (e, l)

  pub gate_state : in_range z ≡ true → is_lent z s output ≡ true → is_sound z s ≡ false → gate_of z s output ≡ Err BadState
  unfolding gate_of
  gate_state e l h = rw (e, l, h)

  pub opens : in_range z ≡ true → is_lent z s output ≡ true → is_sound z s ≡ true → gate_of z s output ≡ Ok tt
  unfolding gate_of
  opens e l h = rw (e, l, h)

-- what an open gate gives; F, N and C are the sizes, and the first N and the first C of what is lent are the tables
pub record Opened (z : Sizes) (s : State) (output : List ℕ) : Type 0 where
  pub ranged : in_range z ≡ true
  pub is_lent_lem : is_lent z s output ≡ true
  pub is_sound_lem : is_sound z s ≡ true
  pub within_range : InRange z
  pub received_room : 33 ≤ length s.acks.received
  pub number_room : z.packets_in_flight ≤ length s.acks.number
  pub records_room : z.packets_in_flight ≤ length s.acks.records
  pub payloads_room : z.packets_in_flight * (16 * z.fragment_size) ≤ length s.acks.bytes
  pub flight : Table (16 * z.fragment_size) (take z.packets_in_flight s.acks.number) s.acks.records s.acks.bytes
  pub flight_sound_lem : flight_sound (16 * z.fragment_size) (take z.packets_in_flight s.acks.number) ≡ true
  pub once_received : twice (slots_of s.acks.received) ≡ false
  pub slots_room : z.reassembly_slots ≤ length s.parts.slots
  pub parts : Room z.fragment_size (stated z.reassembly_slots s.parts) output
  pub ordered : RoomForAll z.fragment_size s.ordered
  pub sequenced : sound_ids s.sequenced.known ≡ true
  pub four : s.sequenced.known.made ≤ 4
  pub output_room : 16 * z.fragment_size + 17 ≤ length output

module _ (z : Sizes) (s : State) (output : List ℕ) where
  abbrev F : ℕ
  F = z.fragment_size

  abbrev N : ℕ
  N = z.packets_in_flight

  flight_table : InRange z → Stored z s output → AllSound z s → Table (16 * F) (take N s.acks.number) s.acks.records s.acks.bytes
  flight_table r t h =
      let e = length-take-le N s.acks.number t.acks.numbers in
      record {
        small = omega (arith, r.f);
        few = rw e r.n.1;
        recorded = rw e t.acks.recorded;
        slots = rw e t.acks.room;
        fits = (sound_means z s.acks.received s.acks.number h.acks).fits;
      }

  flight_once : AllSound z s → flight_sound (16 * F) (take N s.acks.number) ≡ true
  unfolding acks_sound
  flight_once h = (each (not (twice (slots_of s.acks.received))) _ h.acks).1

  parts_room : InRange z → Stored z s output → AllSound z s → Room F (stated z.reassembly_slots s.parts) output
  parts_room r t h =
      open_room z s.parts.slots s.parts.entry s.parts.header s.parts.bytes output s.parts.num
      (record { within_range = r; long = t.parts; is_sound_lem = h.parts })

  past : in_range z ≡ true → is_lent z s output ≡ true → is_sound z s ≡ true → Opened z s output
  past a b d =
      let r = in_range_means z a in
      let t = stored_means z s output b in
      let h = all_sound z s d in
      record {
        ranged = a;
        is_lent_lem = b;
        is_sound_lem = d;
        within_range = r;
        received_room = t.acks.slots;
        number_room = t.acks.numbers;
        records_room = t.acks.recorded;
        payloads_room = t.acks.room;
        flight = flight_table r t h;
        flight_sound_lem = flight_once h;
        once_received = (sound_means z s.acks.received s.acks.number h.acks).once_received;
        slots_room = t.parts.slots_c;
        parts = parts_room r t h;
        ordered = long_room F s.ordered output r.f.1 t.ordered h.ordered;
        sequenced = h.sequenced;
        four = ids_four s.sequenced.known h.sequenced;
        output_room = t.parts.output_room;
      }

pub opened : (z : Sizes) (s : State) (output : List ℕ) → gate_of z s output ≡ Ok tt → Opened z s output
opened z s output e =
    case (in_range z)
    (λ a.
    case (is_lent z s output)
    (λ b.
    case (is_sound z s)
    (λ d. past z s output a b d)
    (λ d. no_answer (sym (gate_state z s output a b d) ∙ e)))
    (λ b. no_answer (sym (gate_storage z s output a b) ∙ e)))
    (λ a. no_answer (sym (gate_sizes z s output a) ∙ e))
