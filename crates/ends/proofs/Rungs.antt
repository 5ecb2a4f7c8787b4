-- 2 and 13 module by module, in the code's order: each rung says what the whole is. Assumes nothing.
use mathlib.Core.Path.{◌≡◌, refl, ◌∙◌}
use mathlib.Core.List.{List, []}
use mathlib.Core.Bool.{Bool, true, false, not, ◌&&◌}
use Prim.Native.Nat.{ℕ}
use lib.ListN.{take}
use Rattle.keys.specs.Keys.{twice}
use Rattle.terms.specs.declared.Sizes.{Sizes}
use Rattle.received.specs.Record.{slots_of}
use Rattle.flight.specs.Places.{sound as flight_sound}
use Rattle.acks.specs.State.{table_of, slot_of}
use Rattle.acks.specs.Gate.{lent, sound as acks_sound}
use Rattle.reassembly_plan.specs.Gate.{too_short as parts_too_short, sound as parts_sound}
use Rattle.arranging_plan.specs.Ids.{sound_ids}
use Rattle.arranging_plan.specs.Ordered.{sound_all}
use Rattle.arranging_plan.specs.Gate.{too_short as ordered_too_short}
use Rattle.ends.specs.State.{State, lending, counters_of, fresh_end}
use Rattle.ends.specs.Gate.{is_lent, is_sound}

module _ (z : Sizes) (s : State) (output : List ℕ) where
  abbrev AcksLent : Bool
  AcksLent = lent z s.acks.received s.acks.number s.acks.records s.acks.bytes

  abbrev PartsShort : Bool
  PartsShort = parts_too_short z.fragment_size z.reassembly_slots s.parts.slots s.parts.entry s.parts.header s.parts.bytes output

  abbrev OrderedShort : Bool
  OrderedShort = ordered_too_short z.fragment_size s.ordered.index s.ordered.lengths s.ordered.bytes output

  pub lent_acks : AcksLent ≡ false → is_lent z s output ≡ false
  unfolding is_lent
  lent_acks a = rw a

  pub lent_parts : AcksLent ≡ true → PartsShort ≡ true → is_lent z s output ≡ false
  unfolding is_lent
  lent_parts a b = rw (a, b)

  pub lent_ordered : AcksLent ≡ true → PartsShort ≡ false → is_lent z s output ≡ not OrderedShort
  unfolding is_lent
  lent_ordered a b = rw (a, b)

  -- 2 is about no counters
  pub no_counters : is_lent z s output
      ≡ is_lent z (lending fresh_end s.acks.received s.acks.number s.acks.records s.acks.bytes s.parts.slots s.parts.entry s.parts.header s.parts.bytes s.ordered.index s.ordered.lengths s.ordered.bytes) output
  unfolding is_lent
  no_counters = refl

none_twice : not (twice (slots_of [])) ≡ true
unfolding twice
none_twice = refl

-- where nothing is received, what is in flight is all
pub none_received : (z : Sizes) (number : List ℕ) → acks_sound z [] number ≡ flight_sound (slot_of z) (table_of z number)
unfolding acks_sound
none_received z number = rw none_twice

regroup : (a b c : Bool) → (a && b) && c ≡ a && (b && c)
regroup true b c = refl
regroup false b c = refl

and_no : (a : Bool) → a && false ≡ false
and_no true = refl
and_no false = refl

module _ (z : Sizes) (s : State) where
  abbrev AcksSound : Bool
  AcksSound = acks_sound z s.acks.received s.acks.number

  abbrev PartsSound : Bool
  PartsSound = parts_sound z.fragment_size (take z.reassembly_slots s.parts.slots) s.parts.entry

  abbrev OrderedSound : Bool
  OrderedSound = sound_all z.fragment_size s.ordered.counters s.ordered.index s.ordered.lengths

  pub sound_acks : AcksSound ≡ false → is_sound z s ≡ false
  unfolding is_sound
  sound_acks a = rw a

  pub sound_parts : AcksSound ≡ true → PartsSound ≡ false → is_sound z s ≡ false
  unfolding is_sound
  sound_parts a b = rw (a, b)

  pub sound_ordered : AcksSound ≡ true → PartsSound ≡ true → OrderedSound ≡ false → is_sound z s ≡ false
  unfolding is_sound
  sound_ordered a b d = rw (a, b, d)

  pub sound_sequenced : AcksSound ≡ true → PartsSound ≡ true → OrderedSound ≡ true → is_sound z s ≡ sound_ids s.sequenced.known
  unfolding is_sound
  sound_sequenced a b d = rw (a, b, d)

  -- 13 is about no bytes, nor about the headers beside messages; its rule for the received record stands by itself
  abbrev pub RecordSound : Bool
  RecordSound = not (twice (slots_of s.acks.received))

  abbrev pub RestSound : Bool
  RestSound = is_sound z (lending (counters_of s) [] s.acks.number [] [] s.parts.slots s.parts.entry [] [] s.ordered.index s.ordered.lengths [])

  record_apart : is_sound z s ≡ RecordSound && RestSound
  unfolding is_sound acks_sound
  record_apart = rw none_twice (regroup RecordSound _ _)

  pub rest_unsound : RestSound ≡ false → is_sound z s ≡ false
  rest_unsound b = record_apart ∙ rw b (and_no RecordSound)

  pub record_unsound : RecordSound ≡ false → is_sound z s ≡ false
  record_unsound a = record_apart ∙ rw a

  pub both_sound : RecordSound ≡ true → RestSound ≡ true → is_sound z s ≡ true
  both_sound a b = record_apart ∙ rw (a, b)
