-- Each way out has the rungs that led there; the first C slots are the table of messages. Nothing is received.
use mathlib.Core.Path.{◌≡◌, sym, ◌∙◌}
use mathlib.Core.Bool.{true}
use mathlib.Core.List.{[]}
use lib.ListN.{take}
use lib.Seq.{length-take-le}
use Rattle.terms.proofs.Ranges.{InRange, in_range_means}
use Rattle.acks.specs.Gate.{sound as acks_sound}
use Rattle.reassembly_plan.specs.Gate.{sound as parts_sound}
use Rattle.arranging_plan.specs.Ordered.{sound_all}
use Rattle.ends.specs.State.{State, lending}
use Rattle.ends.proofs.Rungs.{none_received, sound_acks, sound_parts, sound_ordered, sound_sequenced}
use Rattle.ends.proofs.gate.is_sound.Goals as goal
use Rattle.ends.proofs.gate.is_sound.Goals.{After-is_flight_sound, Else-not-is_flight_sound, Else-not-sound, Else-not-sound-2, Start}

abbrev whole : Start → State
whole c = lending c.args.end [] c.args.number.now [] [] c.args.slots.now c.args.entry.now [] [] c.args.index.now c.args.lengths.now []

ranges : (c : Start) → InRange c.args.sizes
ranges c = in_range_means c.args.sizes c.requires.0

flown : (c : After-is_flight_sound) → acks_sound c.args.sizes [] c.args.number.now ≡ c.is_flight_sound.result
flown c = none_received c.args.sizes c.args.number.now ∙ sym c.is_flight_sound.ensures

acks : (c : Else-not-is_flight_sound) → acks_sound c.args.sizes [] c.args.number.now ≡ true
acks c = (none_received c.args.sizes c.args.number.now ∙ sym c.is_flight_sound.ensures) ∙ c.if-not-is_flight_sound.false

parts : (c : Else-not-sound) → parts_sound c.args.sizes.fragment_size (take c.args.sizes.reassembly_slots c.args.slots.now) c.args.entry.now ≡ true
parts c = sym c.sound.ensures ∙ c.if-not-sound.false

ordered : (c : Else-not-sound-2) → sound_all c.args.sizes.fragment_size c.args.end.ordering c.args.index.now c.args.lengths.now ≡ true
ordered c = sym c.sound-2.ensures ∙ c.if-not-sound-2.false

pub returns-then-not-is_flight_sound : goal.returns-then-not-is_flight_sound
returns-then-not-is_flight_sound c =
    let s = (goal.at.returns-then-not-is_flight_sound c).Start in
    sym (sound_acks s.args.sizes (whole s) (flown (goal.at.returns-then-not-is_flight_sound c).After-is_flight_sound ∙ c.if-not-is_flight_sound.true))

pub slice_bounds-sound-end : goal.slice_bounds-sound-end
slice_bounds-sound-end c =
    let s = c in
    sym (length-take-le s.args.sizes.reassembly_slots s.args.slots.now s.requires.2)

pub sound-requires : goal.sound-requires
sound-requires c =
    let s = (goal.at.sound-requires c).Start in
    ((ranges s).f.1, rw (length-take-le s.args.sizes.reassembly_slots s.args.slots.now s.requires.2) s.requires.3)

pub returns-then-not-sound : goal.returns-then-not-sound
returns-then-not-sound c =
    let s = (goal.at.returns-then-not-sound c).Start in
    sym (sound_parts s.args.sizes (whole s) (acks (goal.at.returns-then-not-sound c).Else-not-is_flight_sound) (sym c.sound.ensures ∙ c.if-not-sound.true))

pub returns-then-not-sound-2 : goal.returns-then-not-sound-2
returns-then-not-sound-2 c =
    let s = (goal.at.returns-then-not-sound-2 c).Start in
    sym (sound_ordered s.args.sizes (whole s) (acks (goal.at.returns-then-not-sound-2 c).Else-not-is_flight_sound) (parts (goal.at.returns-then-not-sound-2 c).Else-not-sound) (sym c.sound-2.ensures ∙ c.if-not-sound-2.true))

pub returns : goal.returns
returns c =
    let s = (goal.at.returns c).Start in
    c.sound-3.ensures ∙ sym (sound_sequenced s.args.sizes (whole s) (acks (goal.at.returns c).Else-not-is_flight_sound) (parts (goal.at.returns c).Else-not-sound) (ordered (goal.at.returns c).Else-not-sound-2))
