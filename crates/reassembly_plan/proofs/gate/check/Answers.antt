use mathlib.Core.Path.{◌≡◌, sym, ◌∙◌}
use mathlib.Core.Bool.{true}
use lib.Seq.{length-take-le}
use Rattle.terms.specs.Sizes.{in_range}
use Rattle.terms.proofs.Ranges.{InRange, in_range_means}
use Rattle.reassembly_plan.specs.Gate.{gate_of}
use Rattle.reassembly_plan.proofs.Opening.{Long, long_enough}
use Rattle.reassembly_plan.proofs.gate.check.Goals as goal
use Rattle.reassembly_plan.proofs.gate.check.Goals.{Else-not-in_range, Else-too_short}

ranged : (c : Else-not-in_range) → in_range c.args.sizes ≡ true
ranged c = rw (← c.in_range.ensures) (c.if-not-in_range.false)

ranges : (c : Else-not-in_range) → InRange c.args.sizes
ranges c = in_range_means c.args.sizes (ranged c)

longs : (c : Else-too_short) → Long c.args.sizes.fragment_size c.args.sizes.reassembly_slots c.args.slots.now c.args.entry.now c.args.header.now c.args.bytes.now c.args.output.now
longs c = long_enough _ _ c.args.slots.now c.args.entry.now c.args.header.now c.args.bytes.now c.args.output.now (sym c.too_short.ensures ∙ c.if-too_short.false)

pub returns-then-not-in_range : goal.returns-then-not-in_range
unfolding gate_of
returns-then-not-in_range c = rw (← c.in_range.ensures, c.if-not-in_range.true)

pub too_short-requires : goal.too_short-requires
too_short-requires c = ((ranges c).f.1, (ranges c).c.1)

pub returns-then-too_short : goal.returns-then-too_short
unfolding gate_of
returns-then-too_short c = rw (ranged (goal.at.returns-then-too_short c).Else-not-in_range, ← c.too_short.ensures, c.if-too_short.true)

pub slice_bounds-sound-end : goal.slice_bounds-sound-end
slice_bounds-sound-end c = sym (length-take-le c.args.sizes.reassembly_slots c.args.slots.now (longs (goal.at.slice_bounds-sound-end c).Else-too_short).slots_c)

pub sound-requires : goal.sound-requires
sound-requires c =
    let l = longs (goal.at.sound-requires c).Else-too_short in
    ((ranges (goal.at.sound-requires c).Else-not-in_range).f.1, rw (length-take-le c.args.sizes.reassembly_slots c.args.slots.now l.slots_c) l.entry_c)

pub returns-then-not-sound : goal.returns-then-not-sound
unfolding gate_of
returns-then-not-sound c = rw (ranged (goal.at.returns-then-not-sound c).Else-not-in_range, ← c.too_short.ensures, c.if-too_short.false, ← c.sound.ensures, c.if-not-sound.true)

pub returns : goal.returns
unfolding gate_of
returns c = rw (ranged (goal.at.returns c).Else-not-in_range, ← c.too_short.ensures, c.if-too_short.false, ← c.sound.ensures, c.if-not-sound.false)
