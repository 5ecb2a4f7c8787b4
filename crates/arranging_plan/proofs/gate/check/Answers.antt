use mathlib.Core.Path.{sym, ◌∙◌}
use Rattle.ordering_plan.proofs.Gates.{size_high}
use Rattle.arranging_plan.specs.Gate.{gate_of}
use Rattle.arranging_plan.proofs.Gates.{long_means}
use Rattle.arranging_plan.proofs.gate.check.Goals as goal

pub returns-then-not-in_range : goal.returns-then-not-in_range
unfolding gate_of
returns-then-not-in_range c = rw (← c.in_range.ensures, c.if-not-in_range.true)

pub too_short-requires : goal.too_short-requires
too_short-requires c = size_high c.args.sizes (sym c.in_range.ensures ∙ c.if-not-in_range.false)

pub returns-then-too_short : goal.returns-then-too_short
unfolding gate_of
returns-then-too_short c = rw (← c.in_range.ensures, c.if-not-in_range.false, ← c.too_short.ensures, c.if-too_short.true)

pub sound-requires : goal.sound-requires
sound-requires c =
    let l = long_means c.args.sizes.fragment_size c.args.index.now c.args.lengths.now c.args.bytes.now c.args.output.now (sym c.too_short.ensures ∙ c.if-too_short.false) in
    (l.index_room, l.lengths_room)

pub returns-then-not-sound : goal.returns-then-not-sound
unfolding gate_of
returns-then-not-sound c = rw (← c.in_range.ensures, c.if-not-in_range.false, ← c.too_short.ensures, c.if-too_short.false, ← c.sound.ensures, c.if-not-sound.true)

pub returns : goal.returns
unfolding gate_of
returns c = rw (← c.in_range.ensures, c.if-not-in_range.false, ← c.too_short.ensures, c.if-too_short.false, ← c.sound.ensures, c.if-not-sound.false)
