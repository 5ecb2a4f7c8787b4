-- Slots in laps have no number twice.
use mathlib.Core.Path.{sym, ap}
use mathlib.Core.Bool.{not}
use lib.Seq.{length-take-le}
use Rattle.received.specs.Record.{slot_count}
use Rattle.acks.proofs.home.is_record_sound.Goals as goal

pub returns-then-lapped : goal.returns-then-lapped
returns-then-lapped c = sym (ap not (c.requires.1 c.if-lapped.true))

pub slice_bounds-has_twice-end : goal.slice_bounds-has_twice-end
slice_bounds-has_twice-end c = sym (length-take-le slot_count c.args.received.now c.requires.0)

pub returns : goal.returns
returns c = ap not c.has_twice.ensures
