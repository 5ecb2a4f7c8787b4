-- What `key_parts::laps` says of the part that is lent to it.
use mathlib.Core.Path.{sym}
use lib.Seq.{length-take-le}
use Rattle.received.specs.Record.{slot_count}
use Rattle.acks.proofs.home.is_lapped.Goals as goal

pub slice_bounds-is_lapped-end : goal.slice_bounds-is_lapped-end
slice_bounds-is_lapped-end c = sym (length-take-le slot_count c.args.received.now c.requires)

pub is_lapped-requires : goal.is_lapped-requires
is_lapped-requires c = length-take-le slot_count c.args.received.now c.requires
