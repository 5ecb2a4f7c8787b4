-- The table's answer (`there`) picks the header that is told, or zeros.
use mathlib.Core.Path.{◌≡◌, sym, ◌∙◌}
use Rattle.packet_table.specs.Table.{has_acked}
use Rattle.datagrams.proofs.acknowledge.Goals as goal
use Rattle.datagrams.proofs.acknowledge.Goals.{After-has_acked}

there : (c : After-has_acked) → has_acked c.args.following c.args.id ≡ c.has_acked.result
there c = sym c.has_acked.ensures

pub returns-then-has_acked : goal.returns-then-has_acked
returns-then-has_acked c = rw (there (goal.at.returns-then-has_acked c).After-has_acked ∙ c.if-has_acked.true, c.ack_bitfield.ensures, ← c.remote_sequence_num.ensures)

pub returns : goal.returns
returns c = rw (there (goal.at.returns c).After-has_acked ∙ c.if-has_acked.false)
