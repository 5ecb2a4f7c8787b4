-- A shut gate leaves everything (`take_shut`); behind an open one the ordered streams are as `take_next` requires them, and the rest of the end stays.
use mathlib.Core.Path.{sym, ◌∙◌}
use Rattle.ends.specs.State.{State, lending}
use native.Mathlib.Omega.{arith}
use Rattle.ends.proofs.Opened.{opened}
use Rattle.link_incoming.proofs.Ways.{take_shut, take_open}
use Rattle.link_incoming.proofs.taking.take.Goals as goal
use Rattle.link_incoming.proofs.taking.take.Goals.{Start}

abbrev whole : Start → State
whole c = lending c.args.end c.args.received.now c.args.number.now c.args.records.now c.args.payloads.now c.args.slots.now c.args.entry.now c.args.header.now c.args.joined.now c.args.index.now c.args.lengths.now c.args.held.now

pub returns-in-Err : goal.returns-in-Err
returns-in-Err c =
    let s = (goal.at.returns-in-Err c).Start in
    take_shut s.args.sizes (whole s) s.args.output.now c.in-Err.why s.args.stream (sym c.check.ensures ∙ c.in-Err.is)

pub take_next-after-requires : goal.take_next-after-requires
take_next-after-requires c =
    let s = (goal.at.take_next-after-requires c).Start in
    let o = opened s.args.sizes (whole s) s.args.output.now (sym c.check.ensures ∙ c.in_default.is) in
    (o.ordered, omega (arith, o.output_room))

pub returns : goal.returns
returns c =
    let s = (goal.at.returns c).Start in
    rw c.left_by.ensures (take_open s.args.sizes (whole s) s.args.output.now s.args.stream _ _ _ _ _ (sym c.check.ensures ∙ c.in_default.is) c.take_next-after.ensures)
