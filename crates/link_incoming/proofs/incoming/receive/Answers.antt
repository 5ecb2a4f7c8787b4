-- A shut gate leaves everything (`receive_shut`); an open one is all that the crate below requires.
use mathlib.Core.Path.{sym}
use Rattle.ends.specs.State.{State, lending}
use Rattle.link_incoming.proofs.Ways.{receive_shut, receive_open}
use Rattle.link_incoming.proofs.incoming.receive.Goals as goal
use Rattle.link_incoming.proofs.incoming.receive.Goals.{Start}

abbrev whole : Start → State
whole c = lending c.args.end c.args.received.now c.args.number.now c.args.records.now c.args.payloads.now c.args.slots.now c.args.entry.now c.args.header.now c.args.joined.now c.args.index.now c.args.lengths.now c.args.held.now

pub returns-in-Err : goal.returns-in-Err
returns-in-Err c =
    let s = (goal.at.returns-in-Err c).Start in
    rw c.refused.ensures (receive_shut s.args.sizes (whole s) s.args.output.now c.in-Err.why s.args.datagram.now (sym c.in-Err.ensures.gate_value))

pub returns : goal.returns
returns c =
    let s = (goal.at.returns c).Start in
    rw (receive_open s.args.sizes (whole s) s.args.output.now s.args.datagram.now (sym c.in-Ok.ensures.gate_value)) c.receive.ensures
